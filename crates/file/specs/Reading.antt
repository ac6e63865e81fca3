-- A session file read: its names, types, expressions and declarations, each where the index says; or the refusal.
use Rattle.std.specs.Prelude.{◌≡◌, List, [], ℕ, ◌<◌, length, get_or, Result, Ok, Err}
use Rattle.std.proofs.Math.Option.{some}
use Rattle.meaning.specs.Base.{count, nth}
use Rattle.meaning.specs.Ast.{Name}
use Rattle.meaning.specs.Reader.{got, bad, Reader, from}
use Rattle.meaning.specs.File as M
use Rattle.errors.specs.Refusals.{refusal_of}
use Rattle.errors.specs.declared.Refusal.{Refusal}
use Rattle.names.specs.Names.{Names, name_of}
use Rattle.rows.specs.BuiltIns.{BuiltIns}
use Rattle.nametable.specs.Tables.{NameKnown}
use Rattle.reader.specs.Placing.{upto, Placed}
use Rattle.nodes.specs.declared.Counts.{Counts}

-- The items of a section, one after the other from a place on, each at its word of the index.
pub record Places {A : Type 0} (bytes ix : List ℕ) (base : ℕ) (r : List A → Reader A) (xs : List A) : Type 0 where
  pub start : ℕ
  pub end : ℕ
  pub placed : Placed bytes ix base r xs start end

-- The names table ns and the index ix hold the file f, which has a names, b types, c expressions and d declarations.
pub record Indexed (bytes ns ix : List ℕ) (f : M.File) (a b c d : ℕ) : Type 0 where
  pub names_many : count f.names ≡ a
  pub types_many : count f.types ≡ b
  pub exprs_many : count f.exprs ≡ c
  pub decls_many : count f.decls ≡ d
  pub table : Names ns
  pub built : BuiltIns ns
  pub names : (i : ℕ) (x : Name) → nth f.names i ≡ some x → NameKnown ns ix i x
  pub names_end : ℕ
  pub names_at : Placed bytes ix 10_752 M.name_entry f.names 2 names_end
  pub types : Places bytes ix 2_048 (M.type_node f.names) f.types
  pub exprs : Places bytes ix 6_144 (M.expr_node f.names) f.exprs
  pub decls : Places bytes ix 10_240 (λ earlier. M.decl_entry f.names f.types f.exprs) f.decls

-- What the definition reads, whole.
abbrev pub ReadsAs : List ℕ → List ℕ → List ℕ → Result Counts Refusal → Type 0
ReadsAs bytes ns ix (Ok m) = (f : M.File) × (M.read bytes ≡ got f (length bytes) []) × Indexed bytes ns ix f m.names m.types m.exprs m.decls
ReadsAs bytes ns ix (Err e) = M.read bytes ≡ bad (refusal_of [] [] e)

-- The answer to a file's bytes, with the names table and the index as they are left.
pub record Reads (bytes ns ix : List ℕ) (r : Result Counts Refusal) : Type 0 where
  pub is : ReadsAs bytes ns ix r

-- A number r of a name: in the table of a file that is read it is the number of the file's i-th name, one of its rows.
pub record IsName (ix : List ℕ) (i r : ℕ) : Type 0 where
  pub word : r ≡ get_or ix i 0
  pub is : (bytes ns : List ℕ) (f : M.File) (a b c d : ℕ) → Indexed bytes ns ix f a b c d → (x : Name) → nth f.names i ≡ some x → name_of ns r ≡ x
  pub small : (bytes ns : List ℕ) (f : M.File) (a b c d : ℕ) → Indexed bytes ns ix f a b c d → (x : Name) → nth f.names i ≡ some x → r < 1_059

-- A place r: in a file that is read the definition reads the i-th name there, after the names before it.
pub record IsPlace (ix : List ℕ) (i r : ℕ) : Type 0 where
  pub is : (bytes ns : List ℕ) (f : M.File) (a b c d : ℕ) → Indexed bytes ns ix f a b c d → (x : Name) → nth f.names i ≡ some x
      → (end : ℕ) × (M.name_entry (upto i f.names) r (from r bytes) ≡ got x end (from end bytes))
