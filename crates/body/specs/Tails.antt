-- A file section by section, from a place on to its end: what the definition reads there, and where it stands.
use Rattle.std.specs.Prelude.{◌≡◌, List, [], ℕ, ◌+◌, ◌<◌, ◌≤◌, length, get_or, Result, Ok, Err}
use Rattle.meaning.specs.Base.{count}
use Rattle.meaning.specs.Ast.{Ty, Expr, Decl}
use Rattle.meaning.specs.Reader.{got, bad, Reader, ◌>>=◌, pure, from, section, end_of_file}
use Rattle.meaning.specs.File.{File, type_node, expr_node, decl_entry}
use Rattle.errors.specs.Refusals.{refusal_of}
use Rattle.errors.specs.declared.Refusal.{Refusal}
use Rattle.nodes.specs.declared.Counts.{Counts}
use Rattle.nodes.specs.Known.{Before, Known}
use Rattle.reader.specs.Placing.{Placed}

-- What stands before, with these types or expressions.
abbrev pub with_types : Before → List Ty → Before
with_types s ts = record { names = s.names; types = ts; exprs = s.exprs }

abbrev pub with_exprs : Before → List Expr → Before
with_exprs s es = record { names = s.names; types = s.types; exprs = es }

-- The rest of `sections`, after the expressions, after the types and after the names.
unfoldable pub after_exprs : Before → Reader File
after_exprs s = do
  ds ← section 512 (λ earlier. decl_entry s.names s.types s.exprs)
  _ ← end_of_file
  pure (record { names = s.names; types = s.types; exprs = s.exprs; decls = ds })

unfoldable pub after_types : Before → Reader File
after_types s = do
  es ← section 4_096 (expr_node s.names)
  after_exprs (with_exprs s es)

unfoldable pub after_names : Before → Reader File
after_names s = do
  ts ← section 4_096 (type_node s.names)
  after_types (with_types s ts)

-- The declarations from the place at on, d of them, up to the end of the file.
pub record Declarations (bytes ix : List ℕ) (s : Before) (at d : ℕ) : Type 0 where
  pub decls : List Decl
  pub read : section 512 (λ earlier. decl_entry s.names s.types s.exprs) at (from at bytes) ≡ got decls (length bytes) []
  pub many : count decls ≡ d
  pub placed : Placed bytes ix 10_240 (λ earlier. decl_entry s.names s.types s.exprs) decls (at + 2) (length bytes)

-- c expressions, and the declarations after them.
pub record Expressions (bytes ix : List ℕ) (s : Before) (at c d : ℕ) : Type 0 where
  pub exprs : List Expr
  pub end : ℕ
  pub read : section 4_096 (expr_node s.names) at (from at bytes) ≡ got exprs end (from end bytes)
  pub many : count exprs ≡ c
  pub placed : Placed bytes ix 6_144 (expr_node s.names) exprs (at + 2) end
  pub rest : Declarations bytes ix (with_exprs s exprs) end d

-- b types, and what follows them.
pub record Types (bytes ix : List ℕ) (s : Before) (at b c d : ℕ) : Type 0 where
  pub types : List Ty
  pub end : ℕ
  pub read : section 4_096 (type_node s.names) at (from at bytes) ≡ got types end (from end bytes)
  pub many : count types ≡ b
  pub placed : Placed bytes ix 2_048 (type_node s.names) types (at + 2) end
  pub rest : Expressions bytes ix (with_types s types) end c d

-- What an answer says of the rest of a file.
abbrev pub DeclsAs : List ℕ → List ℕ → Counts → Before → ℕ → Result Counts Refusal → Type 0
DeclsAs bytes ix n s at (Ok m) = (m.names ≡ n.names) × (m.types ≡ n.types) × (m.exprs ≡ n.exprs) × Declarations bytes ix s at m.decls
DeclsAs bytes ix n s at (Err e) = after_exprs s at (from at bytes) ≡ bad (refusal_of [] [] e)

abbrev pub ExprsAs : List ℕ → List ℕ → Counts → Before → ℕ → Result Counts Refusal → Type 0
ExprsAs bytes ix n s at (Ok m) = (m.names ≡ n.names) × (m.types ≡ n.types) × Expressions bytes ix s at m.exprs m.decls
ExprsAs bytes ix n s at (Err e) = after_types s at (from at bytes) ≡ bad (refusal_of [] [] e)

abbrev pub TypesAs : List ℕ → List ℕ → Counts → Before → ℕ → Result Counts Refusal → Type 0
TypesAs bytes ix n s at (Ok m) = (m.names ≡ n.names) × Types bytes ix s at m.types m.exprs m.decls
TypesAs bytes ix n s at (Err e) = after_names s at (from at bytes) ≡ bad (refusal_of [] [] e)

-- The index became ix', and changed from the word base up to the last place of a declaration only; the answer is right for
-- whatever stands before.
pub record GivesTail (As : List ℕ → List ℕ → Counts → Before → ℕ → Result Counts Refusal → Type 0) (base : ℕ) (bytes ix ix' : List ℕ) (n : Counts) (at : ℕ) (r : Result Counts Refusal) : Type 0 where
  pub low : (j : ℕ) → j < base → get_or ix' j 0 ≡ get_or ix j 0
  pub high : (j : ℕ) → 10_752 ≤ j → get_or ix' j 0 ≡ get_or ix j 0
  pub is : (s : Before) → Known ix n s → As bytes ix' n s at r
