-- What stands in a file before a place, what the code knows of it, and what it says of what it reads there.
use Rattle.std.specs.Prelude.{◌≡◌, List, ℕ, ◌+◌, get_or, Result}
use Rattle.std.proofs.Math.Option.{some}
use Rattle.meaning.specs.Base.{count, nth}
use Rattle.meaning.specs.Ast.{Name, Ty, Expr}
use Rattle.meaning.specs.Reader.{Reader, from}
use Rattle.spelling.specs.Forms.{FormWord}
use Rattle.errors.specs.declared.Refusal.{Refusal}
use Rattle.reader.specs.Verdicts.{Verdict}
use Rattle.nodes.specs.declared.Counts.{Counts}

-- The names, types and expressions that were read before.
pub record Before : Type 0 where
  pub names : List Name
  pub types : List Ty
  pub exprs : List Expr

-- Nothing is known of it.
abbrev pub Any : Before → Type 0
Any s = Unit {0}

-- How many there are of each.
pub record Sized (n : Counts) (s : Before) : Type 0 where
  pub names : count s.names ≡ n.names
  pub types : count s.types ≡ n.types
  pub exprs : count s.exprs ≡ n.exprs

-- The index has the form of the i-th name in its word 1,024 + i.
pub record Forms (ix : List ℕ) (ns : List Name) : Type 0 where
  pub at : (i : ℕ) (x : Name) → nth ns i ≡ some x → FormWord x (get_or ix (1_024 + i) 0)

-- How many there are of each, and the forms of the names.
pub record Known (ix : List ℕ) (n : Counts) (s : Before) : Type 0 where
  pub sized : Sized n s
  pub forms : Forms ix s.names

-- The place r is right for a reader of the file from the place at on, whatever stands before it that meets P.
pub record Gives {A : Type 0} (P : Before → Type 0) (bytes : List ℕ) (read : Before → Reader A) (at : ℕ) (r : Result ℕ Refusal) : Type 0 where
  pub is : (s : Before) → P s → Verdict bytes (read s at (from at bytes)) r
