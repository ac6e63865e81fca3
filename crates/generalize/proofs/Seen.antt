-- What the code returned, as what it comes to.
use mathlib.Core.Path.{◌≡◌}
use Prim.Native.Nat.{ℕ}
use Rattle.std.specs.Prelude.{Result, Ok, Err}
use Rattle.errors.specs.declared.Refusal.{Refusal}
use Rattle.subst.specs.declared.Qual.{Qual}
use Rattle.subst.specs.AppliedQual.{Done as Qual-Done, Refused as Qual-Refused, qual_of}
use Rattle.generalize.specs.declared.naming.Naming.{Naming}
use Rattle.generalize.specs.Named.{Done, Refused, named_of}

-- Predicates and a type.
pub qual_is : {r : Result Qual Refusal} {q : Qual} {t l : ℕ} → r ≡ Ok q → qual_of r t l ≡ Qual-Done q.preds q.ty t l
qual_is e = rw e

-- A refusal of them.
pub no_qual_is : {r : Result Qual Refusal} {e : Refusal} {t l : ℕ} → r ≡ Err e → qual_of r t l ≡ Qual-Refused e t l
no_qual_is e = rw e

-- A scheme and a term.
pub named_is : {r : Result Naming Refusal} {q : Naming} {t l : ℕ} → r ≡ Ok q → named_of r t l ≡ Done q.scheme.vars q.scheme.preds q.scheme.ty q.term t l
named_is e = rw e

-- A refusal of these.
pub unnamed_is : {r : Result Naming Refusal} {e : Refusal} {t l : ℕ} → r ≡ Err e → named_of r t l ≡ Refused e t l
unnamed_is e = rw e
