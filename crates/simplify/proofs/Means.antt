-- What the code's `simplify_context` means: a binder stays, or goes and follows from one that stays; what replaces it is a
-- projection of a binder.
use mathlib.Core.List.{List}
use Prim.Native.Nat.{ℕ}
use Rattle.meaning.specs.Classes.{ClassEnv}
use Rattle.theorems.proofs.Simplified as Plain
use Rattle.theorems.proofs.Theorems.{simplify_promise}
use Rattle.supers.specs.ClassTable.{Supers}
use Rattle.supers.specs.Rows.{binders_in}
use Rattle.simplify.specs.Simplified.{removed_in, GivesSimplified}
use Rattle.simplify.specs.Simplified.{Done}

pub simplify_means : (ns cl w w' bs bs' : List ℕ) (top left sp n : ℕ) (ce : ClassEnv) → Supers ns cl ce → (top' left' : ℕ)
    → GivesSimplified ns cl w w' bs bs' top left sp n (Done top' left') → Plain.Simplified ce (binders_in ns w bs 0 n) (binders_in ns w' bs' 0 n, removed_in ns w' bs bs' n)
simplify_means ns cl w w' bs bs' top left sp n ce S top' left' G =
    simplify_promise ce (binders_in ns w bs 0 n) left left' (binders_in ns w' bs' 0 n, removed_in ns w' bs bs' n) (G.answer.is ce S)
