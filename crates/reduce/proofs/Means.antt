-- What the code's `reduce` means: residuals are distinct, variable-typed, asked for and not given; what is discharged is
-- derived; and givens and residuals derive all that was asked.
use mathlib.Core.List.{List}
use Prim.Native.Nat.{ℕ}
use Rattle.meaning.specs.Ast.{Pred}
use Rattle.meaning.specs.Classes.{ClassEnv, Given}
use Rattle.meaning.specs.Reduce.{reduce}
use Rattle.theorems.proofs.Reduced as Plain
use Rattle.theorems.proofs.Theorems.{reduce_promise}
use Rattle.resolve.specs.Resolves.{Declared}
use Rattle.reduce.specs.Reduces.{discharged_in, residuals_in, GivesReduced}
use Rattle.reduce.specs.Reduced.{Done}

pub reduce_means : (ns cl w w' il bs bs' : List ℕ) (top left sp n : ℕ) (gs : List Given) (ps : List Pred) (ce : ClassEnv) → Declared ns cl w top il ce → (top' left' : ℕ)
    → GivesReduced (Declared ns cl w top il) ns w w' bs bs' top left sp n (λ x. reduce x gs ps left) (Done top' left')
    → Plain.Reduced ce gs ps (discharged_in ns w w' bs bs' n, residuals_in ns w bs bs' n)
reduce_means ns cl w w' il bs bs' top left sp n gs ps ce D top' left' G = reduce_promise ce gs ps left left' (discharged_in ns w w' bs bs' n, residuals_in ns w bs bs' n) (G.answer.is ce D)
