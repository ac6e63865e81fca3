-- What the code's matching means: the answer's pairs are just those that a map needs to take the pattern to the type; a
-- definite refusal says that no map does.
use mathlib.Core.Path.{◌≡◌}
use mathlib.Core.List.{List}
use mathlib.Core.Logic.{◌≢◌}
use Prim.Native.Nat.{ℕ, ◌*◌, ◌-◌}
use Rattle.meaning.specs.Ast.{Ty}
use Rattle.meaning.specs.Unify.{match_ty}
use Rattle.meaning.specs.Plain.{Fill, sub, filled}
use Rattle.theorems.proofs.Says.{Definite}
use Rattle.theorems.proofs.Joins.{Holds}
use Rattle.theorems.proofs.Theorems.{match_sound, match_exact, match_complete}
use Rattle.errors.specs.Refusals.{refusal_of}
use Rattle.pairs.specs.Pairs.{sub_at}
use Rattle.apply.specs.Applied.{Applied}
use Rattle.apply.specs.Applied.{Done, Refused}
use Rattle.compose.specs.Answers.{GivesU}

abbrev pub Matches : List ℕ → List ℕ → Ty → Ty → ℕ → Applied → Type 0
Matches ns w' p t sp (Done k top left) =
    (filled (sub_at ns w' (sp - 2 * k) k) p ≡ t)
    × ((θ : Fill) → (Holds θ (sub_at ns w' (sp - 2 * k) k) → sub θ p ≡ t) × (sub θ p ≡ t → Holds θ (sub_at ns w' (sp - 2 * k) k)))
Matches ns w' p t sp (Refused e top left) = Definite (refusal_of ns w' e) → (θ : Fill) → sub θ p ≢ t

pub match_means : (ns w w' : List ℕ) (top left sp : ℕ) (p t : Ty) (r : Applied) → GivesU 1 0 ns w w' top left sp (match_ty p t left) r → Matches ns w' p t sp r
match_means ns w w' top left sp p t (Done k top' left') g =
    let s = sub_at ns w' (sp - 2 * k) k in
    let e = g.answer.0 in
    (match_sound p t left s left' e, match_exact p t left s left' e)
match_means ns w w' top left sp p t (Refused e top' left') g = match_complete p t left (refusal_of ns w' e) left' g.answer.is
