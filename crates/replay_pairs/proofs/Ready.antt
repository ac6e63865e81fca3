-- A case that was tested is one.
use mathlib.Core.List.{List}
use Prim.Native.Nat.{ℕ, ◌≤◌}
use lib.ListN.{length}
use Rattle.names.specs.Names.{Names}
use Rattle.compose.specs.Answers.{ReadyU}
use Rattle.cases.specs.Tested.{Fits}

-- What unification and matching ask, where the stack ends after n words.
pub is_ready : {ns w : List ℕ} {n top left s t : ℕ} → Names ns → n ≤ length w → Fits w n top left s t → ReadyU ns w top left n s t
is_ready N h F = record { names = N; first = F.first; second = F.second; room = F.room; fits = h }
