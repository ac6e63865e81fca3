-- An end's answer gets rows and counters; the check finds alone that a refusal is handed on.
use Rattle.inferred.proofs.Seen.{ok_end}
use Rattle.inferred.proofs.with_state.Goals as goal

pub returns : goal.returns
returns c = λ top left. ok_end c.in_ok-end.was (c.with_state.ensures top left)
