-- `compose::compose_in` meets its contract: the first region is applied to the types of the other, and then both become one.
use Rattle.errors.proofs.Thrown.{thrown}
use Rattle.compose.proofs.Values.{composed, composed_fails}
use Rattle.compose.proofs.compose_in.Goals as goal

pub returns : goal.returns
returns c = composed c.sweep.ensures c.in_ok-sweep.was c.merge_in.ensures

pub returns-in_err-sweep : goal.returns-in_err-sweep
returns-in_err-sweep c = rw (thrown _ c.from_residual.ensures.1) (composed_fails c.sweep.ensures c.in_err-sweep.was)
