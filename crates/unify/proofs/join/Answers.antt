-- The regions lie side by side, as `compose_in` has them.
use Rattle.unify.proofs.Single.{joins}
use Rattle.unify.proofs.join.Goals as goal

pub returns : goal.returns
returns c = joins c.requires.ready_join c.compose_in.ensures
