-- No pair is made.
use Rattle.pairs.proofs.Start.{made_empty}
use Rattle.pairs.proofs.Subst.empty.Goals as goal

pub returns : goal.returns
returns c = made_empty _
