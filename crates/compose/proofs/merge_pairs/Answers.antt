-- `compose::merge_pairs` meets its contract: where the regions agree they become one.
use Rattle.errors.proofs.Thrown.{thrown}
use Rattle.compose.proofs.Agreeing.{pairs_merged, pairs_clash}
use Rattle.compose.proofs.merge_pairs.Goals as goal

pub returns : goal.returns
returns c = pairs_merged c.requires.both c.agree.ensures c.in_ok-agree.was c.merge_in.ensures

pub returns-in_err-agree : goal.returns-in_err-agree
returns-in_err-agree c = rw (thrown _ c.from_residual.ensures.1) (pairs_clash c.requires.both c.agree.ensures c.in_err-agree.was)
