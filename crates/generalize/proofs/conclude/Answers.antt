-- The test, then the names.
use Rattle.errors.proofs.Thrown.{thrown}
use Rattle.generalize.proofs.NameWays.{letters_asked}
use Rattle.generalize.proofs.TestWays.{conclude_named, conclude_refused}
use Rattle.generalize.proofs.conclude.Goals as goal

pub ambiguous-requires : goal.ambiguous-requires
ambiguous-requires c = letters_asked c.requires.ready_names

pub returns : goal.returns
returns c = conclude_named _ _ _ _ _ _ _ _ _ _ _ c.ambiguous.ensures c.in_ok-ambiguous.was c.name_all.ensures

pub returns-in_err-ambiguous : goal.returns-in_err-ambiguous
returns-in_err-ambiguous c = rw (thrown _ c.from_residual.ensures.1) (conclude_refused _ _ _ _ _ _ _ _ _ _ _ c.ambiguous.ensures c.in_err-ambiguous.was)
