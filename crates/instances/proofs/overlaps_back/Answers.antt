-- The match of b with a decides.
use Rattle.errors.proofs.Thrown.{thrown}
use Rattle.instances.proofs.Seen.{tried_is, limit_is}
use Rattle.instances.proofs.Attempts.{back_told, back_refused}
use Rattle.instances.proofs.overlaps_back.Goals as goal

pub returns-in_err-r-clause-gives : goal.returns-in_err-r-clause-gives
returns-in_err-r-clause-gives c = rw (thrown _ c.from_residual.ensures.1) (back_refused c.requires.ready_u c.try_match.ensures.gives (limit_is c.in_err-r.was))

pub returns-clause-gives : goal.returns-clause-gives
returns-clause-gives c = back_told c.requires.ready_u c.try_match.ensures.gives _ _ _ _ (tried_is _ _ c.in_ok-r.was) c.is_some.ensures
