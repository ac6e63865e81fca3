-- A match, a refusal below 11, or no match.
use Rattle.apply.proofs.Seen.{ok_is, err_is}
use Rattle.instances.proofs.Attempts.{try_got, try_limit, try_failed}
use Rattle.instances.proofs.try_match.Goals as goal

pub returns-then-number-lt11-clause-gives : goal.returns-then-number-lt11-clause-gives
returns-then-number-lt11-clause-gives c = try_limit c.match_ty.ensures (err_is c.in-Err.is) c.number.ensures c.if-number-lt11.true

pub returns-in-Ok-clause-gives : goal.returns-in-Ok-clause-gives
returns-in-Ok-clause-gives c = try_got c.match_ty.ensures (ok_is c.in-Ok.is)

pub returns-else-number-lt11-clause-gives : goal.returns-else-number-lt11-clause-gives
returns-else-number-lt11-clause-gives c = try_failed c.match_ty.ensures (err_is c.in-Err.is) c.number.ensures c.if-number-lt11.false
