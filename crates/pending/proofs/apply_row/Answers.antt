-- Each way out by its law.
use Rattle.errors.proofs.Thrown.{thrown}
use Rattle.apply.proofs.Seen.{ok_is, err_is}
use Rattle.pending.proofs.Sweeps.{sweep_passed, sweep_ready, sweep_done, sweep_lost}
use Rattle.pending.proofs.apply_row.Goals as goal

pub returns-in_default : goal.returns-in_default
returns-in_default c = sweep_passed c.requires.ready_sweep c.row_at-q.ensures c.in_default.is

pub apply-requires : goal.apply-requires
apply-requires c = record { base_len_bound = c.requires.base_len_bound; ready = sweep_ready c.requires.ready_sweep c.row_at-q.ensures c.in-Pending.is }

pub returns : goal.returns
returns c = sweep_done c.requires.ready_sweep c.row_at-q.ensures c.in-Pending.is c.apply.ensures (ok_is c.in_ok-u.was) c.put_row.ensures

pub returns-in_err-u : goal.returns-in_err-u
returns-in_err-u c = rw (thrown _ c.from_residual.ensures.1) (sweep_lost c.requires.ready_sweep c.row_at-q.ensures c.in-Pending.is c.apply.ensures (err_is c.in_err-u.was))
