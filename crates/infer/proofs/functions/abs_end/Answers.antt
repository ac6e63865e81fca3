-- The row put back, and the end's answer.
use Rattle.errors.proofs.Thrown.{thrown}
use Rattle.inferred.proofs.Seen.{ok_end, err_end}
use Rattle.infer.proofs.Plainly.{abs_end_row, abs_end_gives}
use Rattle.infer.proofs.functions.abs_end.Goals as goal

pub put-requires : goal.put-requires
put-requires c = abs_end_row c.requires.ready_abs_end

pub abs_close-requires : goal.abs_close-requires
abs_close-requires c = record { base_len_bound = c.requires.base_len_bound; ready_abs = c.requires.ready_abs_end.close }

pub returns : goal.returns
returns c = abs_end_gives c.requires.ready_abs_end c.put.ensures (ok_end c.in_ok-c.was (c.with_state.ensures _ _)) c.abs_close.ensures

pub returns-in_err-c : goal.returns-in_err-c
returns-in_err-c c = rw (thrown _ c.from_residual.ensures.1) (abs_end_gives c.requires.ready_abs_end c.put.ensures (err_end _ _ _ c.in_err-c.was) c.abs_close.ensures)
