-- The row put back, and the end's answer.
use Rattle.errors.proofs.Thrown.{thrown}
use Rattle.inferred.proofs.Seen.{ok_end, err_end}
use Rattle.infer.proofs.Plainly.{let_end_row, let_end_gives}
use Rattle.infer.proofs.inside.let_end.Goals as goal

pub put-requires : goal.put-requires
put-requires c = let_end_row c.requires.ready_let_end

pub let_close-requires : goal.let_close-requires
let_close-requires c = record { base_len_bound = c.requires.base_len_bound; ready_let = c.requires.ready_let_end.close }

pub returns : goal.returns
returns c = let_end_gives c.requires.ready_let_end c.put.ensures (ok_end c.in_ok-e.was (c.with_state.ensures _ _)) c.let_close.ensures

pub returns-in_err-e : goal.returns-in_err-e
returns-in_err-e c = rw (thrown _ c.from_residual.ensures.1) (let_end_gives c.requires.ready_let_end c.put.ensures (err_end _ _ _ c.in_err-e.was) c.let_close.ensures)
