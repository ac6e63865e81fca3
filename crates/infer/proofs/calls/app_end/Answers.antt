-- The end's answer with the rows.
use Rattle.errors.proofs.Thrown.{thrown}
use Rattle.inferred.proofs.Seen.{ok_end, err_end}
use Rattle.infer.proofs.Plainly.{app_end_gives}
use Rattle.infer.proofs.calls.app_end.Goals as goal

pub app_close-requires : goal.app_close-requires
app_close-requires c = record { base_len_bound = c.requires.base_len_bound; ready_app = c.requires.ready_app_end.close }

pub returns : goal.returns
returns c = app_end_gives c.requires.ready_app_end (ok_end c.in_ok-c.was (c.with_state.ensures _ _)) c.app_close.ensures

pub returns-in_err-c : goal.returns-in_err-c
returns-in_err-c c = rw (thrown _ c.from_residual.ensures.1) (app_end_gives c.requires.ready_app_end (err_end _ _ _ c.in_err-c.was) c.app_close.ensures)
