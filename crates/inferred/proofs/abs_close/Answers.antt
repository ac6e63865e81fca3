-- What `abs_end` gave, with the body's pairs and rows.
use Rattle.errors.proofs.Thrown.{thrown}
use Rattle.ends.proofs.Returned.{function_is, function_refused}
use Rattle.pairs.proofs.Frames.{long}
use Rattle.inferred.proofs.Ends.{abs_asks, abs_lost, abs_closed}
use Rattle.inferred.proofs.abs_close.Goals as goal

pub abs_end-requires : goal.abs_end-requires
abs_end-requires c = record { base_len_bound = c.requires.base_len_bound; ready_abs = abs_asks c.requires.ready_abs }

pub returns : goal.returns
returns c = abs_closed c.requires.ready_abs c.args.x c.abs_end.ensures (function_is c.in_ok-f.was) (long c.args.base.now.words.now c.abs_end.new.work c.args.work.now c.abs_end.auto.work)

pub returns-in_err-f : goal.returns-in_err-f
returns-in_err-f c = rw (thrown _ c.from_residual.ensures.1) (abs_lost c.requires.ready_abs c.args.x c.abs_end.ensures (function_refused c.in_err-f.was))
