-- The rows, then their list.
use native.Mathlib.Omega.{arith}
use Rattle.pairs.proofs.Frames.{long}
use Rattle.errors.proofs.Thrown.{thrown}
use Rattle.canonical.proofs.Seen.{renamed_is, unrenamed_is}
use Rattle.canonical.proofs.Listing.{rows_refused, rows_more, rows_ready, rows_listed}
use Rattle.canonical.proofs.renamed.rename_rows.Goals as goal

pub list_preds-requires : goal.list_preds-requires
list_preds-requires c = let x = c.requires.base_len_bound in let y = rows_more c.requires.ready_rename c.rename_types.ensures (renamed_is c.in_ok-rename_types.was) in record { base_len_bound = omega arith; ready_list = rows_ready c.requires.ready_rename c.rename_types.ensures (renamed_is c.in_ok-rename_types.was) (long c.args.base.now.words.now c.rename_types.new.work c.args.work.now c.rename_types.auto.work) }

pub returns : goal.returns
returns c = rw c.list_preds.ensures.left (rows_listed c.requires.ready_rename c.rename_types.ensures (renamed_is c.in_ok-rename_types.was) c.list_preds.ensures.preds)

pub returns-in_err-rename_types : goal.returns-in_err-rename_types
returns-in_err-rename_types c = rw (thrown _ c.from_residual.ensures.1) (rows_refused c.requires.ready_rename c.rename_types.ensures (unrenamed_is c.in_err-rename_types.was))
