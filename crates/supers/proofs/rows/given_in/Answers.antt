-- Each source has its own view.
use mathlib.Core.List.{◌++◌}
use Rattle.supers.proofs.GivenLaws.{from_list, from_rows}
use Rattle.supers.proofs.rows.given_in.Goals as goal

pub returns-in-Listed : goal.returns-in-Listed
returns-in-Listed c = from_list _ _ _ _ _ _ c.in-Listed.is c.listed_at.ensures

pub returns-in-Rows : goal.returns-in-Rows
returns-in-Rows c = from_rows c.args.base.now.names.now (c.args.base.now.words.now ++ c.args.work.now) c.args.binders.now c.args.top c.args.i c.args.l c.in-Rows.is c.requires c.next_row.ensures
