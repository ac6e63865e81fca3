-- The row moves, or nothing changes.
use Rattle.pending.proofs.Defers.{late_moves, late_stays}
use Rattle.pending.proofs.own.defer_row.Goals as goal

pub returns-then-late : goal.returns-then-late
returns-then-late c = late_moves c.is_late-late.ensures c.if-late.true c.rotate.ensures

pub returns : goal.returns
returns c = late_stays _ _ _ c.is_late-late.ensures c.if-late.false
