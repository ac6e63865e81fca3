-- `sections::section` meets its contract. Assumes nothing.
use Rattle.errors.proofs.Thrown.{thrown}
use Rattle.sections.proofs.Going.{section_read, section_stops, section_bad}
use Rattle.sections.proofs.section.Goals as goal

pub returns-in_err-count : goal.returns-in_err-count
returns-in_err-count c = rw (thrown _ c.from_residual.ensures.1) (section_bad _ _ _ c.args.part _ _ (rw c.limit.ensures at c.in_err-count.ensures))

pub returns-in_err-end : goal.returns-in_err-end
returns-in_err-end c = rw (thrown _ c.from_residual-in_err-end.ensures.1) (section_stops _ _ _ _ c.args.part _ _ (rw c.limit.ensures at c.in_ok-count.ensures) _ c.in_err-end.ensures)

pub returns : goal.returns
returns c = section_read _ _ _ _ c.args.part _ _ (rw c.limit.ensures at c.in_ok-count.ensures) _ c.in_ok-end.ensures
