-- `sections::items` meets its contract. Assumes nothing.
use mathlib.Core.Path.{refl}
use Rattle.errors.proofs.Thrown.{thrown}
use Rattle.sections.proofs.Going.{going_first, going_next, going_bad, going_last}
use Rattle.sections.proofs.items.Goals as goal

pub loop-i-init : goal.loop-i-init
loop-i-init c = going_first _ _ _ _ _ _ c.requires.at_in_bounds c.requires.index_len

pub returns-in_err-place : goal.returns-in_err-place
returns-in_err-place c = rw (thrown _ c.from_residual.ensures.1) (going_bad _ _ _ _ _ _ _ _ _ _ _ c.loop-i.invariant c.requires.names_bound c.loop-i-test.true c.base-base.ensures refl _ c.in_err-place.ensures)

pub loop-i-preserved : goal.loop-i-preserved
loop-i-preserved c = going_next _ _ _ _ _ _ _ _ _ _ _ c.loop-i.invariant c.requires.names_bound c.loop-i-test.true c.base-base.ensures refl _ c.requires.count_bound c.in_ok-place.ensures

pub returns : goal.returns
returns c = going_last _ _ _ _ _ _ _ _ _ c.loop-i.invariant c.loop-i-test.false
