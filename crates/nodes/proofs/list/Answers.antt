-- `nodes::list` meets its contract. Assumes nothing.
use Rattle.nodes.proofs.Numbers.{refused}
use Rattle.nodes.proofs.Loops.{left_all, left_less, left_bad, left_none, list_items, list_bad}
use Rattle.nodes.proofs.list.Goals as goal

pub returns-in_err-count : goal.returns-in_err-count
returns-in_err-count c = refused _ _ _ _ _ _ c.from_residual.ensures.1 (list_bad _ _ _ _ _ c.in_err-count.ensures)

pub loop-init : goal.loop-init
loop-init c = left_all _ _ _ _ _ c.in_ok-count.ensures.is.2

pub returns-in_err-place : goal.returns-in_err-place
returns-in_err-place c = refused _ _ _ _ _ _ c.from_residual-in_err-place.ensures.1 (list_items _ _ _ _ _ _ c.in_ok-count.ensures (left_bad _ _ _ _ _ _ _ _ c.loop.invariant c.loop-test.true c.in_err-place.ensures))

pub loop-preserved : goal.loop-preserved
loop-preserved c = left_less _ _ _ _ _ _ _ _ c.loop.invariant c.loop-test.true c.in_ok-place.ensures

pub returns : goal.returns
returns c = list_items _ _ _ _ _ _ c.in_ok-count.ensures (left_none _ _ _ _ _ _ _ c.loop.invariant c.loop-test.false)
