-- The loop's invariant: the rows before row i are settled.
use native.Mathlib.Omega.{arith}
use Rattle.pending.proofs.Aliases.{aliasing, aliased_all, aliased_ready, aliased_on}
use Rattle.pending.proofs.own.alias_rows.Goals as goal

pub loop-i-init : goal.loop-i-init
loop-i-init c = aliasing _ _ c.requires

pub settle_row-requires : goal.settle_row-requires
settle_row-requires c = aliased_ready c.loop-i.invariant c.requires c.loop-i-test.true

pub loop-i-preserved : goal.loop-i-preserved
loop-i-preserved c = aliased_on c.loop-i.invariant c.loop-i-test.true c.settle_row.ensures c.settle_row.auto.binders

pub shape_of-binders : goal.shape_of-binders
shape_of-binders c = c.loop-i.invariant.wide

pub returns : goal.returns
returns c = aliased_all c.loop-i.invariant (let l = c.loop-i-test.false in omega arith)
