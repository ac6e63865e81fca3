-- The loop's invariant: of the rows before row i the deferred ones are in front.
use native.Mathlib.Omega.{arith}
use Rattle.pending.proofs.Defers.{deferring, deferred_all, deferred_ready, deferred_on}
use Rattle.pending.proofs.own.defer_rows.Goals as goal

pub loop-i-init : goal.loop-i-init
loop-i-init c = deferring _ _ c.requires

pub defer_row-nd-requires : goal.defer_row-nd-requires
defer_row-nd-requires c = record { nd_le_i = c.loop-i.invariant.most; ready_own = deferred_ready c.loop-i.invariant c.requires c.loop-i-test.true }

pub loop-i-preserved : goal.loop-i-preserved
loop-i-preserved c = deferred_on c.loop-i.invariant c.loop-i-test.true c.defer_row-nd.ensures c.defer_row-nd.auto.binders

pub shape_of-binders : goal.shape_of-binders
shape_of-binders c = c.loop-i.invariant.wide

pub returns : goal.returns
returns c = deferred_all c.loop-i.invariant (let l = c.loop-i-test.false in omega arith)
