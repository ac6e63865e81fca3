-- The loop's invariant: i of the arrows are made.
use native.Mathlib.Omega.{arith}
use Rattle.ast.proofs.Join.{joined}
use Rattle.primitives.proofs.Typed.{none_typed, one_typed, all_typed}
use Rattle.primitives.proofs.make_type.Goals as goal

pub loop-i-preserved : goal.loop-i-preserved
loop-i-preserved c = one_typed c.requires.node c.requires.many_in_bounds (let k = c.well_formed.1.0.0 in let j = joined c.args.base.now.words.now c.args.work.now in omega arith) c.loop-i.invariant c.loop-i-test.true c.push.ensures

pub returns : goal.returns
returns c = all_typed c.loop-i.invariant (let l = c.loop-i-test.false in omega arith)

pub loop-i-init : goal.loop-i-init
loop-i-init c = none_typed _ _ c.requires.node_2
