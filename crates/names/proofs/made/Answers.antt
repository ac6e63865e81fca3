-- `names::made` meets its contract. The loop's invariant: the digits after n are packed. The measure is n. Assumes nothing.
use mathlib.Core.Path.{refl}
use native.Mathlib.Omega.{arith}
use Rattle.names.specs.Keys.{bytes_of, four}
use Rattle.names.proofs.Digits.{none_spelled, one_spelled, all_spelled}
use Rattle.names.proofs.made.Goals as goal

pub loop-n-init : goal.loop-n-init
unfolding bytes_of four
loop-n-init c = none_spelled _ _ (omega arith) refl

pub loop-n-preserved : goal.loop-n-preserved
loop-n-preserved c = one_spelled _ _ _ _ c.loop-n-test.true c.loop-n.invariant c.push-e.ensures

pub returns : goal.returns
returns c = all_spelled _ _ _ _ _ (omega arith) c.loop-n.invariant c.push-f.ensures c.push.ensures
