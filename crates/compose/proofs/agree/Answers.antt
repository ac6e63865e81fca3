-- `compose::agree` meets its contract. The loop's invariant: the first i pairs agree.
use Rattle.compose.proofs.Agreeing.{agreeing, second_node_of, nothing, agreeing_absent, agreeing_same, agreed_not, agreed}
use Rattle.compose.proofs.agree.Goals as goal
use Rattle.compose.proofs.agree.Goals.{in-Some+else-not-same, in_default}

pub loop-i-init : goal.loop-i-init
loop-i-init c = agreeing _ _ _ _ _

pub same-requires-clause-node_2 : goal.same-requires-clause-node_2
same-requires-clause-node_2 c = second_node_of _ c.requires c.find-f.ensures c.in-Some.is

pub returns-then-not-same : goal.returns-then-not-same
returns-then-not-same c = agreed_not c.loop-i.invariant c.requires.names c.loop-i-test.true c.index-x.ensures c.index-v.ensures c.find-f.ensures c.in-Some.is c.same.ensures (mathlib.Core.Path.ap mathlib.Core.Bool.not c.if-not-same.true) c.requires

pub loop-i-preserved : goal.loop-i-preserved
loop-i-preserved c = elim c.match-f.branch [
  | in-Some+else-not-same w ↦ agreeing_same c.loop-i.invariant c.requires.names c.loop-i-test.true c.index-x.ensures c.index-v.ensures c.find-f.ensures w.in-Some.is w.same.ensures (mathlib.Core.Path.ap mathlib.Core.Bool.not w.if-not-same.false)
  | in_default w ↦ agreeing_absent c.loop-i.invariant c.requires.names c.loop-i-test.true c.index-x.ensures c.index-v.ensures c.find-f.ensures (nothing _ w.in_default.not-Some)
]

pub returns : goal.returns
returns c = agreed c.loop-i.invariant c.loop-i-test.false
