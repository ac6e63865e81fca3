-- The loop's invariant: the pass has come to row r.
use Rattle.order.proofs.Gathering.{Passing}
use Rattle.order.proofs.pass.Given as goal

abbrev pub invariant-loop-r : goal.invariant-loop-r
invariant-loop-r l = Passing l.names l.initial.order l.order l.low l.m l.r
