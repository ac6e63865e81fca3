-- `compose::agree` meets its contract. The loop's invariant: the first i pairs agree.
use mathlib.Core.List.{◌++◌}
use Rattle.compose.proofs.Agreeing.{Agreeing}
use Rattle.compose.proofs.agree.Given as goal

abbrev pub invariant-loop-i : goal.invariant-loop-i
invariant-loop-i l = Agreeing l.base.names.now (l.base.words.now ++ l.work) l.sides.lo l.sides.k2 l.sides.k1 l.i
