-- `compose::place` meets its contract. The loop's invariant: the pair goes somewhere after the first j pairs.
use mathlib.Core.List.{◌++◌}
use Rattle.compose.proofs.Placed.{Placing}
use Rattle.compose.proofs.place.Given as goal

abbrev pub invariant-loop-j : goal.invariant-loop-j
invariant-loop-j l = Placing l.base.names.now (l.base.words.now ++ l.work) l.sub.at l.sub.k l.x l.j
