-- `compose::merge_in` meets its contract. The loop's invariant: the first j pairs are left to be added.
use mathlib.Core.List.{◌++◌}
use Rattle.compose.proofs.Joined.{Merging}
use Rattle.compose.proofs.merge_in.Given as goal

abbrev pub invariant-loop-j : goal.invariant-loop-j
invariant-loop-j l = Merging l.base.names.now (l.base.words.now ++ l.initial.work) (l.base.words.now ++ l.work) l.sides.lo l.sides.k2 l.sides.k1 l.j l.c
