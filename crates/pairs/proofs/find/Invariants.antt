-- The loop's invariant: what is left of the pairs has for x what all of them have.
use mathlib.Core.List.{◌++◌}
use Prim.Native.Nat.{◌+◌, ◌*◌, ◌-◌}
use Rattle.pairs.proofs.Looks.{Looking}
use Rattle.pairs.proofs.find.Given as goal

abbrev pub invariant-loop-j : goal.invariant-loop-j
invariant-loop-j l = Looking (l.base.words.now ++ l.work) l.sub.at l.sub.k l.x (l.sub.at + 2 * l.j) (l.sub.k - l.j)
