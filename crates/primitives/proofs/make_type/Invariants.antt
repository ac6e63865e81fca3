-- The loop's invariant: i of the arrows are made.
use mathlib.Core.List.{◌++◌}
use Rattle.primitives.proofs.Typed.{Typing}
use Rattle.primitives.proofs.make_type.Given as goal

abbrev pub invariant-loop-i : goal.invariant-loop-i
invariant-loop-i l = Typing (l.base.words.now ++ l.initial.work) (l.base.words.now ++ l.work) l.top l.many l.a l.b l.t l.i
