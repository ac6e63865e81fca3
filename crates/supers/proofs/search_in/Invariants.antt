-- The outer loop's invariant: what all givens give is what those from g on give now; its measure is how much lies ahead. The
use mathlib.Core.Path.{◌≡◌}
use Prim.Native.Nat.{◌+◌, ◌*◌}
use mathlib.Core.List.{◌++◌}
use Rattle.supers.specs.Givens.{ahead}
use Rattle.supers.proofs.Walk.{Walking}
use Rattle.supers.proofs.Sought.{Asking}
use Rattle.supers.proofs.search_in.Given as goal

abbrev pub invariant-walk : goal.invariant-walk
invariant-walk l = (l.room.top ≡ l.top) × Walking l.base.names.now l.classes (l.base.words.now ++ l.initial.work) l.top l.sp l.initial.room.left l.goal l.same l.initial.r (l.base.words.now ++ l.work) l.room.left l.r l.d

abbrev pub decreases-walk : goal.decreases-walk
decreases-walk l = 2 * l.room.left + l.d

abbrev pub invariant-givens : goal.invariant-givens
invariant-givens l = (l.room.top ≡ l.top) × Asking l.base.names.now l.classes l.binders (l.base.words.now ++ l.initial.work) l.top l.initial.room.left l.sp l.source l.l l.proper l.goal l.t (l.base.words.now ++ l.work) l.g l.i l.room.left

abbrev pub decreases-givens : goal.decreases-givens
decreases-givens l = ahead l.source l.g
