-- The loop's invariant: r is the dictionary of frame j, and j nodes were made.
use mathlib.Core.Path.{◌≡◌}
use Prim.Native.Nat.{◌+◌}
use mathlib.Core.List.{◌++◌}
use Rattle.supers.proofs.Building.{Building}
use Rattle.supers.proofs.path.build.Given as goal

abbrev pub invariant-loop-j : goal.invariant-loop-j
invariant-loop-j l = (l.room.top ≡ l.initial.room.top + l.j) × (l.room.left ≡ l.initial.room.left) × Building (l.base.words.now ++ l.initial.work) l.initial.room.top l.sp l.d l.e (l.base.words.now ++ l.work) l.r l.j
