-- The loop's invariant: the rows from number j on are in the list, and no step was taken. The measure is how many are left.
use mathlib.Core.Path.{◌≡◌}
use mathlib.Core.List.{◌++◌}
use Rattle.instantiate.proofs.Listing.{Listing}
use Rattle.instantiate.proofs.term.rows_list.Given as goal

abbrev pub invariant-loop-j : goal.invariant-loop-j
invariant-loop-j l = Listing (l.base.words.now ++ l.initial.work) (l.base.words.now ++ l.work) l.binders l.initial.room.top l.m l.l l.j l.room.top × (l.room.left ≡ l.initial.room.left)

abbrev pub decreases-loop-j : goal.decreases-loop-j
decreases-loop-j l = l.j
