-- The loop's invariant: the list has the predicates of the rows from row i on.
use mathlib.Core.List.{◌++◌}
use mathlib.Core.Path.{◌≡◌}
use Rattle.canonical.proofs.Listing.{Listing}
use Rattle.canonical.proofs.renamed.list_preds.Given as goal

abbrev pub invariant-loop-i : goal.invariant-loop-i
invariant-loop-i l = Listing l.base.names.now (l.base.words.now ++ l.initial.work) (l.base.words.now ++ l.work) l.binders l.initial.room.top l.n l.l l.room.top l.i × (l.room.left ≡ l.initial.room.left)
