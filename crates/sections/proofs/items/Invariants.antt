-- The loop over a section's items: the definition reads the items that are left from here on.
use Rattle.sections.proofs.Going.{Going}
use Rattle.sections.proofs.items.Given as goal

abbrev pub invariant-loop-i : goal.invariant-loop-i
invariant-loop-i l = Going l.src l.initial.index l.index l.n l.part l.count l.at l.place l.i
