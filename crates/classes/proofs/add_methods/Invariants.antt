-- The loop's invariant: the signatures that are left give what all of them give.
use Prim.Native.Nat.{◌/◌}
use lib.ListN.{length}
use Rattle.classes.proofs.Recording.{Going}
use Rattle.classes.proofs.add_methods.Given as goal

abbrev pub invariant-loop-j : goal.invariant-loop-j
invariant-loop-j l = Going l.initial.methods l.methods l.c l.sigs l.j (length l.sigs / 2)
