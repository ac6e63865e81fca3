-- The cycle of counting: each way out by its law of `Counting`. The measure is the type's number, which falls from a type to its parts.
use Prim.Native.Nat.{◌+◌, ◌*◌}
use Rattle.types.proofs.Counting.{Summed}
use Rattle.types.proofs.+part_within_parts_within_size_within.Given as goal

abbrev pub invariant-parts_within-loop-j : goal.invariant-parts_within-loop-j
invariant-parts_within-loop-j l = Summed l.file.src.now l.file.index.now l.i l.p l.k l.limit l.count l.j

abbrev pub decreases-part_within : goal.decreases-part_within
decreases-part_within l = 128 * l.i

abbrev pub decreases-parts_within : goal.decreases-parts_within
decreases-parts_within l = 128 * l.i + 1 + l.k

abbrev pub decreases-size_within : goal.decreases-size_within
decreases-size_within l = 128 * l.i + 100
