-- The cycle of taking: each way out by its law of `Rooms`, or of `Growing` where a node is written. The measure is the type's number.
use Prim.Native.Nat.{◌+◌, ◌*◌}
use Rattle.types.proofs.+take_part_take_parts_take_type.Given as goal

abbrev pub decreases-take_part : goal.decreases-take_part
decreases-take_part l = 128 * l.i

abbrev pub decreases-take_parts : goal.decreases-take_parts
decreases-take_parts l = 128 * l.i + 1 + l.k

abbrev pub decreases-take_type : goal.decreases-take_type
decreases-take_type l = 128 * l.i + 100
