-- The number goes into the gap.
use Rattle.order.proofs.Moves.{gap_filled}
use Rattle.order.proofs.insert.Goals as goal

pub returns : goal.returns
returns c = gap_filled c.requires.k_in_bounds c.make_room-i.ensures
