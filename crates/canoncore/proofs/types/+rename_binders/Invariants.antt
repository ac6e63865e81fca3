-- A cell's type is renamed, then the rest; the measure is the steps left.
use Rattle.canoncore.proofs.types.+rename_binders.Given as goal

abbrev pub decreases-rename_binders : goal.decreases-rename_binders
decreases-rename_binders l = l.room.now.left
