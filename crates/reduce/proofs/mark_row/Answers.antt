-- Two words are written.
use mathlib.Core.Path.{refl}
use Rattle.reduce.specs.Reduces.{marked}
use Rattle.reduce.proofs.mark_row.Goals as goal

pub returns : goal.returns
unfolding marked
returns c = refl
