-- Three words are written.
use native.Mathlib.Omega.{arith}
use mathlib.Core.Path.{refl}
use lib.ListN.{length-set}
use Rattle.pending.specs.Rows.{put_row}
use Rattle.pending.proofs.put_row.Goals as goal

pub bounds-binders-j-2 : goal.bounds-binders-j-2
bounds-binders-j-2 c = simp length-set (omega arith)

pub bounds-binders-j-3 : goal.bounds-binders-j-3
bounds-binders-j-3 c = simp length-set (omega arith)

pub returns : goal.returns
unfolding put_row
returns c = refl
