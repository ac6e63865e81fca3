-- A node is looked at as a type and as a list.
use native.Mathlib.Omega.{arith}
use lib.ListN.{length-append}
use Rattle.cases.proofs.Falling.{falls}
use Rattle.cases.proofs.ready.rises.Goals as goal

pub shape_at-s-requires : goal.shape_at-s-requires
shape_at-s-requires c = simp length-append (omega arith)

pub cell_at-l-requires : goal.cell_at-l-requires
cell_at-l-requires c = simp length-append (omega arith)

pub returns : goal.returns
returns c = λ e. falls _ _ _ _ c.shape_at-s.ensures c.cell_at-l.ensures (c.shape_rises.ensures c.if-shape_rises.false) (c.cell_rises.ensures e)
