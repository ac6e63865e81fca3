-- Each way out is the cell of its kind of word.
use native.Mathlib.Omega.{arith}
use mathlib.Core.Path.{sym, ◌∙◌}
use Rattle.ast.specs.Table.{cell_of}
use Rattle.ast.proofs.Ranges.{node_word}
use Rattle.ast.proofs.cell_at.Goals as goal

pub node_cell-requires : goal.node_cell-requires
node_cell-requires c = let e = node_word _ (sym c.kind_of-k.ensures ∙ c.in-Node.is) in omega arith

pub returns-in-Node : goal.returns-in-Node
unfolding cell_of
returns-in-Node c = rw (sym c.kind_of-k.ensures ∙ c.in-Node.is) c.node_cell.ensures

pub returns-in-Named : goal.returns-in-Named
unfolding cell_of
returns-in-Named c = rw (sym c.kind_of-k.ensures ∙ c.in-Named.is)

pub returns-in-Fresh : goal.returns-in-Fresh
unfolding cell_of
returns-in-Fresh c = rw (sym c.kind_of-k.ensures ∙ c.in-Fresh.is)

pub returns-in-Nullary : goal.returns-in-Nullary
unfolding cell_of
returns-in-Nullary c = rw (sym c.kind_of-k.ensures ∙ c.in-Nullary.is)
