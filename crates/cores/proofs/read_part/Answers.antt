-- The four words of the node.
use mathlib.Core.Path.{◌∙◌}
use Rattle.cores.specs.Parts.{read_part}
use Rattle.cores.proofs.read_part.Goals as goal

pub returns : goal.returns
unfolding read_part
returns c = c.node_part.ensures ∙ rw (c.get-tag.ensures, c.index-a.ensures, c.index-b.ensures, c.index-d.ensures)
