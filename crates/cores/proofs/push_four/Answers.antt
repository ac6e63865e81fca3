-- The fourth word, then the other three.
use mathlib.Core.Path.{◌∙◌}
use Rattle.cores.specs.Parts.{pushed_four}
use Rattle.cores.proofs.push_four.Goals as goal

pub returns-clause-is : goal.returns-clause-is
unfolding pushed_four
returns-clause-is c = c.add.ensures.is ∙ rw c.put.ensures
