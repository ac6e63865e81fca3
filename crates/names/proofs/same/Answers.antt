-- Keys are equal where all words are.
use native.Mathlib.Omega.{arith}
use mathlib.Core.Path.{◌∙◌}
use Rattle.names.proofs.Order.{tells}
use Rattle.names.proofs.same.Goals as goal

pub returns : goal.returns
returns c = c.eq.ensures ∙ tells c.args.p c.args.q (omega arith) (omega arith)
