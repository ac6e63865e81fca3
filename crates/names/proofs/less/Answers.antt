-- The first words that differ decide.
use native.Mathlib.Omega.{arith}
use mathlib.Core.Path.{◌∙◌}
use Rattle.names.proofs.Order.{orders}
use Rattle.names.proofs.less.Goals as goal

pub returns : goal.returns
returns c = c.lt.ensures ∙ orders c.args.p c.args.q (omega arith) (omega arith)
