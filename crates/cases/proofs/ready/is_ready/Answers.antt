-- Each way out but the last says no.
use native.Mathlib.Omega.{arith}
use Rattle.cases.proofs.Falling.{all_fits}
use Rattle.cases.proofs.ready.is_ready.Goals as goal

pub returns : goal.returns
returns c = λ e. all_fits _ _ _ _ _ _ (c.is_table.ensures e) (omega arith) (omega arith) (omega arith)
