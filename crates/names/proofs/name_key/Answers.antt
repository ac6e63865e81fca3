-- `names::name_key` meets its contract: four words of the table, or a number over all. Assumes nothing.
use native.Mathlib.Omega.{arith}
use Rattle.names.proofs.Keyed.{key_in, key_out}
use Rattle.names.proofs.name_key.Goals as goal

pub returns-then-i-names : goal.returns-then-i-names
returns-then-i-names c = key_out _ _ (omega arith)

pub returns : goal.returns
returns c = key_in _ _ (omega arith)
