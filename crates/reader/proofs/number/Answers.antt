-- `reader::number` meets its contract. Assumes nothing.
use mathlib.Core.Path.{◌∙◌}
use native.Mathlib.Omega.{arith}
use Rattle.reader.proofs.Fields.{numeral_is, numeral_cut, two_single_bytes}
use Rattle.reader.proofs.number.Goals as goal

pub returns-in_err-last : goal.returns-in_err-last
returns-in_err-last c = rw c.from_residual.ensures (numeral_cut 1 _ _ (omega (arith, c.in_err-last.ensures)))

pub returns-then-at-last : goal.returns-then-at-last
returns-then-at-last c = numeral_cut 1 _ _ (omega (arith, c.in_ok-last.ensures))

pub returns : goal.returns
returns c = numeral_is 2 _ _ _ (omega (arith, c.in_ok-last.ensures)) (two_single_bytes _ _ _ (c.from.ensures ∙ c.from_le_bytes.ensures))
