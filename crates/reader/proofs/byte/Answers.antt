-- `reader::byte` meets its contract. Assumes nothing.
use native.Mathlib.Omega.{arith}
use borrow.Author.Tests.{ltb-true, ltb-false}
use Rattle.reader.proofs.Fields.{numeral_is, numeral_cut, one_byte}
use Rattle.std.proofs.lemmas.Grind.{common_steps}
use Rattle.reader.proofs.byte.Goals as goal

pub returns-in_err-b : goal.returns-in_err-b
returns-in_err-b c = rw c.from_residual.ensures (numeral_cut 0 _ _ (omega (arith, ltb-false, c.in_err-b.ensures.lookup)))

pub returns : goal.returns
returns c = numeral_is 1 _ _ _ (omega (arith, ltb-true, c.in_ok-b.ensures.lookup)) (one_byte _ _ _ (grind (arith, common_steps, ltb-true, c.in_ok-b.ensures.lookup, c.from.ensures)))
