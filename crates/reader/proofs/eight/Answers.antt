-- `reader::eight` meets its contract. Assumes nothing.
use native.Mathlib.Omega.{arith}
use Rattle.reader.proofs.Fields.{numeral_is, numeral_cut, eight_bytes}
use Rattle.reader.proofs.eight.Goals as goal

pub returns-in_err-get : goal.returns-in_err-get
returns-in_err-get c = rw c.from_residual.ensures (numeral_cut 7 _ _ (omega (arith, c.in_err-get.ensures.lookup)))

pub returns-in_default : goal.returns-in_default
returns-in_default c = numeral_cut 7 _ _ (omega (arith, c.in_ok-get.ensures.lookup))

pub returns-in-len8-up : goal.returns-in-len8-up
returns-in-len8-up c =
    let h = c.in_ok-get.ensures.lookup in
    numeral_is 8 _ _ _ (omega (arith, h)) (eight_bytes _ _ _ _ h.0.2 (omega (arith, h)) c.from_le_bytes.ensures)
