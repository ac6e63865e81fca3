-- `nametable::take` meets its contract. Assumes nothing.
use native.Mathlib.Omega.{arith}
use Rattle.nametable.proofs.Taking.{ok_was, text_of, known, took}
use Rattle.nametable.proofs.take.Goals as goal

pub returns-then-is_known : goal.returns-then-is_known
returns-then-is_known c =
    let t = text_of _ _ c.in_ok-text.text _ c.text_at.ensures (ok_was _ c.in_ok-text.text c.map_err.ensures.cases c.in_ok-text.was) in
    known t.0 (rw t.1 at c.key_of-k.ensures) c.is_known.ensures c.if-is_known.true

pub returns : goal.returns
returns c =
    let t = text_of _ _ c.in_ok-text.text _ c.text_at.ensures (ok_was _ c.in_ok-text.text c.map_err.ensures.cases c.in_ok-text.was) in
    took (omega arith) (omega arith) t.0 (rw t.1 at c.key_of-k.ensures) c.is_known.ensures c.if-is_known.false (rw t.1 at c.form_of.ensures) c.enter.ensures
