-- `nametable::text_at` meets its contract. Assumes nothing.
use mathlib.Core.Path.{refl, ◌∙◌}
use Prim.Native.Nat.{◌+◌}
use native.Mathlib.Omega.{arith}
use Rattle.std.proofs.lemmas.Result.{err_from_is_err_and}
use Rattle.reader.proofs.Counts.{some_was, none_was}
use Rattle.spelling.proofs.Texts.{lent}
use Rattle.nametable.proofs.Entry.{cut_there, empty_there, long_there, text_cut, no_letters, text_there}
use Rattle.nametable.proofs.text_at.Goals as goal
use Rattle.nametable.proofs.text_at.Goals.{then-len-eq0-via-then-len-eq0, then-len-eq0-via-else-len-eq0+then-len-gt32}

pub returns-in_err-len : goal.returns-in_err-len
returns-in_err-len c =
    let p = err_from_is_err_and c.from_residual.result c.from_residual.ensures.1 in
    let q = none_was _ _ _ _ c.ok_or.ensures.value c.in_err-len.was in
    rw (p.1, p.2, q.1) (cut_there _ _ (rw q.0 at c.byte.ensures))

pub returns-then-len-eq0 : goal.returns-then-len-eq0
returns-then-len-eq0 c =
    let f = rw (some_was _ _ _ _ c.ok_or.ensures.value c.in_ok-len.was) at c.byte.ensures in
    elim c.then-len-eq0.branch [ then-len-eq0-via-then-len-eq0 w ↦ empty_there _ _ _ f w.if-len-eq0.true | then-len-eq0-via-else-len-eq0+then-len-gt32 w ↦ long_there _ _ _ f w.if-len-gt32.true ]

pub returns-in_err-text : goal.returns-in_err-text
returns-in_err-text c =
    let f = rw (some_was _ _ _ _ c.ok_or.ensures.value c.in_ok-len.was) at c.byte.ensures in
    let p = err_from_is_err_and c.from_residual-in_err-text.result c.from_residual-in_err-text.ensures.1 in
    let q = none_was _ _ _ _ c.ok_or-2.ensures.value c.in_err-text.was in
    let h = rw q.0 at c.get.ensures.lookup.0 in
    rw (p.1, p.2, q.1) (text_cut _ _ _ f c.if-len-eq0.false (omega arith) (omega (arith, h)))

pub returns-then-letters : goal.returns-then-letters
returns-then-letters c =
    let f = rw (some_was _ _ _ _ c.ok_or.ensures.value c.in_ok-len.was) at c.byte.ensures in
    let h = rw (some_was _ _ _ _ c.ok_or-2.ensures.value c.in_ok-text.was) at c.get.ensures.lookup.0 in
    let e = h.2 ∙ lent c.args.src.now (c.args.at + 1) (c.args.at + 1 + c.in_ok-len.len) c.in_ok-len.len refl h.1 in
    text_there _ _ _ _ _ f c.if-len-eq0.false (omega arith) h.1 e (rw e at c.letters.ensures) c.if-letters.true

pub returns-else-letters : goal.returns-else-letters
returns-else-letters c =
    let f = rw (some_was _ _ _ _ c.ok_or.ensures.value c.in_ok-len.was) at c.byte.ensures in
    let h = rw (some_was _ _ _ _ c.ok_or-2.ensures.value c.in_ok-text.was) at c.get.ensures.lookup.0 in
    let e = h.2 ∙ lent c.args.src.now (c.args.at + 1) (c.args.at + 1 + c.in_ok-len.len) c.in_ok-len.len refl h.1 in
    no_letters _ _ _ _ f c.if-len-eq0.false (omega arith) h.1 (rw e at c.letters.ensures) c.if-letters.false
