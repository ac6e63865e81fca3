-- `reader::counted` meets its contract. Assumes nothing.
use native.Mathlib.Omega.{arith}
use Rattle.std.proofs.lemmas.Result.{err_from_is_err_and}
use Rattle.reader.proofs.Counts.{some_was, none_was, count_cut, count_over, count_is}
use Rattle.reader.proofs.counted.Goals as goal

pub returns-in_err-n : goal.returns-in_err-n
returns-in_err-n c =
    let p = err_from_is_err_and c.from_residual.result c.from_residual.ensures.1 in
    let q = none_was _ _ _ _ c.ok_or.ensures.value c.in_err-n.was in
    rw (p.1, p.2, q.1) (count_cut _ _ _ (rw q.0 at c.number.ensures))

pub returns-then-n-most : goal.returns-then-n-most
returns-then-n-most c = count_over _ _ _ _ (rw (some_was _ _ _ _ c.ok_or.ensures.value c.in_ok-n.was) at c.number.ensures) (omega arith)

pub returns : goal.returns
returns c = count_is _ _ _ _ (rw (some_was _ _ _ _ c.ok_or.ensures.value c.in_ok-n.was) at c.number.ensures) (omega arith)
