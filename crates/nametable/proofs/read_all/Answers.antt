-- `nametable::read_all` meets its contract. The loop's invariant: the first i names stand in their rows. Assumes nothing.
use native.Mathlib.Omega.{arith}
use Rattle.std.proofs.lemmas.Result.{err_from_is_err_and}
use Rattle.nametable.proofs.Going.{none_read, one_marked, marked_here, one_read, one_bad, all_read}
use Rattle.nametable.proofs.read_all.Goals as goal

pub loop-i-init : goal.loop-i-init
loop-i-init c = none_read _ _ _ _ _ (omega arith) (omega arith) (omega arith)

pub mark-requires : goal.mark-requires
mark-requires c = record { i_bound = omega arith; i_in_bounds = omega (arith, c.loop-i.invariant.index_length) }

pub take-requires : goal.take-requires
take-requires c = record { i_in_bounds = omega (arith, c.loop-i.invariant.names-length); i_in_bounds_2 = omega (arith, c.loop-i.invariant.index_length, c.mark.auto.index) }

pub returns-in_err-p : goal.returns-in_err-p
returns-in_err-p c =
    let p = err_from_is_err_and c.from_residual.result c.from_residual.ensures.1 in
    rw (p.1, p.2) (one_bad (one_marked _ c.loop-i.invariant (omega arith) (omega arith) c.mark.ensures) (omega arith) c.take.ensures c.in_err-p.was)

pub loop-i-preserved : goal.loop-i-preserved
loop-i-preserved c = one_read (one_marked _ c.loop-i.invariant (omega arith) (omega arith) c.mark.ensures) (omega arith) (omega arith)
    (marked_here _ c.loop-i.invariant (omega arith) (omega arith) c.mark.ensures) c.take.auto.names c.take.auto.index c.take.ensures c.in_ok-p.was

pub returns : goal.returns
returns c = all_read c.loop-i.invariant (omega arith)
