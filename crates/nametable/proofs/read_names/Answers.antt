-- `nametable::read_names` meets its contract. Assumes nothing.
use native.Mathlib.Omega.{arith}
use Rattle.std.proofs.lemmas.Result.{err_from_is_err_and}
use Rattle.nametable.proofs.Whole.{section_read, section_bad}
use Rattle.nametable.proofs.read_names.Goals as goal

pub returns-in_err-p : goal.returns-in_err-p
returns-in_err-p c =
    let p = err_from_is_err_and c.from_residual.result c.from_residual.ensures.1 in
    rw (p.1, p.2) (section_bad c.read_all.ensures c.in_err-p.was)

pub returns : goal.returns
returns c = section_read (omega arith) c.fill.ensures c.read_all.ensures c.in_ok-p.was c.bind_all.ensures (record { below = λ i. omega (arith, c.type_inv.names i) }) (omega (arith, c.bind_all.auto.names, c.read_all.auto.names, c.fill.auto.names))
