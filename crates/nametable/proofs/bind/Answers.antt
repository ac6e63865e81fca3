-- `nametable::bind` meets its contract. Assumes nothing.
use native.Mathlib.Omega.{arith}
use Rattle.nametable.proofs.Numbers.{built_number}
use Rattle.nametable.proofs.bind.Goals as goal

pub returns-in-Some : goal.returns-in-Some
returns-in-Some c = built_number _ _ _ _ _ _ _ _ (omega arith) (omega arith) c.row_key-k.ensures c.built_in.ensures c.in-Some.is c.first_key-own.ensures c.put_row.ensures
