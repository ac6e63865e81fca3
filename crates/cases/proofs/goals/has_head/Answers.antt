-- The word's cell is read once it is known to lie in the words.
use native.Mathlib.Omega.{arith}
use lib.ListN.{length-append}
use Rattle.cases.proofs.Tested.{headed}
use Rattle.cases.proofs.goals.has_head.Goals as goal

pub cell_at-c-requires : goal.cell_at-c-requires
cell_at-c-requires c = simp length-append (omega arith)

pub returns-in-Cons : goal.returns-in-Cons
returns-in-Cons c = λ e. headed (omega arith) c.cell_at-c.ensures c.in-Cons.is
