-- The measure is how many more there may be.
use native.Mathlib.Omega.{arith}
use Rattle.ast.proofs.Laws.{cons_tail, node_room}
use Rattle.cases.proofs.Tested.{short_nil, short_cons}
use Rattle.cases.proofs.goals.+is_short.Goals as goal

pub cell_at-c-requires : goal.cell_at-c-requires
cell_at-c-requires t c = node_room c.requires

pub is_short-requires : goal.is_short-requires
is_short-requires t c = (omega arith, (cons_tail c.requires c.cell_at-c.ensures c.in-Cons.is).1)

pub returns-in-Nil : goal.returns-in-Nil
returns-in-Nil t c = λ e. short_nil c.requires c.cell_at-c.ensures c.in-Nil.is

pub returns-else-most-eq0 : goal.returns-else-most-eq0
returns-else-most-eq0 t c = λ e. short_cons c.requires c.cell_at-c.ensures c.in-Cons.is (omega arith) (c.is_short.ensures e)
