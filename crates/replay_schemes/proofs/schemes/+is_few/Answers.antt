-- The measure is how many more there may be.
use native.Mathlib.Omega.{arith}
use Rattle.ast.proofs.Laws.{cons_tail, node_room}
use Rattle.replay_schemes.proofs.Ways.{few_nil, few_cons}
use Rattle.replay_schemes.proofs.schemes.+is_few.Goals as goal

pub cell_at-c-requires : goal.cell_at-c-requires
cell_at-c-requires t c = node_room c.requires

pub is_few-requires : goal.is_few-requires
is_few-requires t c = (omega arith, (cons_tail c.requires c.cell_at-c.ensures c.in-Cons.is).1)

pub returns-in-Nil : goal.returns-in-Nil
returns-in-Nil t c = λ e. few_nil c.requires c.cell_at-c.ensures c.in-Nil.is

pub returns-else-a-ge-NULLARY : goal.returns-else-a-ge-NULLARY
returns-else-a-ge-NULLARY t c = λ e. few_cons c.requires c.cell_at-c.ensures c.in-Cons.is (omega arith) (omega arith) (c.is_few.ensures e)
