-- Each way out by its law of `Bound`. The measure is the word: what a word refers to lies below it.
use native.Mathlib.Omega.{arith}
use Rattle.ast.proofs.Laws.{con_child, arrow_left, arrow_right, cons_head, cons_tail}
use Rattle.vars.proofs.Bound.{bound_var, bound_con, bound_right, unbound_left, bound_nil, bound_rest, unbound_head}
use Rattle.vars.proofs.+all_bound_all_bound_list.Goals as goal

pub all_bound-all_bound_list-requires : goal.all_bound-all_bound_list-requires
all_bound-all_bound_list-requires t c = let k = con_child c.requires.node_2 c.shape_at-s.ensures c.in-Con.is in (omega arith, (c.requires.names, (c.requires.node, k.1)))

pub all_bound-all_bound-requires : goal.all_bound-all_bound-requires
all_bound-all_bound-requires t c = let k = arrow_left c.requires.node_2 c.shape_at-s.ensures c.in-Arrow.is in (omega arith, (c.requires.names, (c.requires.node, k.1)))

pub all_bound-all_bound-requires-then-all_bound : goal.all_bound-all_bound-requires-then-all_bound
all_bound-all_bound-requires-then-all_bound t c = let k = arrow_right c.requires.node_2 c.shape_at-s.ensures c.in-Arrow.is in (omega arith, (c.requires.names, (c.requires.node, k.1)))

pub all_bound-returns-then-all_bound : goal.all_bound-returns-then-all_bound
all_bound-returns-then-all_bound t c = bound_right _ c.requires.node_2 c.shape_at-s.ensures _ c.in-Arrow.is c.all_bound.ensures c.if-all_bound.true c.all_bound-then-all_bound.ensures

pub all_bound-returns-in-Var : goal.all_bound-returns-in-Var
all_bound-returns-in-Var t c = bound_var _ c.requires.node_2 c.shape_at-s.ensures _ c.in-Var.is c.has_var.ensures

pub all_bound-returns-in-Con : goal.all_bound-returns-in-Con
all_bound-returns-in-Con t c = bound_con _ c.requires.node_2 c.shape_at-s.ensures _ c.in-Con.is c.all_bound_list.ensures

pub all_bound-returns-else-all_bound : goal.all_bound-returns-else-all_bound
all_bound-returns-else-all_bound t c = unbound_left _ c.requires.node_2 c.shape_at-s.ensures _ c.in-Arrow.is c.all_bound.ensures c.if-all_bound.false

pub all_bound_list-all_bound-requires : goal.all_bound_list-all_bound-requires
all_bound_list-all_bound-requires t c = let k = cons_head c.requires.node_2 c.cell_at-c.ensures c.in-Cons.is in (omega arith, (c.requires.names, (c.requires.node, k.1)))

pub all_bound_list-all_bound_list-requires : goal.all_bound_list-all_bound_list-requires
all_bound_list-all_bound_list-requires t c = let k = cons_tail c.requires.node_2 c.cell_at-c.ensures c.in-Cons.is in (omega arith, (c.requires.names, (c.requires.node, k.1)))

pub all_bound_list-returns-then-all_bound : goal.all_bound_list-returns-then-all_bound
all_bound_list-returns-then-all_bound t c = bound_rest _ c.requires.node_2 c.cell_at-c.ensures _ c.in-Cons.is c.all_bound.ensures c.if-all_bound.true c.all_bound_list.ensures

pub all_bound_list-returns-in-Nil : goal.all_bound_list-returns-in-Nil
all_bound_list-returns-in-Nil t c = bound_nil _ c.requires.node_2 c.cell_at-c.ensures _ c.in-Nil.is

pub all_bound_list-returns-else-all_bound : goal.all_bound_list-returns-else-all_bound
all_bound_list-returns-else-all_bound t c = unbound_head _ c.requires.node_2 c.cell_at-c.ensures _ c.in-Cons.is c.all_bound.ensures c.if-all_bound.false
