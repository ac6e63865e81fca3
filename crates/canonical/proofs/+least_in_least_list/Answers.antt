-- Each way out by its law of `Leasts`. The measure is the word: what a word refers to lies below it.
use native.Mathlib.Omega.{arith}
use Rattle.ast.proofs.Laws.{con_child, arrow_left, arrow_right, cons_head, cons_tail, node_room}
use Rattle.canonical.proofs.Leasts.{least_var, least_con, least_arrow, least_nil, least_cons, ready_at}
use Rattle.canonical.proofs.+least_in_least_list.Goals as goal

pub least_in-shape_at-s-requires : goal.least_in-shape_at-s-requires
least_in-shape_at-s-requires t c = node_room c.requires.node

pub least_in-least_var-requires : goal.least_in-least_var-requires
least_in-least_var-requires t c = c.requires.env

pub least_in-least_list-requires : goal.least_in-least_list-requires
least_in-least_list-requires t c = let k = con_child c.requires.node c.shape_at-s.ensures c.in-Con.is in (omega arith, ready_at c.requires k.1)

pub least_in-least_in-m-requires : goal.least_in-least_in-m-requires
least_in-least_in-m-requires t c = let k = arrow_left c.requires.node c.shape_at-s.ensures c.in-Arrow.is in (omega arith, ready_at c.requires k.1)

pub least_in-least_in-requires : goal.least_in-least_in-requires
least_in-least_in-requires t c = let k = arrow_right c.requires.node c.shape_at-s.ensures c.in-Arrow.is in (omega arith, ready_at c.requires k.1)

pub least_in-returns-in-Var : goal.least_in-returns-in-Var
least_in-returns-in-Var t c = least_var _ c.requires.node c.shape_at-s.ensures c.in-Var.is c.least_var.ensures

pub least_in-returns-in-Con : goal.least_in-returns-in-Con
least_in-returns-in-Con t c = least_con _ c.requires.node c.shape_at-s.ensures c.in-Con.is c.least_list.ensures

pub least_in-returns-in-Arrow : goal.least_in-returns-in-Arrow
least_in-returns-in-Arrow t c = least_arrow _ c.requires.node c.shape_at-s.ensures c.in-Arrow.is c.least_in-m.ensures c.least_in.ensures

pub least_list-cell_at-c-requires : goal.least_list-cell_at-c-requires
least_list-cell_at-c-requires t c = node_room c.requires.node

pub least_list-least_in-m-requires : goal.least_list-least_in-m-requires
least_list-least_in-m-requires t c = let k = cons_head c.requires.node c.cell_at-c.ensures c.in-Cons.is in (omega arith, ready_at c.requires k.1)

pub least_list-least_list-requires : goal.least_list-least_list-requires
least_list-least_list-requires t c = let k = cons_tail c.requires.node c.cell_at-c.ensures c.in-Cons.is in (omega arith, ready_at c.requires k.1)

pub least_list-returns-in-Nil : goal.least_list-returns-in-Nil
least_list-returns-in-Nil t c = least_nil _ c.requires.node c.cell_at-c.ensures c.in-Nil.is

pub least_list-returns-in-Cons : goal.least_list-returns-in-Cons
least_list-returns-in-Cons t c = least_cons _ c.requires.node c.cell_at-c.ensures c.in-Cons.is c.least_in-m.ensures c.least_list.ensures
