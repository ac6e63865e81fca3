-- Each way out by its law of `Lasts`. The measure is the word: what a word refers to lies below it.
use native.Mathlib.Omega.{arith}
use Rattle.ast.proofs.Laws.{var_node, con_child, arrow_left, arrow_right, cons_head, cons_tail, node_room}
use Rattle.canonical.proofs.Leasts.{ready_at}
use Rattle.canonical.proofs.Lasts.{last_var, last_con, last_arrow, last_nil, last_cons}
use Rattle.canonical.proofs.sorted.+last_in_last_list.Goals as goal

pub last_in-shape_at-s-requires : goal.last_in-shape_at-s-requires
last_in-shape_at-s-requires t c = node_room c.requires.node

pub last_in-last_var-requires : goal.last_in-last_var-requires
last_in-last_var-requires t c = ready_at c.requires (var_node c.requires.node c.shape_at-s.ensures c.in-Var.is)

pub last_in-last_list-requires : goal.last_in-last_list-requires
last_in-last_list-requires t c = let k = con_child c.requires.node c.shape_at-s.ensures c.in-Con.is in (omega arith, ready_at c.requires k.1)

pub last_in-last_in-m-requires : goal.last_in-last_in-m-requires
last_in-last_in-m-requires t c = let k = arrow_left c.requires.node c.shape_at-s.ensures c.in-Arrow.is in (omega arith, ready_at c.requires k.1)

pub last_in-last_in-requires : goal.last_in-last_in-requires
last_in-last_in-requires t c = let k = arrow_right c.requires.node c.shape_at-s.ensures c.in-Arrow.is in (omega arith, ready_at c.requires k.1)

pub last_in-returns-in-Var : goal.last_in-returns-in-Var
last_in-returns-in-Var t c = last_var _ c.requires.node c.shape_at-s.ensures c.in-Var.is c.last_var.ensures

pub last_in-returns-in-Con : goal.last_in-returns-in-Con
last_in-returns-in-Con t c = last_con _ c.requires.node c.shape_at-s.ensures c.in-Con.is c.last_list.ensures

pub last_in-returns-in-Arrow : goal.last_in-returns-in-Arrow
last_in-returns-in-Arrow t c = last_arrow _ c.requires.node c.shape_at-s.ensures c.in-Arrow.is c.last_in-m.ensures c.last_in.ensures

pub last_list-cell_at-c-requires : goal.last_list-cell_at-c-requires
last_list-cell_at-c-requires t c = node_room c.requires.node

pub last_list-last_in-m-requires : goal.last_list-last_in-m-requires
last_list-last_in-m-requires t c = let k = cons_head c.requires.node c.cell_at-c.ensures c.in-Cons.is in (omega arith, ready_at c.requires k.1)

pub last_list-last_list-requires : goal.last_list-last_list-requires
last_list-last_list-requires t c = let k = cons_tail c.requires.node c.cell_at-c.ensures c.in-Cons.is in (omega arith, ready_at c.requires k.1)

pub last_list-returns-in-Nil : goal.last_list-returns-in-Nil
last_list-returns-in-Nil t c = last_nil _ c.requires.node c.cell_at-c.ensures c.in-Nil.is

pub last_list-returns-in-Cons : goal.last_list-returns-in-Cons
last_list-returns-in-Cons t c = last_cons _ c.requires.node c.cell_at-c.ensures c.in-Cons.is c.last_in-m.ensures c.last_list.ensures
