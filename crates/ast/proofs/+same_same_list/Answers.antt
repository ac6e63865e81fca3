-- The measure of each is twice its first word, since what a word refers to lies below it, and one more for the test before the walk.
use mathlib.Core.Path.{sym, ◌∙◌}
use native.Mathlib.Omega.{arith}
use Rattle.ast.proofs.Laws.{con_child, arrow_left, arrow_right, cons_head, cons_tail}
use Rattle.ast.proofs.Walks.{same_vars, var_con, var_arrow, con_var, con_arrow, arrow_var, arrow_con, names_differ, same_cons, left_differs, left_same, both_nil, nil_cons, cons_nil, head_differs, head_same}
use Rattle.ast.proofs.+same_same_list.Goals as goal

pub same-same_below-requires : goal.same-same_below-requires
same-same_below-requires t c = (omega arith, (c.requires.names, (c.requires.node, c.requires.node_2)))

pub same_below-returns-then-c-d : goal.same_below-returns-then-c-d
same_below-returns-then-c-d t c = names_differ c.requires.names c.requires.node c.requires.node_2 c.shape_at-p.ensures c.shape_at-q.ensures c.in-Con.is c.in-Con-q-2.is c.if-c-d.true

pub same_below-same_list-requires : goal.same_below-same_list-requires
same_below-same_list-requires t c = let j = con_child c.requires.node c.shape_at-p.ensures c.in-Con.is in let k = con_child c.requires.node_2 c.shape_at-q.ensures c.in-Con-q-2.is in (omega arith, (c.requires.names, (j.1, k.1)))

pub same_below-same-requires : goal.same_below-same-requires
same_below-same-requires t c = let j = arrow_left c.requires.node c.shape_at-p.ensures c.in-Arrow.is in let k = arrow_left c.requires.node_2 c.shape_at-q.ensures c.in-Arrow-q-3.is in (omega arith, (c.requires.names, (j.1, k.1)))

pub same_below-same-requires-then-same : goal.same_below-same-requires-then-same
same_below-same-requires-then-same t c = let j = arrow_right c.requires.node c.shape_at-p.ensures c.in-Arrow.is in let k = arrow_right c.requires.node_2 c.shape_at-q.ensures c.in-Arrow-q-3.is in (omega arith, (c.requires.names, (j.1, k.1)))

pub same_below-returns-then-same : goal.same_below-returns-then-same
same_below-returns-then-same t c = left_same c.requires.names c.requires.node c.requires.node_2 c.shape_at-p.ensures c.shape_at-q.ensures c.in-Arrow.is c.in-Arrow-q-3.is (sym c.if-same.true ∙ c.same.ensures) c.same-then-same.ensures

pub same_below-returns-in-Var-q : goal.same_below-returns-in-Var-q
same_below-returns-in-Var-q t c = same_vars c.requires.names c.requires.node c.requires.node_2 c.shape_at-p.ensures c.shape_at-q.ensures c.in-Var.is c.in-Var-q.is

pub same_below-returns-in-Con-q : goal.same_below-returns-in-Con-q
same_below-returns-in-Con-q t c = var_con c.requires.names c.requires.node c.requires.node_2 c.shape_at-p.ensures c.shape_at-q.ensures c.in-Var.is c.in-Con-q.is

pub same_below-returns-in-Arrow-q : goal.same_below-returns-in-Arrow-q
same_below-returns-in-Arrow-q t c = var_arrow c.requires.names c.requires.node c.requires.node_2 c.shape_at-p.ensures c.shape_at-q.ensures c.in-Var.is c.in-Arrow-q.is

pub same_below-returns-in-Var-q-2 : goal.same_below-returns-in-Var-q-2
same_below-returns-in-Var-q-2 t c = con_var c.requires.names c.requires.node c.requires.node_2 c.shape_at-p.ensures c.shape_at-q.ensures c.in-Con.is c.in-Var-q-2.is

pub same_below-returns-else-c-d : goal.same_below-returns-else-c-d
same_below-returns-else-c-d t c = same_cons c.requires.names c.requires.node c.requires.node_2 c.shape_at-p.ensures c.shape_at-q.ensures _ c.in-Con.is c.in-Con-q-2.is c.if-c-d.false c.same_list.ensures

pub same_below-returns-in-Arrow-q-2 : goal.same_below-returns-in-Arrow-q-2
same_below-returns-in-Arrow-q-2 t c = con_arrow c.requires.names c.requires.node c.requires.node_2 c.shape_at-p.ensures c.shape_at-q.ensures c.in-Con.is c.in-Arrow-q-2.is

pub same_below-returns-in-Var-q-3 : goal.same_below-returns-in-Var-q-3
same_below-returns-in-Var-q-3 t c = arrow_var c.requires.names c.requires.node c.requires.node_2 c.shape_at-p.ensures c.shape_at-q.ensures c.in-Arrow.is c.in-Var-q-3.is

pub same_below-returns-in-Con-q-3 : goal.same_below-returns-in-Con-q-3
same_below-returns-in-Con-q-3 t c = arrow_con c.requires.names c.requires.node c.requires.node_2 c.shape_at-p.ensures c.shape_at-q.ensures c.in-Arrow.is c.in-Con-q-3.is

pub same_below-returns-else-same : goal.same_below-returns-else-same
same_below-returns-else-same t c = left_differs c.requires.names c.requires.node c.requires.node_2 c.shape_at-p.ensures c.shape_at-q.ensures c.in-Arrow.is c.in-Arrow-q-3.is (sym c.if-same.false ∙ c.same.ensures)

pub same_list-same-requires : goal.same_list-same-requires
same_list-same-requires t c = let j = cons_head c.requires.node c.cell_at-p.ensures c.in-Cons.is in let k = cons_head c.requires.node_2 c.cell_at-q.ensures c.in-Cons-q-2.is in (omega arith, (c.requires.names, (j.1, k.1)))

pub same_list-same_list-requires : goal.same_list-same_list-requires
same_list-same_list-requires t c = let j = cons_tail c.requires.node c.cell_at-p.ensures c.in-Cons.is in let k = cons_tail c.requires.node_2 c.cell_at-q.ensures c.in-Cons-q-2.is in (omega arith, (c.requires.names, (j.1, k.1)))

pub same_list-returns-then-same : goal.same_list-returns-then-same
same_list-returns-then-same t c = head_same c.args.base.now.names.now c.requires.node c.requires.node_2 c.cell_at-p.ensures c.cell_at-q.ensures c.in-Cons.is c.in-Cons-q-2.is c.same_list.result (sym c.if-same.true ∙ c.same.ensures) c.same_list.ensures

pub same_list-returns-in-Nil-q : goal.same_list-returns-in-Nil-q
same_list-returns-in-Nil-q t c = both_nil c.args.base.now.names.now c.requires.node c.requires.node_2 c.cell_at-p.ensures c.cell_at-q.ensures c.in-Nil.is c.in-Nil-q.is

pub same_list-returns-in-Cons-q : goal.same_list-returns-in-Cons-q
same_list-returns-in-Cons-q t c = nil_cons c.args.base.now.names.now c.requires.node c.requires.node_2 c.cell_at-p.ensures c.cell_at-q.ensures c.in-Nil.is c.in-Cons-q.is

pub same_list-returns-in-Nil-q-2 : goal.same_list-returns-in-Nil-q-2
same_list-returns-in-Nil-q-2 t c = cons_nil c.args.base.now.names.now c.requires.node c.requires.node_2 c.cell_at-p.ensures c.cell_at-q.ensures c.in-Cons.is c.in-Nil-q-2.is

pub same_list-returns-else-same : goal.same_list-returns-else-same
same_list-returns-else-same t c = head_differs c.args.base.now.names.now c.requires.node c.requires.node_2 c.cell_at-p.ensures c.cell_at-q.ensures c.in-Cons.is c.in-Cons-q-2.is (sym c.if-same.false ∙ c.same.ensures)
