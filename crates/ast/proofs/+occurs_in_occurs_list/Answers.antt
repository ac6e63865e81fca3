-- The measure of each is twice the word, since what a word refers to lies below it, and one more for the test before the walk.
use native.Mathlib.Omega.{arith}
use Rattle.meaning.specs.Subst.{occurs}
use Rattle.ast.proofs.Laws.{tree_con, tree_arrow, con_child, arrow_left, arrow_right, list_nil, list_cons, cons_head, cons_tail}
use Rattle.ast.proofs.Walks.{occurs_var, occurs_low, occurs_nullary}
use Rattle.ast.proofs.+occurs_in_occurs_list.Goals as goal

pub occurs_in-returns-then-t-lt-NULLARY : goal.occurs_in-returns-then-t-lt-NULLARY
occurs_in-returns-then-t-lt-NULLARY t c = occurs_low _ _ c.requires.names c.if-t-lt-NULLARY.true

pub occurs_in-returns-then-t-lt-NODE : goal.occurs_in-returns-then-t-lt-NODE
occurs_in-returns-then-t-lt-NODE t c = let h = c.if-t-lt-NULLARY.false in occurs_nullary _ _ _ (omega arith) c.if-t-lt-NODE.true

pub occurs_in-occurs_below-requires : goal.occurs_in-occurs_below-requires
occurs_in-occurs_below-requires t c = (omega arith, (c.requires.names, c.requires.node))

pub occurs_below-occurs_list-requires : goal.occurs_below-occurs_list-requires
occurs_below-occurs_list-requires t c = let k = con_child c.requires.node c.shape_at-s.ensures c.in-Con.is in (omega arith, (c.requires.names, k.1))

pub occurs_below-occurs_in-requires : goal.occurs_below-occurs_in-requires
occurs_below-occurs_in-requires t c = let k = arrow_left c.requires.node c.shape_at-s.ensures c.in-Arrow.is in (omega arith, (c.requires.names, k.1))

pub occurs_below-returns-then-occurs_in : goal.occurs_below-returns-then-occurs_in
unfolding occurs
occurs_below-returns-then-occurs_in t c = rw (tree_arrow c.args.base.now.names.now c.requires.node c.shape_at-s.ensures c.in-Arrow.is, ← c.occurs_in.ensures, c.if-occurs_in.true)

pub occurs_below-occurs_in-requires-in-Arrow : goal.occurs_below-occurs_in-requires-in-Arrow
occurs_below-occurs_in-requires-in-Arrow t c = let k = arrow_right c.requires.node c.shape_at-s.ensures c.in-Arrow.is in (omega arith, (c.requires.names, k.1))

pub occurs_below-returns-in-Var : goal.occurs_below-returns-in-Var
occurs_below-returns-in-Var t c = occurs_var _ c.requires.names c.requires.node c.shape_at-s.ensures c.in-Var.is

pub occurs_below-returns-in-Con : goal.occurs_below-returns-in-Con
unfolding occurs
occurs_below-returns-in-Con t c = rw (tree_con c.args.base.now.names.now c.requires.node c.shape_at-s.ensures c.in-Con.is) c.occurs_list.ensures

pub occurs_below-returns-else-occurs_in : goal.occurs_below-returns-else-occurs_in
unfolding occurs
occurs_below-returns-else-occurs_in t c = rw (tree_arrow c.args.base.now.names.now c.requires.node c.shape_at-s.ensures c.in-Arrow.is, ← c.occurs_in.ensures, c.if-occurs_in.false) c.occurs_in-in-Arrow.ensures

pub occurs_list-occurs_in-requires : goal.occurs_list-occurs_in-requires
occurs_list-occurs_in-requires t c = let k = cons_head c.requires.node c.cell_at-s.ensures c.in-Cons.is in (omega arith, (c.requires.names, k.1))

pub occurs_list-returns-then-occurs_in : goal.occurs_list-returns-then-occurs_in
unfolding occurs
occurs_list-returns-then-occurs_in t c = rw (list_cons c.args.base.now.names.now c.requires.node c.cell_at-s.ensures c.in-Cons.is, ← c.occurs_in.ensures, c.if-occurs_in.true)

pub occurs_list-occurs_list-requires : goal.occurs_list-occurs_list-requires
occurs_list-occurs_list-requires t c = let k = cons_tail c.requires.node c.cell_at-s.ensures c.in-Cons.is in (omega arith, (c.requires.names, k.1))

pub occurs_list-returns-in-Nil : goal.occurs_list-returns-in-Nil
unfolding occurs
occurs_list-returns-in-Nil t c = rw (list_nil c.args.base.now.names.now c.requires.node c.cell_at-s.ensures c.in-Nil.is)

pub occurs_list-returns-else-occurs_in : goal.occurs_list-returns-else-occurs_in
unfolding occurs
occurs_list-returns-else-occurs_in t c = rw (list_cons c.args.base.now.names.now c.requires.node c.cell_at-s.ensures c.in-Cons.is, ← c.occurs_in.ensures, c.if-occurs_in.false) c.occurs_list.ensures
