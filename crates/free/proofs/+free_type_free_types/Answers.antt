-- Each way out by the laws of `Arms` and `Ways`. The measure is the word: what a word refers to lies below it.
use mathlib.Core.Path.{refl, sym}
use native.Mathlib.Omega.{arith}
use Rattle.ast.proofs.Laws.{var_node, con_child, arrow_left, arrow_right, cons_head, cons_tail}
use Rattle.pairs.proofs.Frames.{long}
use Rattle.free.proofs.Plain.{count_type, count_types}
use Rattle.free.proofs.Arms.{at_var, at_con, at_arrow, at_nil, at_cons}
use Rattle.free.proofs.Ways.{wants_as, collects_as, collects_same, first_wants, type_next, types_next, type_then, types_then}
use Rattle.free.proofs.+free_type_free_types.Goals as goal

pub free_type-add_but-requires : goal.free_type-add_but-requires
free_type-add_but-requires t c = record { base_len_bound = c.requires.base_len_bound; node = c.requires.node; node_2 = c.requires.node_2; node_3 = var_node c.requires.node_3 c.shape_at-s.ensures c.in-Var.is; wants = wants_as refl (at_var _ c.requires.node_3 c.shape_at-s.ensures _ _ c.in-Var.is) c.requires.wants }

pub free_type-free_types-requires : goal.free_type-free_types-requires
free_type-free_types-requires t c = let k = con_child c.requires.node_3 c.shape_at-s.ensures c.in-Con.is in (omega arith, (c.requires.base_len_bound, (c.requires.node, (c.requires.node_2, (k.1, wants_as refl (at_con _ c.requires.node_3 c.shape_at-s.ensures _ _ c.in-Con.is) c.requires.wants)))))

pub free_type-free_type-r-requires : goal.free_type-free_type-r-requires
free_type-free_type-r-requires t c = let k = arrow_left c.requires.node_3 c.shape_at-s.ensures c.in-Arrow.is in (omega arith, (c.requires.base_len_bound, (c.requires.node, (c.requires.node_2, (k.1, first_wants (count_type _ _ _) (wants_as refl (at_arrow _ c.requires.node_3 c.shape_at-s.ensures _ _ c.in-Arrow.is) c.requires.wants))))))

pub free_type-free_type-requires : goal.free_type-free_type-requires
free_type-free_type-requires t c = let k = arrow_right c.requires.node_3 c.shape_at-s.ensures c.in-Arrow.is in let q = type_next c.requires.node k.1 c.free_type-r.ensures.collects (wants_as refl (at_arrow _ c.requires.node_3 c.shape_at-s.ensures _ _ c.in-Arrow.is) c.requires.wants) (long c.args.base.now.words.now c.free_type-r.new.work c.args.work.now c.free_type-r.auto.work) in let m = q.more in let cl = c.requires.base_len_bound in (omega arith, (omega arith, (q.vars, (q.out, (q.node, q.wants)))))

pub free_type-returns-in-Var-clause-collects : goal.free_type-returns-in-Var-clause-collects
free_type-returns-in-Var-clause-collects t c = collects_as refl (sym (at_var _ c.requires.node_3 c.shape_at-s.ensures _ _ c.in-Var.is)) c.add_but.ensures.collects

pub free_type-returns-in-Con-clause-collects : goal.free_type-returns-in-Con-clause-collects
free_type-returns-in-Con-clause-collects t c = collects_as refl (sym (at_con _ c.requires.node_3 c.shape_at-s.ensures _ _ c.in-Con.is)) c.free_types.ensures.collects

pub free_type-returns-in-Arrow-clause-collects : goal.free_type-returns-in-Arrow-clause-collects
free_type-returns-in-Arrow-clause-collects t c = collects_as refl (sym (at_arrow _ c.requires.node_3 c.shape_at-s.ensures _ _ c.in-Arrow.is)) (type_then c.requires.node (arrow_right c.requires.node_3 c.shape_at-s.ensures c.in-Arrow.is).1 c.free_type-r.ensures.collects c.free_type.ensures.collects)

pub free_types-free_type-r-requires : goal.free_types-free_type-r-requires
free_types-free_type-r-requires t c = let k = cons_head c.requires.node_3 c.cell_at-c.ensures c.in-Cons.is in (omega arith, (c.requires.base_len_bound, (c.requires.node, (c.requires.node_2, (k.1, first_wants (count_types _ _ _) (wants_as refl (at_cons _ c.requires.node_3 c.cell_at-c.ensures _ _ c.in-Cons.is) c.requires.wants))))))

pub free_types-free_types-requires : goal.free_types-free_types-requires
free_types-free_types-requires t c = let k = cons_tail c.requires.node_3 c.cell_at-c.ensures c.in-Cons.is in let q = types_next c.requires.node k.1 c.free_type-r.ensures.collects (wants_as refl (at_cons _ c.requires.node_3 c.cell_at-c.ensures _ _ c.in-Cons.is) c.requires.wants) (long c.args.base.now.words.now c.free_type-r.new.work c.args.work.now c.free_type-r.auto.work) in let m = q.more in let cl = c.requires.base_len_bound in (omega arith, (omega arith, (q.vars, (q.out, (q.node, q.wants)))))

pub free_types-returns-in-Nil-clause-collects : goal.free_types-returns-in-Nil-clause-collects
free_types-returns-in-Nil-clause-collects t c = collects_same c.requires.node_2 (sym (at_nil _ c.requires.node_3 c.cell_at-c.ensures _ _ c.in-Nil.is))

pub free_types-returns-in-Cons-clause-collects : goal.free_types-returns-in-Cons-clause-collects
free_types-returns-in-Cons-clause-collects t c = collects_as refl (sym (at_cons _ c.requires.node_3 c.cell_at-c.ensures _ _ c.in-Cons.is)) (types_then c.requires.node (cons_tail c.requires.node_3 c.cell_at-c.ensures c.in-Cons.is).1 c.free_type-r.ensures.collects c.free_types.ensures.collects)
