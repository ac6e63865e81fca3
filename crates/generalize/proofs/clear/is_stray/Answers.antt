-- The row was replaced, or what its type says.
use Rattle.generalize.proofs.TestWays.{stray_gone, stray_var, stray_con, stray_arrow, stray_node, node_room}
use Rattle.generalize.proofs.clear.is_stray.Goals as goal

pub returns-in_default : goal.returns-in_default
returns-in_default c = stray_gone _ _ _ _ _ _ c.row_at-q.ensures c.in_default.is

pub shape_at-s-requires : goal.shape_at-s-requires
shape_at-s-requires c = node_room (stray_node _ c.requires.ready_rows.binders c.requires.i_lt_n c.row_at-q.ensures c.in-Pending.is)

pub returns-in-Var : goal.returns-in-Var
returns-in-Var c = stray_var _ _ _ _ _ _ c.row_at-q.ensures c.in-Pending.is (stray_node _ c.requires.ready_rows.binders c.requires.i_lt_n c.row_at-q.ensures c.in-Pending.is) c.shape_at-s.ensures c.in-Var.is c.is_lost.ensures

pub returns-in-Con : goal.returns-in-Con
returns-in-Con c = stray_con _ _ _ _ _ _ c.row_at-q.ensures c.in-Pending.is (stray_node _ c.requires.ready_rows.binders c.requires.i_lt_n c.row_at-q.ensures c.in-Pending.is) c.shape_at-s.ensures c.in-Con.is

pub returns-in-Arrow : goal.returns-in-Arrow
returns-in-Arrow c = stray_arrow _ _ _ _ _ _ c.row_at-q.ensures c.in-Pending.is (stray_node _ c.requires.ready_rows.binders c.requires.i_lt_n c.row_at-q.ensures c.in-Pending.is) c.shape_at-s.ensures c.in-Arrow.is
