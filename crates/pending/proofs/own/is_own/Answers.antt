-- Each shape by its law.
use Rattle.pending.proofs.Owns.{own_var, own_con, own_arrow}
use Rattle.pending.proofs.own.is_own.Goals as goal

pub returns-in-Var : goal.returns-in-Var
returns-in-Var c = own_var _ _ _ c.requires.node_2 c.shape_at-s.ensures c.in-Var.is c.has_own.ensures

pub returns-in-Con : goal.returns-in-Con
returns-in-Con c = own_con _ _ _ c.requires.node_2 c.shape_at-s.ensures c.in-Con.is

pub returns-in-Arrow : goal.returns-in-Arrow
returns-in-Arrow c = own_arrow _ _ _ c.requires.node_2 c.shape_at-s.ensures c.in-Arrow.is
