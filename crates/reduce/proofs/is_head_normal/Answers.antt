-- Each shape by its law.
use Rattle.reduce.proofs.Ones.{normal_var, normal_con, normal_arrow}
use Rattle.reduce.proofs.is_head_normal.Goals as goal

pub returns-in-Var : goal.returns-in-Var
returns-in-Var c = normal_var c.shape_at-s.ensures c.in-Var.is

pub returns-in-Con : goal.returns-in-Con
returns-in-Con c = normal_con c.shape_at-s.ensures c.in-Con.is

pub returns-in-Arrow : goal.returns-in-Arrow
returns-in-Arrow c = normal_arrow c.shape_at-s.ensures c.in-Arrow.is
