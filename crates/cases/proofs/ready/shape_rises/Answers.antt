-- Each way out is what the type of its shape refers to.
use Rattle.cases.proofs.Falling.{var_falls, con_falls, arrow_falls}
use Rattle.cases.proofs.ready.shape_rises.Goals as goal

pub returns-in-Var : goal.returns-in-Var
returns-in-Var c = λ e. var_falls _ _ _ c.in-Var.is

pub returns-in-Con : goal.returns-in-Con
returns-in-Con c = λ e. con_falls _ _ _ _ c.in-Con.is e

pub returns-else-a-t : goal.returns-else-a-t
returns-else-a-t c = λ e. arrow_falls _ _ _ _ c.in-Arrow.is c.if-a-t.false e
