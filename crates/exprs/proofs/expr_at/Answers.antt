-- `exprs::expr_at` meets its contract: each arm shows what `views` saw, with the numbers of its names. Assumes nothing.
use mathlib.Core.Path.{ap, ◌∙◌}
use Rattle.std.specs.Prelude.{Some}
use Rattle.exprs.proofs.Shown.{shows_var, shows_int, shows_bool, shows_abs, shows_app, shows_let, shows_none}
use Rattle.exprs.proofs.expr_at.Goals as goal

pub returns-in_err-x : goal.returns-in_err-x
returns-in_err-x c = rw c.from_residual.ensures (shows_none c.expr_at.ensures c.in_err-x.was)

pub returns-in-Var : goal.returns-in-Var
returns-in-Var c = shows_var c.expr_at.ensures (c.in_ok-x.was ∙ ap Some c.in-Var.is) c.name_number.ensures

pub returns-in-Int : goal.returns-in-Int
returns-in-Int c = shows_int c.expr_at.ensures (c.in_ok-x.was ∙ ap Some c.in-Int.is)

pub returns-in-Bool : goal.returns-in-Bool
returns-in-Bool c = shows_bool c.expr_at.ensures (c.in_ok-x.was ∙ ap Some c.in-Bool.is)

pub returns-in-Abs : goal.returns-in-Abs
returns-in-Abs c = shows_abs c.expr_at.ensures (c.in_ok-x.was ∙ ap Some c.in-Abs.is) c.name_number-in-Abs.ensures

pub returns-in-App : goal.returns-in-App
returns-in-App c = shows_app c.expr_at.ensures (c.in_ok-x.was ∙ ap Some c.in-App.is)

pub returns-in-Let : goal.returns-in-Let
returns-in-Let c = shows_let c.expr_at.ensures (c.in_ok-x.was ∙ ap Some c.in-Let.is) c.name_number-in-Let.ensures
