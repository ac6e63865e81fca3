-- Each way out by its law of `FreeLaws`.
use Rattle.scope.proofs.FreeLaws.{bound_in, in_type, in_others}
use Rattle.scope.proofs.in_scheme.Goals as goal

pub returns-then-has_var : goal.returns-then-has_var
returns-then-has_var c = bound_in _ _ _ _ _ _ c.has_var.ensures c.if-has_var.true

pub returns-then-occurs_in : goal.returns-then-occurs_in
returns-then-occurs_in c = in_type _ _ _ _ _ _ c.has_var.ensures c.if-has_var.false c.occurs_in.ensures c.if-occurs_in.true

pub returns : goal.returns
returns c = in_others _ _ _ _ _ _ c.has_var.ensures c.if-has_var.false c.occurs_in.ensures c.if-occurs_in.false c.in_preds.ensures
