-- By the answer of `has_var`.
use Rattle.apply.proofs.Buts.{found_none, found_as}
use Rattle.apply.proofs.find_but.Goals as goal

pub returns-then-has_var : goal.returns-then-has_var
returns-then-has_var c = found_none _ _ _ _ _ _ c.has_var.ensures c.if-has_var.true

pub returns : goal.returns
returns c = found_as _ _ _ _ _ _ c.has_var.ensures c.if-has_var.false c.find.ensures
