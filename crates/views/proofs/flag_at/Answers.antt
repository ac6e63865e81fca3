-- `views::flag_at` meets its contract. Assumes nothing.
use mathlib.Core.Path.{refl}
use Rattle.views.proofs.Onward.{value_is}
use Rattle.views.proofs.ExprLaws.{flag_true, flag_false, flag_cut}
use Rattle.views.proofs.flag_at.Goals as goal

pub returns-in-Some-eq1 : goal.returns-in-Some-eq1
returns-in-Some-eq1 c = flag_true _ _ _ (value_is 1 _ _ _ _ c.in-Some-eq1.ensures refl) c.in-Some-eq1.field-0-test

pub returns-in_default : goal.returns-in_default
returns-in_default c = flag_false _ _ _ (value_is 1 _ _ _ _ c.in_default.ensures refl) c.in_default.field-0-test.1

pub returns-in_default-2 : goal.returns-in_default-2
returns-in_default-2 c = flag_cut _ _ (rw c.in_default.is at c.byte.ensures)
