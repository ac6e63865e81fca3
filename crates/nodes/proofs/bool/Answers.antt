-- `nodes::bool` meets its contract. Assumes nothing.
use Rattle.nodes.proofs.Tags.{bool_is, bool_over, bool_cut}
use Rattle.nodes.proofs.bool.Goals as goal

pub returns-in-Some-eq0 : goal.returns-in-Some-eq0
returns-in-Some-eq0 c = bool_is _ _ _ c.in-Some-eq0.ensures c.in-Some-eq0.field-0-test

pub returns-in_default : goal.returns-in_default
returns-in_default c = bool_over _ _ _ c.in_default.ensures c.in_default.field-0-test

pub returns-in_default-2 : goal.returns-in_default-2
returns-in_default-2 c = bool_cut _ _ c.in_default.ensures
