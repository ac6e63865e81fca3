-- By the row's first word.
use Rattle.order.proofs.Less.{due-idle, due_other}
use Rattle.order.proofs.is_due.Goals as goal

pub returns-then-w-eq0 : goal.returns-then-w-eq0
returns-then-w-eq0 c = due-idle _ _ _ c.if-w-eq0.true

pub returns : goal.returns
returns c = due_other _ _ _ c.if-w-eq0.false
