-- `names::before` meets its contract: the bytes of both variables are compared, and then the tie. Assumes nothing.
use Rattle.names.proofs.Order.{tied_before, bytes_before}
use Rattle.names.proofs.before.Goals as goal

pub returns-then-same : goal.returns-then-same
returns-then-same c = tied_before _ _ _ _ _ _ c.key_of-p.ensures c.key_of-q.ensures c.same.ensures c.if-same.true (c.tied.ensures _)

pub returns : goal.returns
returns c = bytes_before _ _ _ _ _ _ c.key_of-p.ensures c.key_of-q.ensures c.same.ensures c.if-same.false c.less.ensures
