-- By the test: the givens alone, or `resolve`.
use Rattle.reduce.proofs.Ones.{one_var, one_other}
use Rattle.reduce.proofs.reduce_one.Goals as goal

pub returns-then-is_head_normal-clause-gives : goal.returns-then-is_head_normal-clause-gives
returns-then-is_head_normal-clause-gives c = one_var c.requires.ready_resolve c.args.rules.classes.now c.args.c c.is_head_normal.ensures c.if-is_head_normal.true c.resolve_from_givens.ensures.gives

pub returns-clause-gives : goal.returns-clause-gives
returns-clause-gives c = one_other c.requires.ready_resolve c.args.rules.classes.now c.args.c c.is_head_normal.ensures c.if-is_head_normal.false c.must_resolve.ensures.gives
