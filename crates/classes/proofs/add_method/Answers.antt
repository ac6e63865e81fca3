-- The method is the class's already, or its row is written.
use Rattle.classes.proofs.Recording.{one_own, one_new}
use Rattle.classes.proofs.add_method.Goals as goal

pub returns-then-methods-m : goal.returns-then-methods-m
returns-then-methods-m c = one_own c.args.methods.now c.args.m c.args.c c.args.t c.if-methods-m.true

pub returns : goal.returns
returns c = one_new c.args.methods.now c.args.m c.args.c c.args.t c.if-methods-m.false
