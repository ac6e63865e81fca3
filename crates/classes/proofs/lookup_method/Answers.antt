-- Each way out is the law of its tests.
use Rattle.classes.proofs.Looking.{looks_out, looks_none, looks_of}
use Rattle.classes.proofs.lookup_method.Goals as goal

pub returns-then-m-methods : goal.returns-then-m-methods
returns-then-m-methods c = looks_out c.args.methods.now c.args.m c.if-m-methods.true

pub returns-then-c-eq0 : goal.returns-then-c-eq0
returns-then-c-eq0 c = looks_none c.args.methods.now c.args.m c.if-c-eq0.true

pub returns : goal.returns
returns c = looks_of c.args.methods.now c.args.m c.if-m-methods.false c.if-c-eq0.false
