-- Each way out is the law of its test.
use Rattle.supers.proofs.ClassLaws.{row_not, row_tells}
use Rattle.supers.proofs.is_declared.Goals as goal

pub returns-then-c-classes : goal.returns-then-c-classes
returns-then-c-classes c = row_not c.args.classes.now c.args.c c.if-c-classes.true

pub returns : goal.returns
returns c = row_tells c.args.classes.now c.args.c c.if-c-classes.false
