-- What `resolve` gave, in the words of `reduce`.
use Rattle.errors.proofs.Thrown.{thrown}
use Rattle.resolve.proofs.Seen.{done_is, refused_is}
use Rattle.reduce.proofs.Ones.{must_found, must_refused}
use Rattle.reduce.proofs.must_resolve.Goals as goal

pub returns-in_err-e-clause-gives : goal.returns-in_err-e-clause-gives
returns-in_err-e-clause-gives c = rw (thrown _ c.from_residual.ensures.1) (must_refused c.requires.ready_resolve c.args.rules.classes.now c.args.c c.resolve.ensures (refused_is c.in_err-e.was))

pub returns-clause-gives : goal.returns-clause-gives
returns-clause-gives c = must_found c.requires.ready_resolve c.args.rules.classes.now c.args.c c.resolve.ensures (done_is c.in_ok-e.was)
