-- The class is not declared, or what the test of overlap answers.
use mathlib.Core.Path.{refl}
use Rattle.classes.proofs.Accepting.{accepts_unknown, accepts_apart}
use Rattle.classes.proofs.add_instance.Goals as goal

pub returns-then-not-known-clause-gives : goal.returns-then-not-known-clause-gives
returns-then-not-known-clause-gives c = accepts_unknown c.args.c refl c.is_declared-known.ensures (mathlib.Core.Path.ap mathlib.Core.Bool.not c.if-not-known.true)

pub returns-clause-gives : goal.returns-clause-gives
returns-clause-gives c = accepts_apart c.args.c refl c.is_declared-known.ensures (mathlib.Core.Path.ap mathlib.Core.Bool.not c.if-not-known.false) c.none_overlaps.ensures.gives
