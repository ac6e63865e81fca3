-- By the answer of `is_closed`.
use Rattle.subst.proofs.SchemeWays.{scheme_stays, scheme_goes}
use Rattle.subst.proofs.apply_scheme.Goals as goal

pub returns-then-is_closed : goal.returns-then-is_closed
returns-then-is_closed c = scheme_stays c.requires.ready_scheme c.is_closed.ensures c.if-is_closed.true

pub returns : goal.returns
returns c = scheme_goes c.requires.ready_scheme c.is_closed.ensures c.if-is_closed.false c.apply_qual_but.ensures
