-- The case of no variables that stay.
use Rattle.subst.proofs.Wholes.{whole_qual}
use Rattle.subst.proofs.apply_qual.Goals as goal

pub returns : goal.returns
returns c = whole_qual _ c.requires.ready_qual c.apply_qual_but.ensures
