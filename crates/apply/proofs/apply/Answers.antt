-- All pairs are those without no variables.
use Rattle.apply.proofs.Buts.{all_given}
use Rattle.apply.proofs.apply.Goals as goal

pub returns : goal.returns
returns c = all_given _ c.requires.ready c.apply_but.ensures
