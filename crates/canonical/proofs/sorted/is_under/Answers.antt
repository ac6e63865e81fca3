-- By what was picked.
use Rattle.canonical.proofs.Lasts.{under_nothing, under_word}
use Rattle.canonical.proofs.sorted.is_under.Goals as goal

pub returns-in-None : goal.returns-in-None
returns-in-None c = under_nothing _ _ _ c.in-None.is

pub returns-in-Some : goal.returns-in-Some
returns-in-Some c = under_word _ _ _ _ c.in-Some.is c.before-in-Some.ensures
