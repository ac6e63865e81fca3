-- What `find` found, or the variable itself.
use Rattle.ends.proofs.Raising.{seen_or}
use Rattle.ends.proofs.seen.Goals as goal

pub returns : goal.returns
returns c = rw c.unwrap_or.ensures (seen_or _ _ _ _ c.find.result c.find.ensures c.requires.a_lt_first_nullary)
