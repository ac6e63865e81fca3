-- `compose::add` meets its contract: the pair is written if its variable was not found. Assumes nothing.
use native.Mathlib.Omega.{arith}
use Rattle.compose.proofs.Joined.{added_old, added_new}
use Rattle.compose.proofs.add.Goals as goal

pub returns-in-Some : goal.returns-in-Some
returns-in-Some c = added_old _ _ _ _ _ c.requires.names c.find-f.ensures c.in-Some.is

pub returns-in-None : goal.returns-in-None
returns-in-None c = added_new c.requires.names (let p = c.requires in omega arith) c.find-f.ensures c.in-None.is c.insert.ensures
