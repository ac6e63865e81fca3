-- `names::key_of` meets its contract: a case for each kind of word. Assumes nothing.
use Rattle.names.proofs.Keyed.{key_node, key_named, key_fresh, key_nullary}
use Rattle.names.proofs.key_of.Goals as goal

pub returns-in-Node : goal.returns-in-Node
returns-in-Node c = key_node _ _ _ _ c.kind_of.ensures c.in-Node.is

pub returns-in-Named : goal.returns-in-Named
returns-in-Named c = key_named _ _ _ _ _ c.kind_of.ensures c.in-Named.is c.name_key.ensures

pub returns-in-Fresh : goal.returns-in-Fresh
returns-in-Fresh c = key_fresh _ _ _ _ _ c.kind_of.ensures c.in-Fresh.is c.made.ensures

pub returns-in-Nullary : goal.returns-in-Nullary
returns-in-Nullary c = key_nullary _ _ _ _ c.kind_of.ensures c.in-Nullary.is
