-- `names::tied` meets its contract: only a made variable has another before it. Assumes nothing.
use Rattle.names.proofs.Keyed.{second_named, first_named, both_made}
use Rattle.names.proofs.tied.Goals as goal

pub returns-in_default : goal.returns-in_default
returns-in_default c = second_named _ _ _ c.kind_of-t.ensures c.in_default.not-Fresh

pub returns-in_default-s : goal.returns-in_default-s
returns-in_default-s c = first_named _ _ _ _ _ c.kind_of-s.ensures c.kind_of-t.ensures c.in_default-s.not-Fresh c.in-Fresh.is

pub returns : goal.returns
returns c = both_made _ _ _ _ _ _ c.kind_of-s.ensures c.kind_of-t.ensures c.in-Fresh-s.is c.in-Fresh.is
