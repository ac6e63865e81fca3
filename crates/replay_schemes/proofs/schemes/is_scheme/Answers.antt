-- Each way out but one says no.
use Rattle.replay_schemes.proofs.schemes.is_scheme.Goals as goal

pub is_few-requires : goal.is_few-requires
is_few-requires c = (c.is_ready.ensures c.if-is_ready.true).first

pub has_few-requires : goal.has_few-requires
has_few-requires c = (c.is_ready.ensures c.if-is_ready.true).second

pub returns-then-is_few : goal.returns-then-is_few
returns-then-is_few c = λ e. record { fits = c.is_ready.ensures c.if-is_ready.true; vars = record { table = (c.is_ready.ensures c.if-is_ready.true).first.table; below = c.if-scheme-room.false }; preds = c.is_few.ensures c.if-is_few.true; ty = c.has_few.ensures e }
