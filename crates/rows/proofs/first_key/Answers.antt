-- `rows::first_key` meets its contract. Assumes nothing.
use Rattle.rows.proofs.Start.{first_built, first_filler}
use Rattle.rows.proofs.first_key.Goals as goal

pub returns-then-r-lt35 : goal.returns-then-r-lt35
returns-then-r-lt35 c = first_built _ _ c.if-r-lt35.true c.built_in_key.ensures

pub returns-else-r-lt35 : goal.returns-else-r-lt35
returns-else-r-lt35 c = first_filler _ 0 c.if-r-lt35.false
