-- The loop's invariant: what the rows from row i on leave is what all leave.
use native.Mathlib.Omega.{arith}
use Rattle.canonical.proofs.Leasts.{leasting, leasted, leasts_on}
use Rattle.canonical.proofs.least_above.Goals as goal

pub least_in-best-requires : goal.least_in-best-requires
least_in-best-requires c = c.requires.type

pub loop-i-init : goal.loop-i-init
loop-i-init c = leasting c.least_in-best.ensures

pub least_row-best-requires : goal.least_row-best-requires
least_row-best-requires c = record { ready_var = c.requires.type.env; binders = c.requires.binders; i_lt_n = c.loop-i-test.true }

pub loop-i-preserved : goal.loop-i-preserved
loop-i-preserved c = leasts_on c.loop-i.invariant c.loop-i-test.true c.least_row-best.ensures

pub returns : goal.returns
returns c = leasted c.loop-i.invariant (let l = c.loop-i-test.false in omega arith)
