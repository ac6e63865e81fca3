-- The loop's invariant: no row before number i is ambiguous.
use mathlib.Core.Path.{sym, ◌∙◌, subst}
use native.Mathlib.Omega.{arith}
use Rattle.generalize.specs.Tested.{Tests}
use Rattle.generalize.proofs.TestWays.{testing, tested_all, tested_on, tested_found}
use Rattle.generalize.proofs.clear.ambiguous.Goals as goal

pub loop-i-init : goal.loop-i-init
loop-i-init c = testing _ _ _ _ _ _

pub is_stray-requires : goal.is_stray-requires
is_stray-requires c = record { ready_rows = c.requires; i_lt_n = c.loop-i-test.true }

pub refuse_row-requires : goal.refuse_row-requires
refuse_row-requires c = let f = c.requires.binders.rows.fits in let l = c.loop-i-test.true in omega arith

pub returns-then-is_stray : goal.returns-then-is_stray
returns-then-is_stray c = subst (Tests _ _ _ _ _ _) (sym c.refuse_row.ensures) (tested_found c.loop-i.invariant c.loop-i-test.true c.requires.binders (sym c.if-is_stray.true ∙ c.is_stray.ensures))

pub loop-i-preserved : goal.loop-i-preserved
loop-i-preserved c = tested_on c.loop-i.invariant c.loop-i-test.true (sym c.if-is_stray.false ∙ c.is_stray.ensures)

pub returns : goal.returns
returns c = tested_all c.loop-i.invariant (let l = c.loop-i-test.false in omega arith)
