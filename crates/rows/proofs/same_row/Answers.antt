-- `rows::same_row` meets its contract: the first words that differ decide. Assumes nothing.
use mathlib.Core.Path.{◌≡◌, refl, ◌∙◌}
use mathlib.Core.Bool.{◌&&◌}
use Prim.Native.Nat.{◌+◌, ◌*◌}
use native.Mathlib.Omega.{arith}
use lib.Dec.{eqb}
use lib.ListN.{get_or}
use borrow.Author.Tests.{eq-eqb, ne_eqb}
use Rattle.rows.proofs.Cells.{words_tell, both_of, first_fails}
use Rattle.rows.proofs.same_row.Goals as goal
use Rattle.rows.proofs.same_row.Goals.{then-k-names, else-k-names, then-k-names-2, else-k-names-2}

pub returns-then-k-names-3 : goal.returns-then-k-names-3
returns-then-k-names-3 c =
    let p : c.if-k-names.value ≡ (eqb c.args.k.a (get_or c.args.names.now (4 * c.args.r) 0) && eqb c.args.k.b (get_or c.args.names.now (4 * c.args.r + 1) 0)) =
    elim c.if-k-names.branch [ then-k-names w ↦ both_of _ refl (eq-eqb _ _ w.if-k-names.true) w.value-is | else-k-names w ↦ first_fails _ refl (ne_eqb _ _ w.if-k-names.false) w.value-is ] in
    let q : c.if-k-names-2.value ≡ ((eqb c.args.k.a (get_or c.args.names.now (4 * c.args.r) 0) && eqb c.args.k.b (get_or c.args.names.now (4 * c.args.r + 1) 0))
    && eqb c.args.k.c (get_or c.args.names.now (4 * c.args.r + 2) 0)) =
    elim c.if-k-names-2.branch [ then-k-names-2 w ↦ both_of _ p w.if-k-names-2.true w.value-is | else-k-names-2 w ↦ first_fails _ p w.if-k-names-2.false w.value-is ] in
    both_of _ q c.if-k-names-3.true refl ∙ words_tell c.args.k _ _ (omega arith) (record { below = λ i. omega (arith, c.type_inv.names i) })

pub returns-else-k-names-3 : goal.returns-else-k-names-3
returns-else-k-names-3 c =
    let p : c.if-k-names.value ≡ (eqb c.args.k.a (get_or c.args.names.now (4 * c.args.r) 0) && eqb c.args.k.b (get_or c.args.names.now (4 * c.args.r + 1) 0)) =
    elim c.if-k-names.branch [ then-k-names w ↦ both_of _ refl (eq-eqb _ _ w.if-k-names.true) w.value-is | else-k-names w ↦ first_fails _ refl (ne_eqb _ _ w.if-k-names.false) w.value-is ] in
    let q : c.if-k-names-2.value ≡ ((eqb c.args.k.a (get_or c.args.names.now (4 * c.args.r) 0) && eqb c.args.k.b (get_or c.args.names.now (4 * c.args.r + 1) 0))
    && eqb c.args.k.c (get_or c.args.names.now (4 * c.args.r + 2) 0)) =
    elim c.if-k-names-2.branch [ then-k-names-2 w ↦ both_of _ p w.if-k-names-2.true w.value-is | else-k-names-2 w ↦ first_fails _ p w.if-k-names-2.false w.value-is ] in
    first_fails _ q c.if-k-names-3.false refl ∙ words_tell c.args.k _ _ (omega arith) (record { below = λ i. omega (arith, c.type_inv.names i) })
