-- `spelling::like_word` meets its contract. Assumes nothing.
use mathlib.Core.Path.{◌≡◌, refl, ◌∙◌}
use Rattle.spelling.proofs.Made.{first_of, second_of, two_tests, three_tests, four_tests_word}
use Rattle.spelling.proofs.like_word.Goals as goal
use Rattle.spelling.proofs.like_word.Goals.{then-eq, else-eq, then-numbered, else-numbered}

pub returns-then-starts_with : goal.returns-then-starts_with
returns-then-starts_with c =
    let p : c.if-eq.value ≡ two_tests c.args.text.now =
    elim c.if-eq.branch [ then-eq w ↦ first_of _ _ c.eq.ensures w.if-eq.true w.value-is | else-eq w ↦ second_of _ _ c.eq.ensures w.if-eq.false w.value-is w.numbered.ensures ] in
    let q : c.if-numbered.value ≡ three_tests c.args.text.now =
    elim c.if-numbered.branch [ then-numbered w ↦ first_of _ _ p w.if-numbered.true w.value-is | else-numbered w ↦ second_of _ _ p w.if-numbered.false w.value-is w.starts_with.ensures.value ] in
    first_of _ _ q c.if-starts_with.true refl ∙ four_tests_word _

pub returns-else-starts_with : goal.returns-else-starts_with
returns-else-starts_with c =
    let p : c.if-eq.value ≡ two_tests c.args.text.now =
    elim c.if-eq.branch [ then-eq w ↦ first_of _ _ c.eq.ensures w.if-eq.true w.value-is | else-eq w ↦ second_of _ _ c.eq.ensures w.if-eq.false w.value-is w.numbered.ensures ] in
    let q : c.if-numbered.value ≡ three_tests c.args.text.now =
    elim c.if-numbered.branch [ then-numbered w ↦ first_of _ _ p w.if-numbered.true w.value-is | else-numbered w ↦ second_of _ _ p w.if-numbered.false w.value-is w.starts_with.ensures.value ] in
    second_of _ _ q c.if-starts_with.false refl c.starts_with-else-starts_with.ensures.value ∙ four_tests_word _
