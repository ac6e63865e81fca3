-- Laws of rows: what four words say, what was written is read, and the other rows stand.
use mathlib.Core.Path.{◌≡◌, refl, ◌∙◌}
use mathlib.Core.List.{List}
use Prim.Native.Nat.{ℕ, zero, suc, ◌+◌, ◌*◌, ◌≤◌}
use native.Mathlib.Omega.{arith}
use lib.ListN.{length, get_or, set, length-set}
use lib.Seq.{get_or-set_same, get_or-set_other}
use Rattle.scope.specs.Scope.{closed_entry, local_entry, entry, entry_of, written, with_entry}
use Rattle.scope.specs.declared.Entry.{Entry}
use Rattle.scope.specs.declared.Entry.TheVariants.{Nothing, Closed, Local}

-- State 0.
pub is_nothing : (s vs ps t : ℕ) → s ≡ 0 → Nothing ≡ entry s vs ps t
is_nothing s vs ps t e = rw e

-- State 1.
pub is_closed : (s vs ps t : ℕ) → s ≡ 1 → closed_entry vs ps t ≡ entry s vs ps t
is_closed s vs ps t e = rw e

-- Any other state.
pub is_local : (s vs ps t : ℕ) → (s ≡ 0 → ⊥) → (s ≡ 1 → ⊥) → local_entry vs ps t ≡ entry s vs ps t
is_local zero vs ps t h k = absurd (h refl)
is_local (suc zero) vs ps t h k = absurd (k refl)
is_local (suc (suc s)) vs ps t h k = refl

module _ (ev : List ℕ) (r s vs ps t : ℕ) where
  -- No word is added or lost.
  written_long : length (written ev r s vs ps t) ≡ length ev
  unfolding written
  written_long = simp length-set refl

  -- A word of another place stands.
  word_other : (i : ℕ) → (i ≡ 4 * r → ⊥) → (i ≡ 4 * r + 1 → ⊥) → (i ≡ 4 * r + 2 → ⊥) → (i ≡ 4 * r + 3 → ⊥) → get_or (written ev r s vs ps t) i 0 ≡ get_or ev i 0
  unfolding written
  word_other i a b c d =
      let e₁ = set ev (4 * r) s in let e₂ = set e₁ (4 * r + 1) vs in let e₃ = set e₂ (4 * r + 2) ps in
      get_or-set_other e₃ (4 * r + 3) i t 0 d ∙ get_or-set_other e₂ (4 * r + 2) i ps 0 c ∙ get_or-set_other e₁ (4 * r + 1) i vs 0 b ∙ get_or-set_other ev (4 * r) i s 0 a

  -- Another row stands.
  written_other : (j : ℕ) → (j ≡ r → ⊥) → entry_of (written ev r s vs ps t) j ≡ entry_of ev j
  unfolding entry_of
  written_other j h =
      rw (
        word_other (4 * j) (omega arith) (omega arith) (omega arith) (omega arith),
        word_other (4 * j + 1) (omega arith) (omega arith) (omega arith) (omega arith),
        word_other (4 * j + 2) (omega arith) (omega arith) (omega arith) (omega arith),
        word_other (4 * j + 3) (omega arith) (omega arith) (omega arith) (omega arith),
      )

  module _ (fits : 4 * r + 4 ≤ length ev) where
    -- The state.
    word_0 : get_or (written ev r s vs ps t) (4 * r) 0 ≡ s
    unfolding written
    word_0 =
        let e₁ = set ev (4 * r) s in let e₂ = set e₁ (4 * r + 1) vs in let e₃ = set e₂ (4 * r + 2) ps in
        get_or-set_other e₃ (4 * r + 3) (4 * r) t 0 (omega arith) ∙ get_or-set_other e₂ (4 * r + 2) (4 * r) ps 0 (omega arith)
        ∙ get_or-set_other e₁ (4 * r + 1) (4 * r) vs 0 (omega arith) ∙ get_or-set_same ev (4 * r) s 0 (omega arith)

    -- The list of variables.
    word_1 : get_or (written ev r s vs ps t) (4 * r + 1) 0 ≡ vs
    unfolding written
    word_1 =
        let e₁ = set ev (4 * r) s in let e₂ = set e₁ (4 * r + 1) vs in let e₃ = set e₂ (4 * r + 2) ps in
        get_or-set_other e₃ (4 * r + 3) (4 * r + 1) t 0 (omega arith) ∙ get_or-set_other e₂ (4 * r + 2) (4 * r + 1) ps 0 (omega arith)
        ∙ get_or-set_same e₁ (4 * r + 1) vs 0 (simp length-set (omega arith))

    -- The list of predicates.
    word_2 : get_or (written ev r s vs ps t) (4 * r + 2) 0 ≡ ps
    unfolding written
    word_2 =
        let e₁ = set ev (4 * r) s in let e₂ = set e₁ (4 * r + 1) vs in let e₃ = set e₂ (4 * r + 2) ps in
        get_or-set_other e₃ (4 * r + 3) (4 * r + 2) t 0 (omega arith) ∙ get_or-set_same e₂ (4 * r + 2) ps 0 (simp length-set (omega arith))

    -- The type.
    word_3 : get_or (written ev r s vs ps t) (4 * r + 3) 0 ≡ t
    unfolding written
    word_3 =
        let e₁ = set ev (4 * r) s in let e₂ = set e₁ (4 * r + 1) vs in let e₃ = set e₂ (4 * r + 2) ps in
        get_or-set_same e₃ (4 * r + 3) t 0 (simp length-set (omega arith))

    -- The row.
    written_here : entry_of (written ev r s vs ps t) r ≡ entry s vs ps t
    unfolding entry_of
    written_here = rw (word_0, word_1, word_2, word_3)

-- The same of an entry: no word is added or lost.
pub entry_long : (ev : List ℕ) (r : ℕ) (e : Entry) → length (with_entry ev r e) ≡ length ev
entry_long ev r Nothing = written_long ev r 0 0 0 0
entry_long ev r (Closed s) = written_long ev r 1 s.vars s.preds s.ty
entry_long ev r (Local s) = written_long ev r 2 s.vars s.preds s.ty

-- What was written is read.
pub entry_here : (ev : List ℕ) (r : ℕ) (e : Entry) → 4 * r + 4 ≤ length ev → entry_of (with_entry ev r e) r ≡ e
entry_here ev r Nothing h = written_here ev r 0 0 0 0 h
entry_here ev r (Closed s) h = written_here ev r 1 s.vars s.preds s.ty h
entry_here ev r (Local s) h = written_here ev r 2 s.vars s.preds s.ty h

-- Other rows stand.
pub entry_other : (ev : List ℕ) (r : ℕ) (e : Entry) (j : ℕ) → (j ≡ r → ⊥) → entry_of (with_entry ev r e) j ≡ entry_of ev j
entry_other ev r Nothing j h = written_other ev r 0 0 0 0 j h
entry_other ev r (Closed s) j h = written_other ev r 1 s.vars s.preds s.ty j h
entry_other ev r (Local s) j h = written_other ev r 2 s.vars s.preds s.ty j h
