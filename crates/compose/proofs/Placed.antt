-- Laws of `place` and `shift`: where a new pair goes, and how words make room for it.
use Prim.Native.Nat.{ℕ, ◌+◌, ◌*◌, ◌-◌, ◌<◌, ◌≤◌}
use native.Mathlib.Omega.{arith}
use native.Mathlib.Nat.{eq-or-lt_of_le}
use mathlib.Core.Path.{◌≡◌, refl, sym, ◌∙◌}
use mathlib.Core.Bool.{Bool, true, false}
use mathlib.Core.Logic.{◌⊎◌, ⊎_elim, ◌≢◌}
use mathlib.Core.Option.{none, some}
use mathlib.Core.List.{List, ◌∷◌, ◌++◌, append_assoc}
use lib.ListN.{length, get_or, set, length-set}
use lib.Seq.{get_or-set_same, get_or-set_other}
use Rattle.meaning.specs.Base.{is_yes, if}
use Rattle.meaning.specs.Ast.{TyVar, same_tyvar, tyvar_before, Ty}
use Rattle.meaning.specs.Map.{tyvars, get, insert}
use Rattle.meaning.specs.Subst.{Subst}
use Rattle.theorems.proofs.Tests.{is_no_of, none_some}
use Rattle.names.specs.Names.{tyvar_of}
use Rattle.pairs.specs.Pairs.{sub_at}
use Rattle.compose.specs.Compose.{Place, Shifted}
use Rattle.compose.proofs.Pieces.{pair_at, sub_snoc, sub_at_lem}

-- ## place
-- A variable that is not found is neither the first nor found later.
not_first : (x : TyVar) (q : TyVar × Ty) (s : Subst) → get tyvars x (q ∷ s) ≡ none → (x ≢ q.0) × (get tyvars x s ≡ none)
unfolding get
not_first x q s h = go (same_tyvar x q.0) h
  where
    go : (c : Dec (x ≡ q.0)) → if (is_yes c) (some q.1) (get tyvars x s) ≡ none → (x ≢ q.0) × (get tyvars x s ≡ none)
    go (yes e) h = absurd (none_some q.1 (sym h))
    go (no e) h = (e, h)

-- A new pair goes past one that is before it.
insert_past : (p q : TyVar × Ty) (s : Subst) → p.0 ≢ q.0 → tyvar_before p.0 q.0 ≡ false → insert tyvars p (q ∷ s) ≡ q ∷ insert tyvars p s
unfolding insert
insert_past p q s n h = rw (is_no_of (same_tyvar p.0 q.0) n, h)

-- And stays before one that is not.
insert_here : (p q : TyVar × Ty) (s : Subst) → p.0 ≢ q.0 → tyvar_before p.0 q.0 ≡ true → insert tyvars p (q ∷ s) ≡ p ∷ (q ∷ s)
unfolding insert
insert_here p q s n h = rw (is_no_of (same_tyvar p.0 q.0) n, h)

-- The pair goes somewhere after the first j pairs.
pub record Placing (ns w : List ℕ) (at k x j : ℕ) : Type 0 where
  pub upto : j ≤ k
  pub absent : get tyvars (tyvar_of ns x) (sub_at ns w at k) ≡ none → get tyvars (tyvar_of ns x) (sub_at ns w (at + 2 * j) (k - j)) ≡ none
  pub is : get tyvars (tyvar_of ns x) (sub_at ns w at k) ≡ none
      → (t : Ty) → insert tyvars (tyvar_of ns x, t) (sub_at ns w at k) ≡ sub_at ns w at j ++ insert tyvars (tyvar_of ns x, t) (sub_at ns w (at + 2 * j) (k - j))

-- At first no pair is passed.
pub placing : (ns w : List ℕ) (at k x : ℕ) → Placing ns w at k x 0
unfolding sub_at
placing ns w at k x =
    let e : at + 2 * 0 ≡ at = omega arith in
    let f : k - 0 ≡ k = omega arith in
    record { upto = omega arith; absent = λ h. rw (e, f) h; is = λ h t. rw (e, f) }

module _ {ns w : List ℕ} {at k x j : ℕ} (P : Placing ns w at k x j) where
  module _ (h : j < k) {y : ℕ} (e : y ≡ get_or w (at + 2 * j) 0) {b : Bool} (d : b ≡ tyvar_before (tyvar_of ns x) (tyvar_of ns y)) where
    -- The pairs after the next one.
    abbrev rest : Subst
    rest = sub_at ns w (at + 2 * (j + 1)) (k - (j + 1))

    -- The next pair has another variable, and so have the others.
    apart : get tyvars (tyvar_of ns x) (sub_at ns w at k) ≡ none → (tyvar_of ns x ≢ (pair_at ns w (at + 2 * j)).0) × (get tyvars (tyvar_of ns x) rest ≡ none)
    apart n = not_first (tyvar_of ns x) (pair_at ns w (at + 2 * j)) rest (rw (sub_at_lem ns w at k j h) at (P.absent n))

    -- A pair that is before the new one is passed.
    pub placing_on : b ≡ false → Placing ns w at k x (j + 1)
    placing_on f = record {
      upto = omega arith;
      absent = λ n. (apart n).1;
      is = λ n t. P.is n t ∙ rw (sub_at_lem ns w at k j h, insert_past (tyvar_of ns x, t) (pair_at ns w (at + 2 * j)) rest (apart n).0 (rw e at (sym d ∙ f)), sub_snoc ns w at j)
          (sym (append_assoc (sub_at ns w at j) _ _));
    }

    -- The place is before one that is not.
    pub placed_here : b ≡ true → Place ns w at k x j
    placed_here f = record {
      upto = P.upto;
      is = λ n t. P.is n t ∙ rw (sub_at_lem ns w at k j h, insert_here (tyvar_of ns x, t) (pair_at ns w (at + 2 * j)) rest (apart n).0 (rw e at (sym d ∙ f)));
    }

  -- Or after all pairs.
  pub placed_last : k ≤ j → Place ns w at k x j
  unfolding insert sub_at
  placed_last h = let z = P.upto in let e : k - j ≡ 0 = omega arith in record { upto = P.upto; is = λ n t. P.is n t ∙ rw e }

-- ## shift
-- The words from to + 2 up to i + 2 have been moved.
pub record Shifting (w w' : List ℕ) (to end i : ℕ) : Type 0 where
  pub long : length w' ≡ length w
  pub from : to ≤ i
  pub upto : i + 2 ≤ end
  pub moved : (q : ℕ) → to ≤ q → q < i → get_or w' q 0 ≡ get_or w (q + 2) 0
  pub before : (q : ℕ) → q < to → get_or w' q 0 ≡ get_or w q 0
  pub after : (q : ℕ) → i ≤ q → get_or w' q 0 ≡ get_or w q 0

-- At first none have.
pub shifting : (w : List ℕ) (to end : ℕ) → to + 2 ≤ end → Shifting w w to end to
shifting w to end h = record { long = refl; from = omega arith; upto = h; moved = λ q a b. absurd (omega arith); before = λ q h. refl; after = λ q h. refl }

-- The last place, or one before it.
here_or : (q i : ℕ) → q < i + 1 → (q ≡ i) ⊎ (q < i)
here_or q i h = let k : q ≤ i = omega arith in eq-or-lt_of_le k

module _ {w w₁ : List ℕ} {to end i : ℕ} (S : Shifting w w₁ to end i) where
  -- One more word.
  pub shifting_on : {w₂ : List ℕ} {v : ℕ} → i + 2 < end → end ≤ length w → v ≡ get_or w₁ (i + 2) 0 → w₂ ≡ set w₁ i v → Shifting w w₂ to end (i + 1)
  shifting_on {w₂} {v} h l ev ew =
      let f = S.from in
      let n = S.long in
      rw ew (record {
        long = rw length-set n;
        from = omega arith;
        upto = omega arith;
        moved = λ q a b. ⊎_elim
            (λ (e : q ≡ i). rw (e, get_or-set_same w₁ i v 0 (omega arith)) (ev ∙ S.after (i + 2) (omega arith)))
            (λ (e : q < i). get_or-set_other w₁ i q v 0 (omega arith) ∙ S.moved q a e)
            (here_or q i b);
        before = λ q a. get_or-set_other w₁ i q v 0 (omega arith) ∙ S.before q a;
        after = λ q a. get_or-set_other w₁ i q v 0 (omega arith) ∙ S.after q (omega arith);
      })

  -- All words have been moved.
  pub shifted : end ≤ i + 2 → Shifted w w₁ to end
  shifted h = let z = S.upto in record { moved = λ q a b. S.moved q a (omega arith); before = S.before; after = λ q a. S.after q (omega arith) }
