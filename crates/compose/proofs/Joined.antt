-- Laws of `add` and `merge_in`: the pairs of one region are added to those of the other, from the last to the first.
use Prim.Native.Nat.{ℕ, ◌+◌, ◌*◌, ◌-◌, ◌<◌, ◌≤◌}
use native.Mathlib.Omega.{arith}
use mathlib.Core.Path.{◌≡◌, refl, ap, sym, ◌∙◌}
use mathlib.Core.Option.{none}
use mathlib.Core.List.{List, [], ◌∷◌, ◌++◌}
use lib.ListN.{length, get_or}
use Rattle.meaning.specs.Ast.{TyVar, Ty}
use Rattle.meaning.specs.Map.{tyvars, get}
use Rattle.meaning.specs.Subst.{Subst}
use Rattle.names.specs.Names.{Names, tyvar_of}
use Rattle.ast.specs.Table.{tree, Node, Kept}
use Rattle.pairs.specs.Pairs.{sub_at, find_at, Sub}
use Rattle.pairs.proofs.Frames.{sub_same}
use Rattle.pairs.proofs.Looks.{type_of, get_is}
use Rattle.compose.specs.Compose.{new_at, insert_new, merge_new, Fits, Opened, Added, Both, Merged}
use Rattle.compose.proofs.Pieces.{sub_snoc, below_first}
use Rattle.std.specs.Prelude.{Option, Some, None}

-- ## add
-- The variable is there already.
pub added_old : {ns : List ℕ} (w : List ℕ) (hi c x n : ℕ) {f : Option ℕ} {m : ℕ} → Names ns → f ≡ find_at w (hi - 2 * c) c x → f ≡ Some m → Added ns w w hi c x n c
unfolding insert_new new_at
added_old {ns} w hi c x n N e h = record {
  before = λ q a. refl;
  after = λ q a. refl;
  least = omega arith;
  most = omega arith;
  is = λ top a F t. (F, rw (get_is ns N w (hi - 2 * c) c x ∙ ap (type_of ns w) (sym e ∙ h)));
}

-- The pair is new.
pub added_new : {ns w w' : List ℕ} {hi c x n : ℕ} {f : Option ℕ} → Names ns → 2 * c + 2 ≤ hi → f ≡ find_at w (hi - 2 * c) c x → f ≡ None
    → Opened ns w w' (hi - 2 * c - 2) c x n → Added ns w w' hi c x n (c + 1)
unfolding insert_new new_at
added_new {ns} {w} {w'} {hi} {c} {x} {n} N r e h O =
    let p : hi - 2 * c - 2 + 2 ≡ hi - 2 * c = omega arith in
    let q : hi - 2 * (c + 1) ≡ hi - 2 * c - 2 = omega arith in
    let new : get tyvars (tyvar_of ns x) (sub_at ns w (hi - 2 * c) c) ≡ none = get_is ns N w (hi - 2 * c) c x ∙ ap (type_of ns w) (sym e ∙ h) in
    record {
      before = λ i a. O.before i (omega arith);
      after = λ i a. O.after i (omega arith);
      least = omega arith;
      most = omega arith;
      is = λ top a F t. rw (q, new) (rw p at (O.is top (omega arith) (rw p F) t (rw p new)));
    }

-- ## merge_in
-- The last pair is added first.
merge_snoc : (s : Subst) (p : TyVar × Ty) (o : Subst) → merge_new (s ++ p ∷ []) o ≡ merge_new s (insert_new p o)
merge_snoc [] p o = refl
merge_snoc (q ∷ s) p o = ap (insert_new q) (merge_snoc s p o)

-- The first j pairs are left, and c pairs end where the regions ended.
pub record MergingAs (ns w₀ w : List ℕ) (lo k₂ k₁ j c top : ℕ) : Type 0 where
  pub fits : Fits w top (lo + 2 * k₂ + 2 * k₁ - 2 * c) c
  pub self : Sub w top lo j
  pub is : merge_new (sub_at ns w lo j) (sub_at ns w (lo + 2 * k₂ + 2 * k₁ - 2 * c) c) ≡ merge_new (sub_at ns w₀ lo k₂) (sub_at ns w₀ (lo + 2 * k₂) k₁)

-- The same under what the contract may suppose, and the words that stand.
pub record Merging (ns w₀ w : List ℕ) (lo k₂ k₁ j c : ℕ) : Type 0 where
  pub long : length w ≡ length w₀
  pub upto : j + c ≤ k₂ + k₁
  pub before : (q : ℕ) → q < lo → get_or w q 0 ≡ get_or w₀ q 0
  pub after : (q : ℕ) → lo + 2 * k₂ + 2 * k₁ ≤ q → get_or w q 0 ≡ get_or w₀ q 0
  pub given : (top left : ℕ) → Both ns w₀ top left lo k₂ k₁ → MergingAs ns w₀ w lo k₂ k₁ j c top

-- At first all pairs are left.
pub merging : (ns w : List ℕ) (lo k₂ k₁ : ℕ) → Merging ns w w lo k₂ k₁ k₂ k₁
merging ns w lo k₂ k₁ = record {
  long = refl;
  upto = omega arith;
  before = λ q h. refl;
  after = λ q h. refl;
  given = λ top left B.
      let e : lo + 2 * k₂ + 2 * k₁ - 2 * k₁ ≡ lo + 2 * k₂ = omega arith in
      let z = B.room in
      record { fits = rw e (record { table = B.table; under = omega arith; sub = B.other }); self = B.self; is = rw e };
}

-- One pair more is added.
pub merging_on : {ns w₀ w w' : List ℕ} {lo k₂ k₁ j c x n c' : ℕ} → Merging ns w₀ w lo k₂ k₁ j c → 0 < j → x ≡ get_or w (lo + 2 * (j - 1)) 0 → n ≡ get_or w (lo + 2 * (j - 1) + 1) 0
    → Added ns w w' (lo + 2 * k₂ + 2 * k₁) c x n c' → length w' ≡ length w → Merging ns w₀ w' lo k₂ k₁ (j - 1) c'
merging_on {ns} {w₀} {w} {w'} {lo} {k₂} {k₁} {j} {c} {x} {n} {c'} M h ex en A len =
    let u = M.upto in
    let m = A.most in
    let ml = M.long in
    record {
      long = omega arith;
      upto = omega arith;
      before = λ q a. A.before q (omega arith) ∙ M.before q a;
      after = λ q a. A.after q a ∙ M.after q a;
      given = λ top left B.
          let r = B.room in
          let N = M.given top left B in
          let K : Kept w w' top = record { at = λ q a. A.before q (omega arith) } in
          let node : Node w top n = record { table = N.fits.table; below = rw en (N.self.bound.node (j - 1) (omega arith)) } in
          let R = A.is top (omega arith) N.fits node in
          let e : j - 1 + 1 ≡ j = omega arith in
          let z = N.self.fits in
          record {
            fits = R.0;
            self = record { fits = omega arith; bound = record { node = λ i a. rw (A.before (lo + 2 * i + 1) (omega arith)) (N.self.bound.node i (omega arith)) } };
            is = rw (R.1, sub_same ns N.fits.table K lo (j - 1) (below_first (j - 1) N.self.bound (omega arith)) (λ q a b. A.before q (omega arith)))
                (sym (merge_snoc (sub_at ns w lo (j - 1)) (tyvar_of ns x, tree ns w n) _) ∙ rw (ex, en, ← sub_snoc ns w lo (j - 1), e) N.is);
          };
    }

-- None is left.
pub merged : {ns w₀ w : List ℕ} {lo k₂ k₁ j c : ℕ} → Merging ns w₀ w lo k₂ k₁ j c → j ≤ 0 → Merged ns w₀ w lo k₂ k₁ c
unfolding sub_at
merged {ns} {w₀} {w} {lo} {k₂} {k₁} {j} {c} M h =
    let e : j ≡ 0 = omega arith in
    let u = M.upto in
    record {
      before = M.before;
      after = M.after;
      most = omega arith;
      is = λ top left B. ((M.given top left B).fits, rw e at (M.given top left B).is);
    }
