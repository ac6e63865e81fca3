-- Laws of the words that a new class takes: its superclasses are copied, and then its row is written.
use mathlib.Core.Path.{◌≡◌, refl, ◌∙◌}
use mathlib.Core.List.{List}
use Prim.Native.Nat.{ℕ, ◌+◌, ◌*◌, ◌<◌, ◌≤◌}
use native.Mathlib.Omega.{arith}
use lib.ListN.{length, get_or, set, length-set}
use lib.Seq.{get_or-set_same, get_or-set_other}
use borrow.Rule.Slice.PartMut.{put_mid}
use borrow.Author.Rules.{rules}
use Rattle.std.proofs.lemmas.List.{places}
use Rattle.classes.specs.Growing.{Copied}
use Rattle.classes.specs.Adding.{Puts}
use Rattle.std.specs.Prelude.{Ok, Err}
use Rattle.classes.specs.declared.NotAdded.TheVariants.{Full}

-- The superclasses are written.
pub copied : (w ss : List ℕ) (at k : ℕ) → length ss ≡ k → at + k ≤ length w → Copied w (put_mid at k w ss) at ss (length ss)
copied w ss at k e h = record {
  long = search (rules, places);
  new = λ j l. search (rules, places);
  low = λ j l. search (rules, places);
  high = λ j l. search (rules, places);
}

-- ## The row

-- There is no room.
pub put_full : {cl ss : List ℕ} {used c : ℕ} → (2 * c + 1 < length cl → length cl < used + length ss) → Puts cl cl used c ss (Err Full)
put_full h = record { is = (refl, h) }

module _ {cl cl₁ ss : List ℕ} {used : ℕ} (c : ℕ) (C : Copied cl cl₁ used ss (length ss)) (row : 2 * c + 1 < length cl) (fits : used + length ss ≤ length cl) where
  -- A word that is none of the row's.
  other : (j : ℕ) → (j ≡ 2 * c → ⊥) → (j ≡ 2 * c + 1 → ⊥) → get_or (set (set cl₁ (2 * c) used) (2 * c + 1) (length ss)) j 0 ≡ get_or cl₁ j 0
  other j a b = get_or-set_other (set cl₁ (2 * c) used) (2 * c + 1) j (length ss) 0 (λ e. b (omega arith)) ∙ get_or-set_other cl₁ (2 * c) j used 0 (λ e. a (omega arith))

  -- The superclasses and the row are written.
  pub put_done : Puts cl (set (set cl₁ (2 * c) used) (2 * c + 1) (length ss)) used c ss (Ok (used + length ss))
  put_done =
      let l = C.long in
      record {
        is = record {
          is = refl;
          fits = fits;
          long = simp length-set l;
          place = get_or-set_other (set cl₁ (2 * c) used) (2 * c + 1) (2 * c) (length ss) 0 (λ e. omega arith) ∙ get_or-set_same cl₁ (2 * c) used 0 (omega arith);
          count = get_or-set_same (set cl₁ (2 * c) used) (2 * c + 1) (length ss) 0 (simp length-set (omega arith));
          list = λ h j k. other (used + j) (λ e. omega arith) (λ e. omega arith) ∙ C.new j k;
          low = λ j a b k. other j a b ∙ C.low j k;
          high = λ j a b k. other j a b ∙ C.high j k;
        };
      }
