-- Numbers move up until there is a gap where a name goes.
use mathlib.Core.Path.{◌≡◌, refl, sym, ap, ◌∙◌}
use mathlib.Core.Bool.{Bool, true, false}
use mathlib.Core.List.{List}
use Prim.Native.Nat.{ℕ, suc, ◌-◌, ◌<◌, ◌≤◌}
use native.Mathlib.Omega.{arith}
use native.Mathlib.Decide.{ℕ_discrete}
use lib.ListN.{length, get_or, set, length-set}
use lib.Seq.{get_or-set_same, get_or-set_other}
use Rattle.meaning.specs.Ast.{name_before}
use Rattle.names.specs.Names.{name_of}
use Rattle.order.specs.Sorting.{Low, Room, Inserted}

-- The numbers from i on moved up by one; the loop looks at the one before i.
pub record Moving (ns od od₁ : List ℕ) (k r i : ℕ) : Type 0 where
  pub wide : length od₁ ≡ length od
  pub upto : i ≤ k
  pub low : (j : ℕ) → j < i → get_or od₁ j 0 ≡ get_or od j 0
  pub high : (j : ℕ) → i ≤ j → j < k → get_or od₁ (suc j) 0 ≡ get_or od j 0
  pub after : i < k → name_before (name_of ns (get_or od i 0)) (name_of ns r) ≡ false

-- At first none moved.
pub none_moved : (ns od : List ℕ) (k r : ℕ) → Moving ns od od k r k
none_moved ns od k r = record { wide = refl; upto = omega arith; low = λ j h. refl; high = λ j g h. absurd (omega arith); after = λ h. absurd (omega arith) }

module _ {ns od od₁ : List ℕ} {k r i : ℕ} (M : Moving ns od od₁ k r i) where
  -- All moved.
  pub all_moved : i ≡ 0 → Room ns od od₁ k r 0
  all_moved e = record { wide = M.wide; upto = omega arith; low = λ j h. absurd (omega arith); high = λ j g h. M.high j (omega arith) h; before = λ j h. absurd (omega arith); after = rw e at M.after }

  module _ (h : 0 < i) where
    -- The number before i is the one that was there.
    pub moved_reads : get_or od₁ (i - 1) 0 ≡ get_or od (i - 1) 0
    moved_reads = M.low (i - 1) (omega arith)

    -- It is a row's.
    pub moved_low : Low od k → get_or od₁ (i - 1) 0 < 1_059
    moved_low L = let u = M.upto in let b : i - 1 < k = omega arith in rw moved_reads (L.below (i - 1) b)

    -- Its name lies before: here is the gap.
    pub moved_stops : (b : Bool) → b ≡ name_before (name_of ns (get_or od₁ (i - 1) 0)) (name_of ns r) → b ≡ true → Room ns od od₁ k r i
    moved_stops b e f = record {
      wide = M.wide;
      upto = M.upto;
      low = M.low;
      high = M.high;
      before = λ j g. let p : i - 1 ≡ j = omega arith in ap (λ n. name_before (name_of ns (get_or od n 0)) (name_of ns r)) (sym p)
          ∙ ap (λ n. name_before (name_of ns n) (name_of ns r)) (sym moved_reads) ∙ sym e ∙ f;
      after = M.after;
    }

    -- It does not: it moves.
    pub moved_on : (b : Bool) → k < length od → b ≡ name_before (name_of ns (get_or od₁ (i - 1) 0)) (name_of ns r) → b ≡ false → Moving ns od (set od₁ i (get_or od₁ (i - 1) 0)) k r (i - 1)
    moved_on b l e f = let u = M.upto in let w = M.wide in record {
      wide = length-set od₁ i (get_or od₁ (i - 1) 0) ∙ M.wide;
      upto = omega arith;
      low = λ j g. get_or-set_other od₁ i j (get_or od₁ (i - 1) 0) 0 (omega arith) ∙ M.low j (omega arith);
      high = λ j g p. moves j g p (ℕ_discrete (suc j) i);
      after = λ p. ap (λ n. name_before (name_of ns n) (name_of ns r)) (sym moved_reads) ∙ sym e ∙ f;
    }
      where
        moves : (j : ℕ) → i - 1 ≤ j → j < k → Dec (suc j ≡ i) → get_or (set od₁ i (get_or od₁ (i - 1) 0)) (suc j) 0 ≡ get_or od j 0
        moves j g p (yes q) =
            let u = M.upto in let w = M.wide in let s : i - 1 ≡ j = omega arith in
            rw q (get_or-set_same od₁ i (get_or od₁ (i - 1) 0) 0 (omega arith)) ∙ moved_reads ∙ ap (λ n. get_or od n 0) s
        moves j g p (no q) = get_or-set_other od₁ i (suc j) (get_or od₁ (i - 1) 0) 0 q ∙ M.high j (omega arith) p

-- A number is written into the gap.
pub gap_filled : {ns od od₁ : List ℕ} {k r i : ℕ} → k < length od → Room ns od od₁ k r i → Inserted ns od (set od₁ i r) k r
gap_filled {ns} {od} {od₁} {k} {r} {i} h R =
    let u = R.upto in let w = R.wide in
    record {
      place = i;
      room = record {
        wide = length-set od₁ i r ∙ R.wide;
        upto = R.upto;
        low = λ j g. get_or-set_other od₁ i j r 0 (omega arith) ∙ R.low j g;
        high = λ j g p. get_or-set_other od₁ i (suc j) r 0 (omega arith) ∙ R.high j g p;
        before = R.before;
        after = R.after;
      };
      here = get_or-set_same od₁ i r 0 (omega arith);
    }
