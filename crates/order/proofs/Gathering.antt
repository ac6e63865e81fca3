-- A number that is inserted keeps the others in order, and the passes take each number once.
use mathlib.Core.Path.{◌≡◌, refl, sym, ap, ◌∙◌}
use mathlib.Core.Bool.{Bool, true, false}
use mathlib.Core.List.{List}
use Prim.Native.Nat.{ℕ, suc, ◌+◌, ◌-◌, ◌<◌, ◌≤◌}
use native.Mathlib.Omega.{arith}
use native.Mathlib.Decide.{ℕ_discrete, dec_lt}
use lib.ListN.{length, get_or}
use Rattle.meaning.specs.Ast.{name_before}
use Rattle.names.specs.Names.{name_of, Names}
use Rattle.names.proofs.Distinct.{name_of_same}
use Rattle.theorems.proofs.ByteOrder.{names_ordered}
use Rattle.order.specs.Sorting.{due, chosen, In, Gathered, Inserted, Passed, Ordered}
use Rattle.order.proofs.Tallies.{tally_same, tally_most, tally_all, tally_none, tally_more, chosen_none, chosen_then, chosen_all, chosen_other, chosen_not_yet, chosen_now, chosen_past}

-- Where a number of the new words comes from: it is the new one, or an old one before or after it.
data From (od od' : List ℕ) (k r p i : ℕ) : Type 0 where
  new : i ≡ p → get_or od' i 0 ≡ r → From od od' k r p i
  kept : i < p → get_or od' i 0 ≡ get_or od i 0 → From od od' k r p i
  moved : (j : ℕ) → p ≤ j → j < k → i ≡ suc j → get_or od' i 0 ≡ get_or od j 0 → From od od' k r p i

module _ {ns od od' : List ℕ} {k r : ℕ} (I : Inserted ns od od' k r) where
  -- Each has its place.
  from : (i : ℕ) → i < suc k → From od od' k r I.place i
  from i h = go (dec_lt i I.place) (ℕ_discrete i I.place)
    where
      after : (j : ℕ) → i ≡ suc j → I.place ≤ j → From od od' k r I.place i
      after j e l = moved j l (omega arith) e (rw e (I.room.high j l (omega arith)))

      go : Dec (i < I.place) → Dec (i ≡ I.place) → From od od' k r I.place i
      go (yes l) d = kept l (I.room.low i l)
      go (no l) (yes e) = new e (rw e I.here)
      go (no l) (no n) = after (i - 1) (omega arith) (omega arith)

  module _ (N : Names ns) {P Q : ℕ → Bool} (G : Gathered ns od k P) (b : r < 1_059) (p : P r ≡ false) (q : Q r ≡ true) (s : (x : ℕ) → (x ≡ r → ⊥) → P x ≡ Q x) where
    -- No number before is r.
    differs : (i : ℕ) → i < k → get_or od i 0 ≡ r → ⊥
    differs i h e = let t = G.only i h in let z : ◌≡◌ {A = ℕ} 0 1 = clash (sym (ap P e ∙ p) ∙ t) in omega arith
      where
        clash : false ≡ true → ◌≡◌ {A = ℕ} 0 1
        clash f = cc

    -- So its name lies after r's where it does not lie before.
    turned : (i : ℕ) → i < k → name_before (name_of ns (get_or od i 0)) (name_of ns r) ≡ false → name_before (name_of ns r) (name_of ns (get_or od i 0)) ≡ true
    turned i h e = names_ordered.total (name_of ns (get_or od i 0)) (name_of ns r) (λ f. differs i h (name_of_same ns N _ _ f)) e

    -- Each is a row's.
    low_from : (i : ℕ) → From od od' k r I.place i → get_or od' i 0 < 1_059
    low_from i (new e f) = rw f b
    low_from i (kept l f) = let u = I.room.upto in rw f (G.low.below i (omega arith))
    low_from i (moved j l m e f) = rw f (G.low.below j m)

    -- Each passes the test.
    only_from : (i : ℕ) → From od od' k r I.place i → Q (get_or od' i 0) ≡ true
    only_from i (new e f) = rw f q
    only_from i (kept l f) = let u = I.room.upto in let h : i < k = omega arith in rw f (sym (s (get_or od i 0) (differs i h)) ∙ G.only i h)
    only_from i (moved j l m e f) = rw f (sym (s (get_or od j 0) (differs j m)) ∙ G.only j m)

    -- An old one is still there.
    old : (x : ℕ) → In od k x → In od' (suc k) x
    old x L = go (dec_lt L.at I.place)
      where
        go : Dec (L.at < I.place) → In od' (suc k) x
        go (yes l) = let h = L.below in record { at = L.at; below = omega arith; is = I.room.low L.at l ∙ L.is }
        go (no l) = let h = L.below in record { at = suc L.at; below = omega arith; is = I.room.high L.at (omega arith) h ∙ L.is }

    -- All that pass are there.
    all_in : (x : ℕ) → x < 1_059 → Q x ≡ true → Dec (x ≡ r) → In od' (suc k) x
    all_in x h e (yes f) = let u = I.room.upto in record { at = I.place; below = omega arith; is = I.here ∙ sym f }
    all_in x h e (no n) = old x (G.all x h (s x n ∙ e))

    -- Two neighbours rise.
    rise : (i : ℕ) → suc i < suc k → From od od' k r I.place i → From od od' k r I.place (suc i) → name_before (name_of ns (get_or od' i 0)) (name_of ns (get_or od' (suc i) 0)) ≡ true
    rise i h (new e f) (new e₁ f₁) = absurd (omega arith)
    rise i h (new e f) (kept l₁ f₁) = absurd (omega arith)
    rise i h (new e f) (moved j₁ l₁ m₁ e₁ f₁) = let g : j₁ ≡ I.place = omega arith in
        rw (f, f₁, g) (turned I.place (omega arith) (I.room.after (omega arith)))
    rise i h (kept l f) (new e₁ f₁) = rw (f, f₁) (I.room.before i e₁)
    rise i h (kept l f) (kept l₁ f₁) = let u = I.room.upto in rw (f, f₁) (G.rises i (omega arith))
    rise i h (kept l f) (moved j₁ l₁ m₁ e₁ f₁) = absurd (omega arith)
    rise i h (moved j l m e f) (new e₁ f₁) = absurd (omega arith)
    rise i h (moved j l m e f) (kept l₁ f₁) = absurd (omega arith)
    rise i h (moved j l m e f) (moved j₁ l₁ m₁ e₁ f₁) = let g : j₁ ≡ suc j = omega arith in rw (f, f₁, g) (G.rises j (omega arith))

    -- One number more is gathered.
    pub gathered_more : Gathered ns od' (suc k) Q
    gathered_more = record {
      low = record { below = λ i h. low_from i (from i h) };
      only = λ i h. only_from i (from i h);
      all = λ x h e. all_in x h e (ℕ_discrete x r);
      many = ap suc G.many ∙ sym (tally_more P Q 1_059 r b p q s);
      rises = λ i h. rise i h (from i (omega arith)) (from (suc i) h);
    }

-- Tests that agree gather the same.
pub gathered_same : {ns od : List ℕ} {k : ℕ} {P Q : ℕ → Bool} → ((x : ℕ) → P x ≡ Q x) → Gathered ns od k P → Gathered ns od k Q
gathered_same {P = P} {Q = Q} s G = record {
  low = G.low;
  only = λ i h. sym (s _) ∙ G.only i h;
  all = λ x h e. G.all x h (s x ∙ e);
  many = G.many ∙ tally_same P Q 1_059 (λ x h. s x);
  rises = G.rises;
}

-- ## A pass

module _ {ns od : List ℕ} (low : Bool) {k r : ℕ} (G : Gathered ns od k (chosen ns low r)) (h : r < 1_059) {d : Bool} (e : d ≡ due ns low r) where
  -- A row that the pass takes finds room.
  pub step_room : d ≡ true → k < 1_059
  step_room f =
      let p = chosen_not_yet ns low r (sym e ∙ f) in
      let q = tally_more (chosen ns low r) (chosen ns low (r + 1)) 1_059 r h p (chosen_now ns low r (sym e ∙ f)) (λ x n. chosen_other ns low r x n) in
      let t = tally_most (chosen ns low (r + 1)) 1_059 in let g = G.many in omega arith

  -- It is inserted.
  pub step_on : Names ns → {od₂ : List ℕ} → d ≡ true → Inserted ns od od₂ k r → Passed ns od od₂ low (r + 1) (k + 1)
  step_on N {od₂} f I =
      let z : k + 1 ≡ suc k = omega arith in
      record { wide = I.room.wide; gathered = rw z (gathered_more I N G h (chosen_not_yet ns low r (sym e ∙ f)) (chosen_now ns low r (sym e ∙ f)) (λ x n. chosen_other ns low r x n)) }

  -- Another is passed over.
  pub step_over : d ≡ false → Passed ns od od low (r + 1) k
  step_over f = record { wide = refl; gathered = gathered_same (λ x. chosen_past ns low r x h (sym e ∙ f)) G }

-- It has come to row r.
pub record Passing (ns od od₁ : List ℕ) (low : Bool) (m r : ℕ) : Type 0 where
  pub upto : r ≤ 1_059
  pub passed : Passed ns od od₁ low r m

-- At first to none.
pub none_passed : {ns od : List ℕ} {k : ℕ} (low : Bool) → Gathered ns od k (chosen ns low 0) → Passing ns od od low k 0
none_passed low G = record { upto = omega arith; passed = record { wide = refl; gathered = G } }

-- Then to the next.
pub one_passed : {ns od od₁ od₂ : List ℕ} {low : Bool} {m r n : ℕ} → Passing ns od od₁ low m r → r < 1_059 → Passed ns od₁ od₂ low (r + 1) n → Passing ns od od₂ low n (r + 1)
one_passed A h B = record { upto = omega arith; passed = record { wide = B.wide ∙ A.passed.wide; gathered = B.gathered } }

-- At last all rows are passed.
pub all_passed : {ns od od₁ : List ℕ} {low : Bool} {m r : ℕ} → Passing ns od od₁ low m r → 1_059 ≤ r → Passed ns od od₁ low 1_059 m
all_passed {r = r} A h = let u = A.upto in let e : r ≡ 1_059 = omega arith in rw e at A.passed

-- ## Both passes

-- Before the first no number is gathered.
pub none_gathered : (ns od : List ℕ) → Gathered ns od 0 (chosen ns true 0)
none_gathered ns od = record {
  low = record { below = λ i h. absurd (omega arith) };
  only = λ i h. absurd (omega arith);
  all = λ x h e. absurd (clash (sym (chosen_none ns x) ∙ e));
  many = sym (tally_none (chosen ns true 0) 1_059 (λ x h. chosen_none ns x));
  rises = λ i h. absurd (omega arith);
}
  where
    clash : false ≡ true → ⊥
    clash f = let z : ◌≡◌ {A = ℕ} 0 1 = cc in omega arith

-- Between them: those of the first are those that the second begins with.
pub half_gathered : {ns od od₁ : List ℕ} {m : ℕ} → Passed ns od od₁ true 1_059 m → Gathered ns od₁ m (chosen ns false 0)
half_gathered {ns = ns} A = gathered_same (chosen_then ns) A.gathered

-- After both all numbers are in order.
pub all_gathered : {ns od od₁ od₂ : List ℕ} {m n : ℕ} → length od ≡ 1_059 → Passed ns od od₁ true 1_059 m → Passed ns od₁ od₂ false 1_059 n → Ordered ns od od₂
all_gathered {ns} {od} {od₁} {od₂} {m} {n} l A B =
    let w = B.wide in let v = A.wide in let g = B.gathered.many in
    let t = tally_all (chosen ns false 1_059) 1_059 (λ x h. chosen_all ns x h) in
    let a : n ≡ 1_059 = omega arith in let z : length od₂ ≡ 1_059 = omega arith in
    record {
      wide = B.wide ∙ A.wide;
      order = record {
        below = λ i h. let y = B.gathered.low.below i (omega arith) in omega arith;
        rises = λ i h. B.gathered.rises i (omega arith);
        covers = λ r h. let L = B.gathered.all r (omega arith) (chosen_all ns r (omega arith)) in let b = L.below in record { at = L.at; below = omega arith; is = L.is };
      };
    }
