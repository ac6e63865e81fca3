-- Where the names stand that were read so far.
use mathlib.Core.Path.{◌≡◌, refl, sym, ap, ◌∙◌, subst}
use mathlib.Core.List.{List, ◌∷◌}
use Prim.Native.Nat.{ℕ, zero, suc, ◌+◌, ◌<◌, ◌≤◌}
use native.Mathlib.Decide.{ℕ_discrete, dec_lt}
use native.Mathlib.Omega.{arith}
use lib.ListN.{get_or}
use Rattle.meaning.specs.Ast.{Name, name}
use Rattle.meaning.specs.Reader.{got, from}
use Rattle.meaning.specs.File.{name_entry}
use Rattle.names.specs.Names.{row}
use Rattle.names.proofs.Tests.{lt_yes, lt_no}
use Rattle.reader.specs.Placing.{upto}
use Rattle.rows.specs.Rows.{names_from}
use Rattle.rows.proofs.Listed.{names_stand}
use Rattle.nametable.specs.Entries.{Took}
use Rattle.nametable.specs.Tables.{place_of, Spots}

-- ## one place
-- A name that was read stands at its word.
pub place_read : (ix : List ℕ) (i p j : ℕ) → j < i → place_of ix i p j ≡ get_or ix (10_752 + j) 0
unfolding place_of
place_read ix i p j h = rw (lt_yes j i h)

-- The next one stands where the last one ended.
pub place_next : (ix : List ℕ) (i p j : ℕ) → i ≤ j → place_of ix i p j ≡ p
unfolding place_of
place_next ix i p j h = rw (lt_no j i h)

-- The places of names depend on their words alone.
place_same : (ix ix' : List ℕ) (i p j : ℕ) → ((k : ℕ) → k < i → get_or ix' (10_752 + k) 0 ≡ get_or ix (10_752 + k) 0) → place_of ix' i p j ≡ place_of ix i p j
place_same ix ix' i p j f = go (dec_lt j i)
  where
    go : Dec (j < i) → place_of ix' i p j ≡ place_of ix i p j
    go (yes h) = place_read ix' i p j h ∙ f j h ∙ sym (place_read ix i p j h)
    go (no h) = place_next ix' i p j (omega arith) ∙ sym (place_next ix i p j (omega arith))

-- One name more changes no earlier place.
place_more : (ix ix' : List ℕ) (i p q j : ℕ) → ((k : ℕ) → k < i → get_or ix' (10_752 + k) 0 ≡ get_or ix (10_752 + k) 0) → get_or ix' (10_752 + i) 0 ≡ p → j ≤ i
    → place_of ix' (i + 1) q j ≡ place_of ix i p j
place_more ix ix' i p q j f e h = go (ℕ_discrete j i)
  where
    go : Dec (j ≡ i) → place_of ix' (i + 1) q j ≡ place_of ix i p j
    go (yes k) = place_read ix' (i + 1) q j (omega arith) ∙ ap (λ (n : ℕ). get_or ix' (10_752 + n) 0) k ∙ e ∙ sym (place_next ix i p j (omega arith))
    go (no k) = let l : j < i = omega arith in place_read ix' (i + 1) q j (omega arith) ∙ f j l ∙ sym (place_read ix i p j l)

-- ## all of them
pub no_spots : (bytes ns ix : List ℕ) (at : ℕ) → Spots bytes ns ix at 0 at
no_spots bytes ns ix at = record { first = place_next ix 0 at 0 (omega arith); item = λ j h. absurd (omega arith) }

-- The words of the names that were read stand.
pub same_spots : {bytes ns ix ix' : List ℕ} {at i p : ℕ} → ((k : ℕ) → k < i → get_or ix' (10_752 + k) 0 ≡ get_or ix (10_752 + k) 0) → Spots bytes ns ix at i p → Spots bytes ns ix' at i p
same_spots {bytes} {ns} {ix} {ix'} {at} {i} {p} f g = record {
  first = place_same ix ix' i p 0 f ∙ g.first;
  item = λ j h. rw (place_same ix ix' i p j f, place_same ix ix' i p (suc j) f) (g.item j h);
}

-- One name more was read, at the place that its word has.
pub more_spots : {bytes ns ix ns' ix' : List ℕ} {at i p q : ℕ} → i < 1_024 → get_or ix (10_752 + i) 0 ≡ p → Spots bytes ns ix at i p → Took bytes ns ix ns' ix' p i q → Spots bytes ns' ix' at (i + 1) q
more_spots {bytes} {ns} {ix} {ns'} {ix'} {at} {i} {p} {q} b e g t = record {
  first = earlier 0 (omega arith) ∙ g.first;
  item = λ j h. go j h (ℕ_discrete j i);
}
  where
    word : (k : ℕ) → k < i + 1 → get_or ix' (10_752 + k) 0 ≡ get_or ix (10_752 + k) 0
    word k h = t.stands (10_752 + k) (λ f. omega arith)

    earlier : (j : ℕ) → j ≤ i → place_of ix' (i + 1) q j ≡ place_of ix i p j
    earlier j h = place_more ix ix' i p q j (λ k l. word k (omega arith)) (word i (omega arith) ∙ e) h

    names : (j : ℕ) → j ≤ i → names_from ns' 35 j ≡ names_from ns 35 j
    names j h = names_stand ns ns' 35 j (λ k a b. t.others k (λ f. omega arith))

    last : place_of ix' (i + 1) q i ≡ p
    last = earlier i (omega arith) ∙ place_next ix i p i (omega arith)

    here : name_entry (names_from ns' 35 i) (place_of ix' (i + 1) q i) (from (place_of ix' (i + 1) q i) bytes)
        ≡ got (name (row ns' (35 + i))) (place_of ix' (i + 1) q (suc i)) (from (place_of ix' (i + 1) q (suc i)) bytes)
    here = rw (names i (omega arith), last, place_next ix' (i + 1) q (suc i) (omega arith)) t.read

    go : (j : ℕ) → j < i + 1 → Dec (j ≡ i)
        → name_entry (names_from ns' 35 j) (place_of ix' (i + 1) q j) (from (place_of ix' (i + 1) q j) bytes)
        ≡ got (name (row ns' (35 + j))) (place_of ix' (i + 1) q (suc j)) (from (place_of ix' (i + 1) q (suc j)) bytes)
    go j h (yes k) = subst (λ (n : ℕ). name_entry (names_from ns' 35 n) (place_of ix' (i + 1) q n) (from (place_of ix' (i + 1) q n) bytes)
        ≡ got (name (row ns' (35 + n))) (place_of ix' (i + 1) q (suc n)) (from (place_of ix' (i + 1) q (suc n)) bytes)) (sym k) here
    go j h (no k) = let l : j < i = omega arith in
        rw (names j (omega arith), earlier j (omega arith), earlier (suc j) (omega arith), t.others (35 + j) (λ f. omega arith)) (g.item j l)

-- ## as a list
-- The first names of rows are those of the first rows.
pub names-upto : (ns : List ℕ) (r n i : ℕ) → i ≤ n → upto i (names_from ns r n) ≡ names_from ns r i
unfolding upto names_from
names-upto ns r n zero h = refl
names-upto ns r zero (suc i) h = absurd (omega arith)
names-upto ns r (suc n) (suc i) h = ap (λ (xs : List Name). name (row ns r) ∷ xs) (names-upto ns (r + 1) n i (omega arith))
