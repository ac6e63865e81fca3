-- The loop over the names of a file: what was read so far, and the first bad name.
use mathlib.Core.Path.{◌≡◌, refl, sym, ap, ◌∙◌, subst}
use mathlib.Core.List.{List, [], ◌∷◌, ◌++◌}
use Prim.Native.Nat.{ℕ, suc, ◌+◌, ◌-◌, ◌^◌, ◌<◌, ◌≤◌}
use native.Mathlib.Decide.{ℕ_discrete}
use native.Mathlib.Omega.{arith}
use Rattle.std.specs.Prelude.{Result, Ok, Err}
use lib.ListN.{length, get_or, set, length-set}
use lib.Seq.{get_or-set_same, get_or-set_other}
use Rattle.meaning.specs.Ast.{Name, name}
use Rattle.meaning.specs.Errors.{Refusal}
use Rattle.meaning.specs.Reader.{got, bad, Reader, onward, from, items}
use Rattle.meaning.specs.File.{name_entry}
use Rattle.errors.specs.declared.Refusal as E
use Rattle.errors.specs.Refusals.{refusal_of}
use Rattle.names.specs.Names.{row}
use Rattle.rows.specs.Rows.{names_from}
use Rattle.spelling.specs.Forms.{FormWord}
use Rattle.nametable.specs.Entries.{Took, Taken}
use Rattle.nametable.specs.Tables.{Spots, Holds, Apart, ReadAll}
use Rattle.nametable.proofs.Spotting.{no_spots, same_spots, more_spots}
use Rattle.rows.proofs.Listed.{names_snoc, names_stand}

-- ## items
-- One item more is read.
item_goes : {A : Type 0} (r : List A → Reader A) (m : ℕ) (xs : List A) (at p : ℕ) (bs rest : List ℕ) (x : A) → r xs at bs ≡ got x p rest
    → items r (suc m) xs at bs ≡ items r m (xs ++ x ∷ []) p rest
unfolding items onward
item_goes r m xs at p bs rest x e = ap (λ o. onward o (λ y. items r m (xs ++ y ∷ []))) e

-- One is bad.
item_stops : {A : Type 0} (r : List A → Reader A) (m : ℕ) (xs : List A) (at : ℕ) (bs : List ℕ) (x : Refusal) → r xs at bs ≡ bad x → items r (suc m) xs at bs ≡ bad x
unfolding items onward
item_stops r m xs at bs x e = ap (λ o. onward o (λ y. items r m (xs ++ y ∷ []))) e

-- None is left.
items_end : {A : Type 0} (r : List A → Reader A) (xs : List A) (at : ℕ) (bs : List ℕ) → items r 0 xs at bs ≡ got xs at bs
unfolding items
items_end r xs at bs = refl

-- ## the loop
-- The first i names stand in their rows; the others are read from the place p on.
pub record Going (bytes ns₀ ix₀ ns ix : List ℕ) (at n i p : ℕ) : Type 0 where
  pub upto : i ≤ n
  pub reads : items name_entry n [] at (from at bytes) ≡ items name_entry (n - i) (names_from ns 35 i) p (from p bytes)
  pub within : p ≤ length bytes
  pub holds : Holds ns ix i
  pub spots : Spots bytes ns ix at i p
  pub apart : Apart ns₀ ix₀ ns ix i
  pub names-length : length ns ≡ 4236
  pub index_length : length ix ≡ 11776

-- No name is read yet.
pub none_read : (bytes ns ix : List ℕ) (at n : ℕ) → at ≤ length bytes → length ns ≡ 4236 → length ix ≡ 11776 → Going bytes ns ix ns ix at n 0 at
unfolding names_from
none_read bytes ns ix at n h u v = record {
  upto = omega arith;
  reads = ap (λ (m : ℕ). items name_entry m [] at (from at bytes)) (whole n);
  within = h;
  holds = record { full = λ j i. absurd (omega arith); apart = λ j k i l. absurd (omega arith); forms = λ j i. absurd (omega arith) };
  spots = no_spots bytes ns ix at;
  apart = record { low = λ r i. refl; high = λ r i. refl; index = λ k i l. refl };
  names-length = u;
  index_length = v;
}
  where
    whole : (n : ℕ) → n ≡ n - 0
    whole n = omega arith

-- The i-th name joins those that stand.
more_holds : {bytes ns ix ns' ix' : List ℕ} {at i p : ℕ} → Holds ns ix i → Took bytes ns ix ns' ix' at i p → Holds ns' ix' (i + 1)
more_holds {bytes} {ns} {ix} {ns'} {ix'} {at} {i} {p} g t = record {
  full = λ j l. full j l (ℕ_discrete j i);
  apart = λ j k l m. apart j k l m (ℕ_discrete k i);
  forms = λ j l. forms j l (ℕ_discrete j i);
}
  where
    stays : (j : ℕ) → j < i → row ns' (35 + j) ≡ row ns (35 + j)
    stays j l = t.others (35 + j) (λ e. omega arith)

    full : (j : ℕ) → j < i + 1 → Dec (j ≡ i) → 2 ^ 248 ≤ row ns' (35 + j)
    full j l (yes e) = subst (λ (k : ℕ). 2 ^ 248 ≤ row ns' (35 + k)) (sym e) t.full
    full j l (no e) = let h : j < i = omega arith in rw (stays j h) (g.full j h)

    apart : (j k : ℕ) → j < k → k < i + 1 → Dec (k ≡ i) → row ns' (35 + j) ≡ row ns' (35 + k) → ⊥
    apart j k l m (yes e) q = let h : j < i = omega arith in t.new j h (sym (stays j h) ∙ q ∙ ap (λ (k : ℕ). row ns' (35 + k)) e)
    apart j k l m (no e) q = let h : j < i = omega arith in let h' : k < i = omega arith in g.apart j k l h' (sym (stays j h) ∙ q ∙ stays k h')

    forms : (j : ℕ) → j < i + 1 → Dec (j ≡ i) → FormWord (name (row ns' (35 + j))) (get_or ix' (1_024 + j) 0)
    forms j l (yes e) = subst (λ (k : ℕ). FormWord (name (row ns' (35 + k))) (get_or ix' (1_024 + k) 0)) (sym e) t.form
    forms j l (no e) = let h : j < i = omega arith in rw (stays j h, t.stands (1_024 + j) (λ e. omega arith)) (g.forms j h)

-- The rows and words that stand still do.
more_apart : {bytes ns₀ ix₀ ns ix ns' ix' : List ℕ} {at i p : ℕ} → i < 1024 → Apart ns₀ ix₀ ns ix i → Took bytes ns ix ns' ix' at i p → Apart ns₀ ix₀ ns' ix' (i + 1)
more_apart h g t = record {
  low = λ r l. t.others r (λ e. omega arith) ∙ g.low r l;
  high = λ r l. t.others r (λ e. omega arith) ∙ g.high r (omega arith);
  index = λ k l m. t.stands k (λ e. omega arith) ∙ g.index k l m;
}

-- The place of the next name was written into the index.
pub one_marked : {bytes ns₀ ix₀ ns ix ix₁ : List ℕ} {at n i p : ℕ} (v : ℕ) → Going bytes ns₀ ix₀ ns ix at n i p → i < n → n ≤ 1024 → ix₁ ≡ set ix (10_752 + i) v → Going bytes ns₀ ix₀ ns ix₁ at n i p
one_marked {bytes} {ns₀} {ix₀} {ns} {ix} {ix₁} {at} {n} {i} {p} v g h l w = record {
  upto = g.upto;
  reads = g.reads;
  within = g.within;
  holds = record { full = g.holds.full; apart = g.holds.apart; forms = λ j m. rw (other (1_024 + j) (λ e. omega arith)) (g.holds.forms j m) };
  spots = same_spots (λ k m. other (10_752 + k) (λ e. omega arith)) g.spots;
  apart = record { low = g.apart.low; high = g.apart.high; index = λ k a b. other k (λ e. omega arith) ∙ g.apart.index k a b };
  names-length = g.names-length;
  index_length = ap length w ∙ length-set ix (10_752 + i) v ∙ g.index_length;
}
  where
    other : (k : ℕ) → (k ≡ 10_752 + i → ⊥) → get_or ix₁ k 0 ≡ get_or ix k 0
    other k m = ap (λ (xs : List ℕ). get_or xs k 0) w ∙ get_or-set_other ix (10_752 + i) k v 0 m

-- So its word has the place.
pub marked_here : {bytes ns₀ ix₀ ns ix ix₁ : List ℕ} {at n i p : ℕ} (v : ℕ) → Going bytes ns₀ ix₀ ns ix at n i p → i < n → n ≤ 1024 → ix₁ ≡ set ix (10_752 + i) v → get_or ix₁ (10_752 + i) 0 ≡ v
marked_here {ix = ix} {i = i} v g h l w = let m = g.index_length in ap (λ (xs : List ℕ). get_or xs (10_752 + i) 0) w ∙ get_or-set_same ix (10_752 + i) v 0 (omega arith)

-- One name more.
pub one_read : {bytes ns₀ ix₀ ns ix ns' ix' : List ℕ} {at n i p q : ℕ} {r : Result ℕ E.Refusal} → Going bytes ns₀ ix₀ ns ix at n i p → i < n → n ≤ 1024 → get_or ix (10_752 + i) 0 ≡ p → length ns' ≡ length ns → length ix' ≡ length ix
    → Taken bytes ns ix ns' ix' p i r → r ≡ Ok q → Going bytes ns₀ ix₀ ns' ix' at n (i + 1) q
one_read {bytes} {ns₀} {ix₀} {ns} {ix} {ns'} {ix'} {at} {n} {i} {p} {q} {r} g h l here u v t e = go (rw e at t)
  where
    steps : (n i : ℕ) → i < n → n - i ≡ suc (n - (i + 1))
    steps n i h = omega arith

    next : (i : ℕ) → suc i ≡ i + 1
    next i = omega arith

    more : Took bytes ns ix ns' ix' p i q → names_from ns 35 i ++ name (row ns' (35 + i)) ∷ [] ≡ names_from ns' 35 (i + 1)
    more k = ap (λ (xs : List Name). xs ++ name (row ns' (35 + i)) ∷ []) (sym (names_stand ns ns' 35 i (λ j a b. k.others j (λ e. omega arith))))
        ∙ sym (names_snoc ns' 35 i) ∙ ap (names_from ns' 35) (next i)

    go : Taken bytes ns ix ns' ix' p i (Ok q) → Going bytes ns₀ ix₀ ns' ix' at n (i + 1) q
    go w = let k = w.is in record {
      upto = omega arith;
      reads = g.reads ∙ ap (λ (m : ℕ). items name_entry m (names_from ns 35 i) p (from p bytes)) (steps n i h)
          ∙ item_goes name_entry (n - (i + 1)) (names_from ns 35 i) p q (from p bytes) (from q bytes) (name (row ns' (35 + i))) k.read
          ∙ ap (λ (xs : List Name). items name_entry (n - (i + 1)) xs q (from q bytes)) (more k);
      within = k.within;
      holds = more_holds g.holds k;
      spots = more_spots (omega arith) here g.spots k;
      apart = more_apart (omega arith) g.apart k;
      names-length = u ∙ g.names-length;
      index_length = v ∙ g.index_length;
    }

-- The next name is bad.
pub one_bad : {bytes ns₀ ix₀ ns ix ns' ix' : List ℕ} {at n i p : ℕ} {r : Result ℕ E.Refusal} {x : E.Refusal} → Going bytes ns₀ ix₀ ns ix at n i p → i < n → Taken bytes ns ix ns' ix' p i r → r ≡ Err x
    → ReadAll bytes ns₀ ix₀ ns' ix' at n (Err x)
one_bad {bytes} {ns₀} {ix₀} {ns} {ix} {ns'} {ix'} {at} {n} {i} {p} {r} {x} g h t e = go (rw e at t)
  where
    steps : (n i : ℕ) → i < n → n - i ≡ suc (n - (i + 1))
    steps n i h = omega arith

    go : Taken bytes ns ix ns' ix' p i (Err x) → ReadAll bytes ns₀ ix₀ ns' ix' at n (Err x)
    go k = record {
      is = g.reads ∙ ap (λ (m : ℕ). items name_entry m (names_from ns 35 i) p (from p bytes)) (steps n i h)
          ∙ item_stops name_entry (n - (i + 1)) (names_from ns 35 i) p (from p bytes) (refusal_of [] [] x) k.is;
    }

-- All names are read.
pub all_read : {bytes ns₀ ix₀ ns ix : List ℕ} {at n i p : ℕ} → Going bytes ns₀ ix₀ ns ix at n i p → n ≤ i → ReadAll bytes ns₀ ix₀ ns ix at n (Ok p)
all_read {bytes} {ns₀} {ix₀} {ns} {ix} {at} {n} {i} {p} g h = go i g (same n i h g.upto)
  where
    same : (n i : ℕ) → n ≤ i → i ≤ n → i ≡ n
    same n i h l = omega arith

    none : (n : ℕ) → n - n ≡ 0
    none n = omega arith

    done : Going bytes ns₀ ix₀ ns ix at n n p → ReadAll bytes ns₀ ix₀ ns ix at n (Ok p)
    done k = record {
      is = record {
        read = k.reads ∙ ap (λ (m : ℕ). items name_entry m (names_from ns 35 n) p (from p bytes)) (none n) ∙ items_end name_entry (names_from ns 35 n) p (from p bytes);
        within = k.within;
        holds = k.holds;
        spots = k.spots;
        apart = k.apart;
      };
    }

    go : (i : ℕ) → Going bytes ns₀ ix₀ ns ix at n i p → i ≡ n → ReadAll bytes ns₀ ix₀ ns ix at n (Ok p)
    go i k e = done (subst (λ (m : ℕ). Going bytes ns₀ ix₀ ns ix at n m p) e k)
