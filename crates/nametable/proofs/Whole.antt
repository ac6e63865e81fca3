-- The whole table: no two rows are equal, and each name is found by its number.
use mathlib.Core.Path.{◌≡◌, sym, ap, ◌∙◌, subst}
use mathlib.Core.List.{List}
use mathlib.Core.Option.{some}
use Prim.Native.Nat.{ℕ, ◌+◌, ◌-◌, ◌*◌, ◌^◌, ◌<◌, ◌≤◌}
use native.Mathlib.Decide.{dec_lt}
use native.Mathlib.Omega.{arith}
use Rattle.std.specs.Prelude.{Result, Ok, Err}
use lib.ListN.{length, get_or}
use lib.Dec.{lit≤}
use Rattle.meaning.specs.Base.{count, nth}
use Rattle.meaning.specs.Ast.{Name, name}
use Rattle.names.specs.Names.{row, name_of, Names}
use Rattle.names.proofs.Tests.{lt_yes}
use Rattle.theorems.proofs.Tests.{some_inj}
use Rattle.errors.specs.declared.Refusal as E
use Rattle.rows.specs.BuiltIns.{built_ins}
use Rattle.rows.specs.Rows.{names_from, Filled, Words}
use Rattle.spelling.specs.Forms.{FormWord}
use Rattle.nametable.specs.Tables.{place_of, ReadUpTo, ReadAll, Number, own, built, AllBound, NameKnown, SectionRead, NamesRead}
use Rattle.rows.proofs.Listed.{Nth, names-nth, names-count}
use Rattle.nametable.proofs.Spotting.{place_read, place_next, names-upto}
use Rattle.rows.proofs.Start.{built_full, built_apart, built_below}

-- What a row of the table holds: a built-in name; its own number; or a name of the file that is no built-in name.
data Content (ns : List ℕ) (m r : ℕ) : Type 0 where
  built_in : r < 35 → nth built_ins r ≡ some (name (row ns r)) → Content ns m r
  filler : 35 ≤ r → row ns r ≡ r → Content ns m r
  read : (j : ℕ) → r ≡ 35 + j → j < m → 2 ^ 248 ≤ row ns r → ((b : ℕ) → b < 35 → row ns b ≡ row ns r → ⊥) → Content ns m r

-- A small number is no name.
too_small : (B m r : ℕ) → B ≤ m → m ≡ r → r < 1059 → 1059 ≤ B → ⊥
too_small B m r h e l k = omega arith

-- A row's own number is no name.
no_filler : (ns : List ℕ) (r s : ℕ) → 2 ^ 248 ≤ row ns r → row ns s ≡ s → s < 1059 → row ns r ≡ row ns s → ⊥
no_filler ns r s h e l f = too_small (2 ^ 248) (row ns r) s h (f ∙ e) l (lit≤ tt)

module _ (ns : List ℕ) (m : ℕ) (apart : (j k : ℕ) → j < k → k < m → row ns (35 + j) ≡ row ns (35 + k) → ⊥) where
  -- Two built-in names.
  both_built : (r s : ℕ) → r < 35 → s < 35 → nth built_ins r ≡ some (name (row ns r)) → nth built_ins s ≡ some (name (row ns s)) → row ns r ≡ row ns s → r ≡ s
  both_built r s h k p q e = go (dec_lt r s) (dec_lt s r)
    where
      go : Dec (r < s) → Dec (s < r) → r ≡ s
      go (yes l) d = absurd (built_apart s r (row ns s) l k q (p ∙ ap (λ (n : ℕ). some (name n)) e))
      go (no l) (yes d) = absurd (built_apart r s (row ns s) d h (p ∙ ap (λ (n : ℕ). some (name n)) e) q)
      go (no l) (no d) = omega arith

  -- Two names of the file.
  both_read : (r s j k : ℕ) → r ≡ 35 + j → s ≡ 35 + k → j < m → k < m → row ns r ≡ row ns s → r ≡ s
  both_read r s j k p q h l e = go (dec_lt j k) (dec_lt k j)
    where
      rows : row ns (35 + j) ≡ row ns (35 + k)
      rows = ap (row ns) (sym p) ∙ e ∙ ap (row ns) q

      go : Dec (j < k) → Dec (k < j) → r ≡ s
      go (yes d) f = absurd (apart j k d l rows)
      go (no d) (yes f) = absurd (apart k j f h (sym rows))
      go (no d) (no f) = omega arith

  -- Rows that are equal are the same row.
  same_content : (r s : ℕ) → r < 1059 → s < 1059 → Content ns m r → Content ns m s → row ns r ≡ row ns s → r ≡ s
  same_content r s x y (built_in h p) (built_in k q) e = both_built r s h k p q e
  same_content r s x y (built_in h p) (filler k q) e = absurd (no_filler ns r s (built_full r (row ns r) h p) q y e)
  same_content r s x y (built_in h p) (read k q l u v) e = absurd (v r h e)
  same_content r s x y (filler h p) (built_in k q) e = absurd (no_filler ns s r (built_full s (row ns s) k q) p x (sym e))
  same_content r s x y (filler h p) (filler k q) e = sym p ∙ e ∙ q
  same_content r s x y (filler h p) (read k q l u v) e = absurd (no_filler ns s r u p x (sym e))
  same_content r s x y (read j p h a b) (built_in k q) e = absurd (b s k (sym e))
  same_content r s x y (read j p h a b) (filler k q) e = absurd (no_filler ns r s a q y e)
  same_content r s x y (read j p h a b) (read k q l u v) e = both_read r s j k p q h l e

-- The name of a row.
row_name : (ns : List ℕ) (r : ℕ) → r < 1059 → length ns ≡ 4236 → name_of ns r ≡ name (row ns r)
unfolding name_of
row_name ns r h l = rw (lt_yes (4 * r + 3) (length ns) (omega arith))

module _ {bytes ns₀ ix₀ ns₁ ix₁ ns₂ ix₂ : List ℕ} {at n p : ℕ} (few : n ≤ 1024) (start : Filled ns₀) (got : ReadUpTo bytes ns₀ ix₀ ns₁ ix₁ at n p) (end : AllBound ns₁ ix₁ ns₂ ix₂ n)
    (words : Words ns₂) (long : length ns₂ ≡ 4236) where
  -- A built-in name stands.
  built_row : (b : ℕ) → b < 35 → nth built_ins b ≡ some (name (row ns₂ b))
  built_row b h = (start.first b (omega arith)).built h ∙ ap (λ (k : ℕ). some (name k)) (sym (end.low b h ∙ got.apart.low b h))

  -- Each row of the table.
  content : (r : ℕ) → r < 1059 → Content ns₂ n r
  content r h = go (dec_lt r 35) (dec_lt r (35 + n))
    where
      back : (r : ℕ) → 35 ≤ r → r ≡ 35 + (r - 35)
      back r h = omega arith

      of_file : (j : ℕ) → r ≡ 35 + j → j < n → Number ns₁ ns₂ (35 + j) (get_or ix₂ j 0) → Content ns₂ n r
      of_file j e l (own a b c) = read j e l (rw (e, b) (got.holds.full j l))
          (λ k u f. c k u (sym (end.low k u) ∙ f ∙ ap (row ns₂) e ∙ b))
      of_file j e l (built a b c) = filler (omega arith) (ap (row ns₂) e ∙ c ∙ sym e)

      go : Dec (r < 35) → Dec (r < 35 + n) → Content ns₂ n r
      go (yes l) d = built_in l (built_row r l)
      go (no l) (yes d) = let k : r - 35 < n = omega arith in of_file (r - 35) (back r (omega arith)) k (end.numbers (r - 35) k)
      go (no l) (no d) = let k : 35 + n ≤ r = omega arith in filler (omega arith) (end.high r k ∙ got.apart.high r k ∙ (start.first r h).filler (omega arith))

  -- Names of the file that stayed differ.
  apart : (j k : ℕ) → j < k → k < n → row ns₂ (35 + j) ≡ row ns₂ (35 + k) → ⊥
  apart j k h l e = go (end.numbers j (omega arith)) (end.numbers k l)
    where
      go : Number ns₁ ns₂ (35 + j) (get_or ix₂ j 0) → Number ns₁ ns₂ (35 + k) (get_or ix₂ k 0) → ⊥
      go (own a b c) (own u v w) = got.holds.apart j k h l (sym b ∙ e ∙ v)
      go (own a b c) (built u v w) = too_small (2 ^ 248) (row ns₁ (35 + j)) (35 + k) (got.holds.full j (omega arith)) (sym b ∙ e ∙ w) (omega arith) (lit≤ tt)
      go (built a b c) (own u v w) = too_small (2 ^ 248) (row ns₁ (35 + k)) (35 + j) (got.holds.full k l) (sym v ∙ sym e ∙ c) (omega arith) (lit≤ tt)
      go (built a b c) (built u v w) = let f = sym c ∙ e ∙ w in omega arith

  -- It is a table of names.
  table : Names ns₂
  table = record {
    words = words.below;
    distinct = λ i j h k e. let u : i < 1059 = omega arith in let v : j < 1059 = omega arith in same_content ns₂ n apart i j u v (content i u) (content j v) e;
  }

  -- A name of the file is found by its number.
  found : (i : ℕ) (x : Name) → Nth ns₁ 35 n i x → NameKnown ns₂ ix₂ i x
  found i x m = record {
    number = small (end.numbers i m.below);
    named = row_name ns₂ (get_or ix₂ i 0) (small (end.numbers i m.below)) long ∙ ap name (there (end.numbers i m.below)) ∙ m.is;
    form = rw (end.stands (1_024 + i) (omega arith)) (subst (λ y. FormWord y (get_or ix₁ (1_024 + i) 0)) m.is (got.holds.forms i m.below));
  }
    where
      small : Number ns₁ ns₂ (35 + i) (get_or ix₂ i 0) → get_or ix₂ i 0 < 1_059
      small (own a b c) = omega (arith, m.below)
      small (built a b c) = omega arith

      there : Number ns₁ ns₂ (35 + i) (get_or ix₂ i 0) → row ns₂ (get_or ix₂ i 0) ≡ row ns₁ (35 + i)
      there (own a b c) = ap (row ns₂) a ∙ b
      there (built a b c) = end.low _ a ∙ b

  -- The section is read.
  pub section : SectionRead bytes ix₀ ns₂ ix₂ at n p
  section = record {
    list = names_from ns₁ 35 n;
    is = got.read;
    within = got.within;
    many = names-count ns₁ 35 n;
    known = λ i x e. found i x (names-nth ns₁ 35 n i x e);
    places = record {
      begins = place_of ix₁ n p;
      first = got.spots.first;
      last = place_next ix₁ n p (count (names_from ns₁ 35 n)) (let m = names-count ns₁ 35 n in omega arith);
      word = λ i h. end.stands (10_752 + i) (omega arith) ∙ sym (place_read ix₁ n p i (let m = names-count ns₁ 35 n in omega arith));
      item = λ i x e. let m = names-nth ns₁ 35 n i x e in
          rw (names-upto ns₁ 35 n i (let b = m.below in omega arith), sym m.is) (got.spots.item i m.below);
    };
    table = table;
    built = record { is = λ b x e. let h = built_below b x e in row_name ns₂ b (omega arith) long ∙ some_inj _ x (sym (built_row b h) ∙ e) };
    stands = λ k h l. end.stands k (omega arith) ∙ got.apart.index k h l;
  }

-- ## ways out
pub section_read : {bytes ns₀ ix₀ ns₁ ix₁ ns₂ ix₂ : List ℕ} {at n p : ℕ} {r : Result ℕ E.Refusal} → n ≤ 1024 → Filled ns₀ → ReadAll bytes ns₀ ix₀ ns₁ ix₁ at n r → r ≡ Ok p
    → AllBound ns₁ ix₁ ns₂ ix₂ n → Words ns₂ → length ns₂ ≡ 4236 → NamesRead bytes ix₀ ns₂ ix₂ at n (Ok p)
section_read {bytes} {ns₀} {ix₀} {ns₁} {ix₁} {ns₂} {ix₂} {at} {n} {p} {r} few start g e end words long = go (rw e at g)
  where
    go : ReadAll bytes ns₀ ix₀ ns₁ ix₁ at n (Ok p) → NamesRead bytes ix₀ ns₂ ix₂ at n (Ok p)
    go h = record { is = section few start h.is end words long }

pub section_bad : {bytes ns₀ ix₀ ns₁ ix₁ : List ℕ} {at n : ℕ} {r : Result ℕ E.Refusal} {x : E.Refusal} → ReadAll bytes ns₀ ix₀ ns₁ ix₁ at n r → r ≡ Err x → NamesRead bytes ix₀ ns₁ ix₁ at n (Err x)
section_bad {bytes} {ns₀} {ix₀} {ns₁} {ix₁} {at} {n} {r} {x} g e = go (rw e at g)
  where
    go : ReadAll bytes ns₀ ix₀ ns₁ ix₁ at n (Err x) → NamesRead bytes ix₀ ns₁ ix₁ at n (Err x)
    go h = record { is = h.is }
