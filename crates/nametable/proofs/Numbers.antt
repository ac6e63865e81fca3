-- The numbers of the names: that of a built-in name, or the row of the name itself.
use mathlib.Core.Path.{◌≡◌, refl, sym, ap, ◌∙◌, subst}
use mathlib.Core.List.{List}
use Prim.Native.Nat.{ℕ, ◌+◌, ◌*◌, ◌<◌, ◌≤◌}
use native.Mathlib.Decide.{ℕ_discrete}
use native.Mathlib.Omega.{arith}
use Rattle.std.specs.Prelude.{Option, Some}
use lib.ListN.{length, get_or, set}
use lib.Seq.{get_or-set_same, get_or-set_other}
use Rattle.names.specs.declared.Key.{Key}
use Rattle.names.specs.Names.{row}
use Rattle.names.specs.Keys.{bytes_of}
use Rattle.rows.specs.BuiltIns.{First}
use Rattle.rows.specs.Rows.{row_set, RowIs, IsBuilt}
use Rattle.nametable.specs.Tables.{Number, own, built, Bound, AllBound}
use Rattle.rows.proofs.Cells.{row_same, row_other}

-- ## one name
-- It is one.
pub built_number : (ns ix ns' : List ℕ) (i j : ℕ) (k m : Key) (b : Option ℕ) → i < length ix → 4 * i + 144 ≤ length ns → RowIs ns (35 + i) k → IsBuilt ns (bytes_of k) b → b ≡ Some j
    → First (35 + i) (bytes_of m) → ns' ≡ row_set ns (35 + i) m → Bound ns ix ns' (set ix i j) i
built_number ns ix ns' i j k m b h u q s e f g = record {
  number = go (rw e at s);
  others = λ r n. ap (λ (xs : List ℕ). row xs r) g ∙ row_other ns (35 + i) r m n;
  stands = λ l n. get_or-set_other ix i l j 0 n;
}
  where
    there : get_or (set ix i j) i 0 ≡ j
    there = get_or-set_same ix i j 0 h

    go : IsBuilt ns (bytes_of k) (Some j) → Number ns ns' (35 + i) (get_or (set ix i j) i 0)
    go t = subst (λ (n : ℕ). Number ns ns' (35 + i) n) (sym there)
        (built t.is.0 (t.is.1 ∙ q.bytes) (ap (λ (xs : List ℕ). row xs (35 + i)) g ∙ row_same ns (35 + i) m (omega arith) ∙ f.filler (omega arith)))

-- ## the loop
-- The first i names have their numbers.
pub record Binding (ns₀ ix₀ ns ix : List ℕ) (n i : ℕ) : Type 0 where
  pub upto : i ≤ n
  pub numbers : (j : ℕ) → j < i → Number ns₀ ns (35 + j) (get_or ix j 0)
  pub low : (r : ℕ) → r < 35 → row ns r ≡ row ns₀ r
  pub high : (r : ℕ) → 35 + i ≤ r → row ns r ≡ row ns₀ r
  pub stands : (k : ℕ) → i ≤ k → get_or ix k 0 ≡ get_or ix₀ k 0
  pub names-length : length ns ≡ 4236
  pub index_length : length ix ≡ 11776

pub none_bound : (ns ix : List ℕ) (n : ℕ) → length ns ≡ 4236 → length ix ≡ 11776 → Binding ns ix ns ix n 0
none_bound ns ix n u v = record {
  upto = omega arith;
  numbers = λ j h. absurd (omega arith);
  low = λ r h. refl;
  high = λ r h. refl;
  stands = λ k h. refl;
  names-length = u;
  index_length = v;
}

-- A number stays while later rows change.
number_stays : {ns₀ ns ns' : List ℕ} {r m : ℕ} → row ns' r ≡ row ns r → Number ns₀ ns r m → Number ns₀ ns' r m
number_stays e (own p q s) = own p (e ∙ q) s
number_stays e (built p q s) = built p q (e ∙ s)

-- A number is one of the first table as well, if the rows that it looks at stood.
number_first : {ns₀ ns ns' : List ℕ} {r m : ℕ} → ((b : ℕ) → b < 35 → row ns b ≡ row ns₀ b) → row ns r ≡ row ns₀ r → Number ns ns' r m → Number ns₀ ns' r m
number_first low e (own p q s) = own p (q ∙ e) (λ b h f. s b h (low b h ∙ f ∙ sym e))
number_first low e (built p q s) = built p (sym (low _ p) ∙ q ∙ e) s

-- One name more.
pub one_bound : {ns₀ ix₀ ns ix ns' ix' : List ℕ} {n i : ℕ} → Binding ns₀ ix₀ ns ix n i → i < n → length ns' ≡ length ns → length ix' ≡ length ix → Bound ns ix ns' ix' i
    → Binding ns₀ ix₀ ns' ix' n (i + 1)
one_bound {ns₀} {ix₀} {ns} {ix} {ns'} {ix'} {n} {i} g h u v b = record {
  upto = omega arith;
  numbers = λ j l. numbers j l (ℕ_discrete j i);
  low = λ r l. b.others r (λ e. omega arith) ∙ g.low r l;
  high = λ r l. b.others r (λ e. omega arith) ∙ g.high r (omega arith);
  stands = λ k l. b.stands k (λ e. omega arith) ∙ g.stands k (omega arith);
  names-length = u ∙ g.names-length;
  index_length = v ∙ g.index_length;
}
  where
    numbers : (j : ℕ) → j < i + 1 → Dec (j ≡ i) → Number ns₀ ns' (35 + j) (get_or ix' j 0)
    numbers j l (yes e) = subst (λ (k : ℕ). Number ns₀ ns' (35 + k) (get_or ix' k 0)) (sym e) (number_first g.low (g.high (35 + i) (omega arith)) b.number)
    numbers j l (no e) = let k : j < i = omega arith in rw (b.stands j e) (number_stays (b.others (35 + j) (λ f. omega arith)) (g.numbers j k))

-- All of them.
pub all_bound : {ns₀ ix₀ ns ix : List ℕ} {n i : ℕ} → Binding ns₀ ix₀ ns ix n i → n ≤ i → AllBound ns₀ ix₀ ns ix n
all_bound g h = let u = g.upto in record {
  numbers = λ j l. g.numbers j (omega arith);
  low = g.low;
  high = λ r l. g.high r (omega arith);
  stands = λ k l. g.stands k (omega arith);
}
