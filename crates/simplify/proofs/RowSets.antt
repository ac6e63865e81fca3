-- Laws of rows of which one changes: what a row's words say, and the binders before and after that row.
use mathlib.Core.Path.{◌≡◌, refl, ap, ◌∙◌}
use mathlib.Core.List.{List, [], ◌++◌}
use Prim.Native.Nat.{ℕ, zero, suc, ◌+◌, ◌*◌, ◌-◌, ◌<◌, ◌≤◌}
use native.Mathlib.Omega.{arith}
use native.Mathlib.Decide.{ℕ_discrete}
use lib.ListN.{get_or, set}
use lib.Seq.{get_or-set_other}
use Rattle.meaning.specs.Base.{if, eqb, is_yes}
use Rattle.meaning.specs.Ast.{Binder}
use Rattle.supers.specs.declared.rows.Row.{Row}
use Rattle.supers.specs.declared.rows.Row.TheVariants.{Pending, Replaced}
use Rattle.supers.specs.Rows.{mark, row_of, row_at, with_row, binders_from, binders_in}
use Rattle.supers.proofs.RowLaws.{row_step, rows_end}

-- The words of a pending row.
pub record Words (bs : List ℕ) (i d c t : ℕ) : Type 0 where
  pub dict : get_or bs (3 * i) 0 ≡ d
  pub class : get_or bs (3 * i + 1) 0 ≡ c
  pub ty : get_or bs (3 * i + 2) 0 ≡ t
  pub free : c ≡ mark → ⊥

-- They are what it says.
pub row_words : {d c t : ℕ} (bs : List ℕ) (i : ℕ) → row_at bs i ≡ Pending d c t → Words bs i d c t
unfolding row_at row_of eqb
row_words {d} {c} {t} bs i e = go (ℕ_discrete (get_or bs (3 * i + 1) 0) mark) e
  where
    go : (x : Dec (get_or bs (3 * i + 1) 0 ≡ mark)) → if (is_yes x) (Replaced (get_or bs (3 * i) 0) (get_or bs (3 * i + 2) 0)) (Pending (get_or bs (3 * i) 0) (get_or bs (3 * i + 1) 0) (get_or bs (3 * i + 2) 0)) ≡ Pending d c t
        → Words bs i d c t
    go (yes p) q = absurd (let z : ◌≡◌ {A = ℕ} 0 1 = cc in omega arith)
    go (no h) q = let z : get_or bs (3 * i + 1) 0 ≡ c = cc in record { dict = cc; class = z; ty = cc; free = λ m. h (z ∙ m) }

-- Rows whose words are the same.
pub same_row : (bs bs' : List ℕ) (j : ℕ) → get_or bs' (3 * j) 0 ≡ get_or bs (3 * j) 0 → get_or bs' (3 * j + 1) 0 ≡ get_or bs (3 * j + 1) 0 → get_or bs' (3 * j + 2) 0 ≡ get_or bs (3 * j + 2) 0
    → row_at bs' j ≡ row_at bs j
unfolding row_at
same_row bs bs' j a b c = rw (a, b, c)

-- The second or the third word of row i is written: the others stand.
pub set_others : (bs : List ℕ) (i a v : ℕ) → 3 * i < a → a < 3 * i + 3 → (j : ℕ) → (j ≡ i → ⊥) → row_at (set bs a v) j ≡ row_at bs j
set_others bs i a v p q j n =
    same_row bs (set bs a v) j (get_or-set_other bs a (3 * j) v 0 (omega arith)) (get_or-set_other bs a (3 * j + 1) v 0 (omega arith)) (get_or-set_other bs a (3 * j + 2) v 0 (omega arith))

-- Binders of rows that are the same.
pub same_rows : (ns w bs bs' : List ℕ) (j k : ℕ) → ((i : ℕ) → j ≤ i → i < j + k → row_at bs' i ≡ row_at bs i) → binders_from ns w bs' j k ≡ binders_from ns w bs j k
unfolding binders_from
same_rows ns w bs bs' j zero h = refl
same_rows ns w bs bs' j (suc k) h = rw (h j (omega arith) (omega arith), same_rows ns w bs bs' (suc j) k (λ i p q. h i (omega arith) (omega arith)))

-- A row's binder before others, as lists.
with_row_lem : (ns w : List ℕ) (r : Row) (xs ys : List Binder) → with_row ns w r (xs ++ ys) ≡ with_row ns w r xs ++ ys
with_row_lem ns w (Pending d c t) xs ys = refl
with_row_lem ns w (Replaced d x) xs ys = refl

-- The binders of a + b rows are those of the first a and those of the rest.
pub rows_split : (ns w bs : List ℕ) (j a b : ℕ) → binders_from ns w bs j (a + b) ≡ binders_from ns w bs j a ++ binders_from ns w bs (j + a) b
unfolding binders_from
rows_split ns w bs j zero b = let e : j + 0 ≡ j = omega arith in let f : 0 + b ≡ b = omega arith in rw (e, f)
rows_split ns w bs j (suc a) b =
    let e : j + suc a ≡ suc j + a = omega arith in
    let f : suc a + b ≡ suc (a + b) = omega arith in
    rw f (ap (with_row ns w (row_at bs j)) (rows_split ns w bs (suc j) a b) ∙ with_row_lem ns w (row_at bs j) (binders_from ns w bs (suc j) a) (binders_from ns w bs (suc j + a) b) ∙ rw e)

-- The binders up to row i and those from it on.
pub binders_split : (ns w bs : List ℕ) (i n : ℕ) → i ≤ n → binders_in ns w bs 0 n ≡ binders_in ns w bs 0 i ++ binders_in ns w bs i n
binders_split ns w bs i n h =
    let e : n - 0 ≡ i - 0 + (n - i) = omega arith in
    let z : 0 + (i - 0) ≡ i = omega arith in
    rw e (rows_split ns w bs 0 (i - 0) (n - i) ∙ rw z)

-- The binders up to row i, and then its own.
pub binders_snoc : (ns w bs : List ℕ) (i : ℕ) → binders_in ns w bs 0 (suc i) ≡ binders_in ns w bs 0 i ++ with_row ns w (row_at bs i) []
binders_snoc ns w bs i =
    binders_split ns w bs i (suc i) (omega arith)
    ∙ ap (λ ys. binders_in ns w bs 0 i ++ ys) (row_step ns w bs i (suc i) (omega arith) ∙ ap (with_row ns w (row_at bs i)) (rows_end ns w bs (suc i) (suc i) (omega arith)))
