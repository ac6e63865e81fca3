-- What stands while inference goes on, what is known of an answer, and rows from a number on.
use mathlib.Core.Path.{◌≡◌, refl, ◌∙◌}
use mathlib.Core.List.{List}
use Prim.Native.Nat.{ℕ, zero, suc, ◌+◌, ◌*◌, ◌-◌, ◌<◌, ◌≤◌}
use native.Mathlib.Omega.{arith}
use native.Mathlib.Decide.{dec_lt}
use lib.ListN.{length, get_or, drop}
use lib.Seq.{get_or-drop}
use Rattle.meaning.specs.Ast.{Expr}
use Rattle.meaning.specs.Budget.{done}
use Rattle.meaning.specs.Classes.{ClassEnv}
use Rattle.meaning.specs.Infer as M
use Rattle.theorems.proofs.Made.{MadeEnv}
use Rattle.theorems.proofs.InferMade.{infer_made}
use Rattle.theorems.proofs.DictNames.{infer_names}
use Rattle.ast.specs.Table.{Table, Kept}
use Rattle.supers.specs.Rows.{row_at, binders_from, binders_in}
use Rattle.resolve.proofs.Goals.{declared_kept}
use Rattle.classes.proofs.Looking.{methods_kept}
use Rattle.reduce.proofs.Marks.{row_same}
use Rattle.pending.specs.Rows.{PendingRow, PendingRows}
use Rattle.simplify.proofs.RowSets.{same_rows}
use Rattle.inferred.specs.Inferring.{Still}
use Rattle.inferred.proofs.Ends.{row_later}
use Rattle.binding.specs.General.{Fit}
use Rattle.binding.proofs.AfterEnv.{says_done}

-- ## What stands

-- The class environment is still what the words stand for.
pub still_kept : {ns w w' cl mt il : List ℕ} {top top' : ℕ} {ce : ClassEnv} → Kept w w' top → Table w' top' → top ≤ top' → Still ns w cl mt il top ce → Still ns w' cl mt il top' ce
still_kept K T h S = record { declared = declared_kept K T h S.declared; methods = methods_kept K T h S.methods }

-- What was inferred is fit.
pub inferred_fit : (d : ℕ) (ce : ClassEnv) (x : Expr) (st : M.State) (n : ℕ) {r : M.Inferred} {st' : M.State} {l : ℕ} → MadeEnv st.env → M.infer_in d ce x st n ≡ done (r, st') l → Fit r st'
inferred_fit d ce x st n {r} {st'} {l} m e =
    let h = says_done _ (r, st') l e (infer_made d ce x st n m) in
    let k = says_done _ (r, st') l e (infer_names d ce x st n) in
    record { made = h.0; env = h.1; lo = st.dv_counter; hi = st'.dv_counter; named = k }

-- ## Rows from number m on

-- Such a row, by its number from there.
drop_row : (bs : List ℕ) (m i : ℕ) → row_at (drop (3 * m) bs) i ≡ row_at bs (m + i)
unfolding row_at
drop_row bs m i =
    let a : 3 * m + 3 * i ≡ 3 * (m + i) = omega arith in
    let b : 3 * m + (3 * i + 1) ≡ 3 * (m + i) + 1 = omega arith in
    let c : 3 * m + (3 * i + 2) ≡ 3 * (m + i) + 2 = omega arith in
    rw (get_or-drop (3 * m) bs (3 * i) 0, get_or-drop (3 * m) bs (3 * i + 1) 0, get_or-drop (3 * m) bs (3 * i + 2) 0, a, b, c)

-- The binders of such rows.
drop_binders : (ns w bs : List ℕ) (m j n : ℕ) → binders_from ns w (drop (3 * m) bs) j n ≡ binders_from ns w bs (m + j) n
unfolding binders_from
drop_binders ns w bs m j zero = refl
drop_binders ns w bs m j (suc n) = let e : m + suc j ≡ suc (m + j) = omega arith in rw (drop_row bs m j, drop_binders ns w bs m (suc j) n, e)

-- Those of n rows from number m on.
pub rows_from : (ns w bs : List ℕ) (m n : ℕ) → binders_in ns w (drop (3 * m) bs) 0 n ≡ binders_in ns w bs m (m + n)
rows_from ns w bs m n =
    let e : m + n - m ≡ n = omega arith in
    let f : m + 0 ≡ m = omega arith in
    let g : n - 0 ≡ n = omega arith in
    rw (e, g) (drop_binders ns w bs m 0 n ∙ rw f)

-- m rows that stand, and n pending ones after them.
pub rows_both : {w₁ bs bs₁ : List ℕ} {t₁ m n : ℕ} (w : List ℕ) (top : ℕ) → Table w₁ t₁ → top ≤ t₁ → ((i : ℕ) → i < 3 * m → get_or bs₁ i 0 ≡ get_or bs i 0) → PendingRows w bs top m
    → PendingRows w₁ (drop (3 * m) bs₁) t₁ n → 3 * (m + n) ≤ length bs₁ → PendingRows w₁ bs₁ t₁ (m + n)
rows_both {w₁} {bs} {bs₁} {t₁} {m} {n} w top T h b P Q l = record { fits = l; each = λ i g. go i g (dec_lt i m) }
  where
    go : (i : ℕ) → i < m + n → Dec (i < m) → PendingRow w₁ t₁ (row_at bs₁ i)
    go i g (yes p) = rw (row_same bs bs₁ i (λ j x y. b j (omega arith))) (row_later w top (row_at bs i) T h (P.each i p))
    go i g (no p) = let e : m + (i - m) ≡ i = omega arith in rw (drop_row bs₁ m (i - m), e) at (Q.each (i - m) (omega arith))

-- The binders of the rows that stand.
pub rows_stand : (bs bs₁ : List ℕ) (m : ℕ) (ns w : List ℕ) → ((i : ℕ) → i < 3 * m → get_or bs₁ i 0 ≡ get_or bs i 0) → binders_in ns w bs₁ 0 m ≡ binders_in ns w bs 0 m
rows_stand bs bs₁ m ns w b = same_rows ns w bs bs₁ 0 (m - 0) (λ i p q. row_same bs bs₁ i (λ j x y. b j (omega arith)))
