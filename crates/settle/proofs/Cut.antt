-- Rows after `reduce` with nothing at hand: a row stays pending if its type is a variable, else it is replaced by what a
-- resolution of its predicate gives.
use mathlib.Core.Path.{◌≡◌, refl, ap, sym, ◌∙◌, subst}
use mathlib.Core.Bool.{true, false}
use mathlib.Core.List.Memᴰ
use mathlib.Core.List.{List, [], Memᴰ}
use Prim.Native.Nat.{ℕ, zero, suc, ◌+◌, ◌<◌, ◌≤◌}
use native.Mathlib.Omega.{arith}
use Rattle.meaning.specs.Base.{keep}
use Rattle.meaning.specs.Ast.{Pred, pred, Binder}
use Rattle.meaning.specs.Classes.{ClassEnv, resolve}
use Rattle.meaning.specs.Reduce.{is_head_normal}
use Rattle.meaning.specs.Generalize.{Pending as Waiting, preds_of}
use Rattle.theorems.proofs.Residuals.{Gave, Answers, left_of, firsts}
use Rattle.theorems.proofs.FirstRows.{firsts_preds, firsts_out}
use Rattle.theorems.proofs.Discharges.{answers_resolved}
use Rattle.names.specs.Names.{name_of}
use Rattle.ast.specs.Table.{tree, Node, Kept}
use Rattle.ast.proofs.Laws.{kept_tree}
use Rattle.cores.specs.Terms.{core}
use Rattle.supers.specs.Rows.{row_at, binders_from}
use Rattle.supers.specs.declared.rows.Row.{Row}
use Rattle.supers.specs.declared.rows.Row.TheVariants.{Pending, Replaced}
use Rattle.reduce.specs.Reduces.{discharged_in, residuals_in, Became}
use Rattle.pending.specs.Rows.{PendingRow}
use Rattle.settle.proofs.Lists.{PendingAs, pending_as, discharged_in_lem, residual_in}
use Rattle.settle.proofs.Found.{at_variable}

-- n pending rows bs over the words w became b₁ over w₁, and the lists of both are what `reduce` says in ce.
pub record Cut (ce : ClassEnv) (ns w w₁ bs b₁ : List ℕ) (top top₁ n : ℕ) : Type 0 where
  pub all : (i : ℕ) → i < n → PendingRow w top (row_at bs i)
  pub kept : Kept w w₁ top
  pub became : (i : ℕ) → i < n → Became w₁ top₁ (row_at bs i) (row_at b₁ i)
  pub answers : Answers ce (preds_of (binders_from ns w bs 0 n)) (discharged_in ns w w₁ bs b₁ n)
  pub residual_is : residuals_in ns w bs b₁ n ≡ left_of [] (preds_of (binders_from ns w bs 0 n))

-- What became of a pending row.
pub data Fate (w₁ : List ℕ) (top₁ : ℕ) (r : Row) (d c t : ℕ) : Type 0 where
  remains : r ≡ Pending d c t → Fate w₁ top₁ r d c t
  gone : (x : ℕ) → r ≡ Replaced d x → Node w₁ top₁ x → Fate w₁ top₁ r d c t

-- One of both.
pub fate_of : {w₁ : List ℕ} {top₁ d c t : ℕ} (r r' : Row) → r ≡ Pending d c t → Became w₁ top₁ r r' → Fate w₁ top₁ r' d c t
fate_of (Pending a b u) (Pending a' b' u') e h = remains (h ∙ e)
fate_of {d = d} (Pending a b u) (Replaced a' x) e h = gone x (let i = h.0 in let j : a ≡ d = cc in ap (λ m. Replaced m x) (i ∙ j)) h.1
fate_of (Replaced a y) (Pending a' b' u') e h = absurd h
fate_of (Replaced a y) (Replaced a' x) e h = absurd (let z : ◌≡◌ {A = ℕ} 0 1 = cc in omega arith)

-- What `reduce` leaves is at variables.
left_typed : (ps : Waiting) (p : Pred) → Memᴰ p (left_of [] (preds_of ps)) → is_head_normal p.ty ≡ true
left_typed ps p m =
    let r = Memᴰ.of_map (λ (z : Binder). z.1) (firsts [] ps) (subst (λ (l : List Pred). Memᴰ p l) (sym (firsts_preds [] ps)) m) in
    ap (λ (q : Pred). is_head_normal q.ty) (sym r.2) ∙ (firsts_out [] ps r.0 r.1).variable_typed

module _ {ce : ClassEnv} {ns w w₁ bs b₁ : List ℕ} {top top₁ n : ℕ} (C : Cut ce ns w w₁ bs b₁ top top₁ n) where
  -- The type of a row that stayed is a variable.
  pub stayed : (i : ℕ) → i < n → {d c t d' c' t' : ℕ} → row_at bs i ≡ Pending d c t → row_at b₁ i ≡ Pending d' c' t' → is_head_normal (tree ns w t) ≡ true
  stayed i l {d} {c} {t} e f = left_typed (binders_from ns w bs 0 n) (pred (name_of ns c) (tree ns w t))
      (subst (λ (l : List Pred). Memᴰ (pred (name_of ns c) (tree ns w t)) l) C.residual_is (residual_in ns w bs b₁ n i l e f))

  -- That of one that did not is none, and the row has what a resolution gives.
  pub went : (i : ℕ) → i < n → {d c t d' x : ℕ} → row_at bs i ≡ Pending d c t → row_at b₁ i ≡ Replaced d' x
      → (is_head_normal (tree ns w t) ≡ false) × Gave (resolve ce [] (pred (name_of ns c) (tree ns w t))) (core ns w₁ x)
  went i l {d} {c} {t} {x = x} e f = answers_resolved C.answers (pred (name_of ns c) (tree ns w t), core ns w₁ x) (discharged_in_lem ns w w₁ bs b₁ n i l e f)

  -- The binders of the rows that stayed are those at variables.
  pub rows_left : (j k : ℕ) → j + k ≤ n → binders_from ns w₁ b₁ j k ≡ keep at_variable (binders_from ns w bs j k)
  unfolding binders_from keep
  rows_left j zero l = refl
  rows_left j (suc k) l = go (fate_of (row_at bs j) (row_at b₁ j) q.is (C.became j (omega arith))) (rows_left (suc j) k (omega arith))
    where
      q : PendingAs w top (row_at bs j)
      q = pending_as (row_at bs j) (C.all j (omega arith))

      go : Fate w₁ top₁ (row_at b₁ j) q.d q.c q.t → binders_from ns w₁ b₁ (suc j) k ≡ keep at_variable (binders_from ns w bs (suc j) k)
          → binders_from ns w₁ b₁ j (suc k) ≡ keep at_variable (binders_from ns w bs j (suc k))
      go (remains e) ih = rw (q.is, e, stayed j (omega arith) q.is e, kept_tree ns C.kept q.type, ih) refl
      go (gone x e N) ih = rw (q.is, e, (went j (omega arith) q.is e).0, ih) refl
