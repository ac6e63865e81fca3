-- `apply_preds_pending` over lists that are put together, and the ways out of `apply_row`.
use mathlib.Core.Path.{◌≡◌, refl, ap, sym, ◌∙◌}
use mathlib.Core.List.{List, [], ◌∷◌, ◌++◌, append_assoc}
use Prim.Native.Nat.{ℕ, suc, ◌+◌, ◌*◌, ◌-◌}
use native.Mathlib.Omega.{arith}
use native.Mathlib.Decide.{ℕ_discrete}
use Rattle.meaning.specs.Base.{if, eqb, is_yes}
use Rattle.meaning.specs.Ast.{Name, DictName, dvar, Ty, Pred, pred, Binder}
use Rattle.meaning.specs.Budget.{Out, done, refused, after, depth}
use Rattle.meaning.specs.Subst.{Subst, apply_in, apply_pred, apply_preds_pending}
use Rattle.names.specs.Names.{name_of}
use Rattle.ast.specs.Table.{tree}
use Rattle.errors.specs.declared.Refusal.{Refusal}
use Rattle.pairs.specs.Pairs.{sub_at}
use Rattle.pairs.proofs.Frames.{stands_refl}
use Rattle.apply.specs.Region.{Ready, Gives}
use Rattle.apply.specs.Applied.{Applied}
use Rattle.apply.specs.Applied.{Done as Applied-Done, Refused as Applied-Refused}
use Rattle.apply.proofs.Hand.{Then, then_done, refuse_on}
use Rattle.supers.specs.Rows.{mark, row_of, row_at, with_row, binders_in}
use Rattle.supers.specs.declared.rows.Row.{Row}
use Rattle.supers.specs.declared.rows.Row.TheVariants.{Pending, Replaced}
use Rattle.supers.proofs.RowLaws.{row_open, row_step, rows_end}
use Rattle.pending.specs.Swept.{Done, Refused}
use Rattle.pending.specs.Rows.{put_row}
use Rattle.pending.specs.Swept.{ReadySweep, GivesSwept}
use Rattle.pending.proofs.Puts.{put_here, put_before, put_behind}

-- ## Lists that are put together

-- The outcome with xs before its answer.
unfoldable pub prefixed : List Binder → Out (List Binder) → Out (List Binder)
prefixed xs (done ys l) = done (xs ++ ys) l
prefixed xs (refused e l) = refused e l

-- With no binders before it.
pub prefixed_none : (o : Out (List Binder)) → prefixed [] o ≡ o
unfolding prefixed
prefixed_none (done ys l) = refl
prefixed_none (refused e l) = refl

-- With xs before what follows an outcome.
pub prefixed_after : (xs : List Binder) (o : Out (List Binder)) (f : ℕ → Out (List Binder)) → prefixed xs (after o (λ a m. prefixed a (f m))) ≡ after o (λ a m. prefixed (xs ++ a) (f m))
unfolding prefixed after
prefixed_after xs (done a m) f = go (f m)
  where
    go : (o : Out (List Binder)) → prefixed xs (prefixed a o) ≡ prefixed (xs ++ a) o
    go (done ys l) = rw (append_assoc xs a ys)
    go (refused e l) = refl
prefixed_after xs (refused e l) f = refl

-- One list, and then the other.
pub pending_split : (s : Subst) (xs ys : List Binder) (n : ℕ) → apply_preds_pending s (xs ++ ys) n ≡ after (apply_preds_pending s xs n) (λ a m. prefixed a (apply_preds_pending s ys m))
unfolding apply_preds_pending after prefixed
pending_split s [] ys n = sym (prefixed_none (apply_preds_pending s ys n))
pending_split s (x ∷ xs) ys n = go (apply_pred s x.1 n) (λ m. pending_split s xs ys m)
  where
    cons : (q : Pred) (a : List Binder) (o : Out (List Binder)) → after (prefixed a o) (λ qs l. done ((x.0, q) ∷ qs) l) ≡ prefixed ((x.0, q) ∷ a) o
    cons q a (done zs l) = refl
    cons q a (refused e l) = refl

    one : (q : Pred) (o : Out (List Binder)) → after (after o (λ a m. prefixed a (apply_preds_pending s ys m))) (λ qs l. done ((x.0, q) ∷ qs) l) ≡ after (after o (λ qs l. done ((x.0, q) ∷ qs) l)) (λ a m. prefixed a (apply_preds_pending s ys m))
    one q (done a m) = cons q a (apply_preds_pending s ys m)
    one q (refused e l) = refl

    go : (o : Out Pred) → ((m : ℕ) → apply_preds_pending s (xs ++ ys) m ≡ after (apply_preds_pending s xs m) (λ a k. prefixed a (apply_preds_pending s ys k)))
        → after o (λ q m. after (apply_preds_pending s (xs ++ ys) m) (λ qs l. done ((x.0, q) ∷ qs) l)) ≡ after (after o (λ q m. after (apply_preds_pending s xs m) (λ qs l. done ((x.0, q) ∷ qs) l))) (λ a m. prefixed a (apply_preds_pending s ys m))
    go (done q m) ih = rw (ih m) (one q (apply_preds_pending s xs m))
    go (refused e l) ih = refl

-- One binder.
pub pending_one : (s : Subst) (d : DictName) (c : Name) (a : Ty) (n : ℕ) → apply_preds_pending s ((d, pred c a) ∷ []) n ≡ after (apply_in depth s a n) (λ u m. done ((d, pred c u) ∷ []) m)
unfolding apply_preds_pending apply_pred after
pending_one s d c a n = go (apply_in depth s a n)
  where
    go : (o : Out Ty) → after {B = List Binder} (after o (λ u m. done (pred c u) m)) (λ q m. after {A = List Binder} (done [] m) (λ qs l. done ((d, q) ∷ qs) l)) ≡ after o (λ u m. done ((d, pred c u) ∷ []) m)
    go (done u m) = refl
    go (refused e l) = refl

-- No binder.
pub pending_none : (s : Subst) (n : ℕ) → apply_preds_pending s [] n ≡ done [] n
unfolding apply_preds_pending
pending_none s n = refl

-- ## One row

-- The binders of one row.
pub one_row : (ns w bs : List ℕ) (i : ℕ) → binders_in ns w bs i (i + 1) ≡ with_row ns w (row_at bs i) []
one_row ns w bs i = row_step ns w bs i (i + 1) (omega arith) ∙ ap (with_row ns w (row_at bs i)) (rows_end ns w bs (suc i) (i + 1) (omega arith))

-- The mark is no class of a pending row.
pub no_mark : (d c x : ℕ) {e b t : ℕ} → row_of d c x ≡ Pending e b t → (b ≡ mark → ⊥)
unfolding row_of eqb
no_mark d c x {e} {b} {t} = go (ℕ_discrete c mark)
  where
    go : (z : Dec (c ≡ mark)) → if (is_yes z) (Replaced d x) (Pending d c x) ≡ Pending e b t → (b ≡ mark → ⊥)
    go (yes p) h m = let z : ◌≡◌ {A = ℕ} 0 1 = cc in omega arith
    go (no n) h m = let z : c ≡ b = cc in n (z ∙ m)

-- A pending row that is written again is pending.
pub pending_again : (bs : List ℕ) (i : ℕ) {d c t : ℕ} (u : ℕ) → row_at bs i ≡ Pending d c t → row_of d c u ≡ Pending d c u
unfolding row_at
pending_again bs i {d} {c} u h = row_open d c u (no_mark _ _ _ h)

module _ {ns w bs : List ℕ} {top left at k i : ℕ} (R : ReadySweep ns w bs top left at k i (i + 1)) {q : Row} (e : q ≡ row_at bs i) where
  -- The row was replaced before.
  pub sweep_passed : {d x : ℕ} → q ≡ Replaced d x → GivesSwept ns w w bs bs top left at k i (i + 1) (Done top left)
  sweep_passed {d} {x} h =
      let r : row_at bs i ≡ Replaced d x = sym e ∙ h in
      let b : binders_in ns w bs i (i + 1) ≡ [] = one_row ns w bs i ∙ ap (λ z. with_row ns w z []) r in
      record {
        stands = stands_refl _ _ _;
        before = λ j p. refl;
        behind = λ j p. refl;
        answer = record {
          table = R.table;
          more = omega arith;
          spent = omega arith;
          down = omega arith;
          rows = λ j p g. let z : j ≡ i = omega arith in rw (z, r) refl;
          is = rw b (pending_none _ _);
        };
      }

  module _ {d c t : ℕ} (h : q ≡ Pending d c t) where
    -- The row, as it was.
    was : row_at bs i ≡ Pending d c t
    was = sym e ∙ h

    -- What is asked of its type.
    pub sweep_ready : Ready ns w top left at k t
    sweep_ready = record { names = R.names; node = rw was at (R.types i (omega arith) (omega arith)); room = R.room; sub = R.sub }

    module _ {w₁ : List ℕ} {r : Applied} (G : Gives (tree ns w₁) (4 * top + 8 * left - 4) ns w w₁ top left (apply_in depth (sub_at ns w at k) (tree ns w t) left) r) where
      -- What `apply_preds_pending` does for it.
      row_then : Then (apply_preds_pending (sub_at ns w at k) (binders_in ns w bs i (i + 1)) left) (apply_in depth (sub_at ns w at k) (tree ns w t) left) (λ u m. done ((dvar d, pred (name_of ns c) u) ∷ []) m)
      row_then = record {
        is = ap (λ os. apply_preds_pending (sub_at ns w at k) os left) (one_row ns w bs i ∙ ap (λ z. with_row ns w z []) was) ∙ pending_one (sub_at ns w at k) (dvar d) (name_of ns c) (tree ns w t) left;
      }

      -- It has its new type.
      pub sweep_done : {bs₁ : List ℕ} {u t₁ l₁ : ℕ} → r ≡ Applied-Done u t₁ l₁ → bs₁ ≡ put_row bs i d c u → GivesSwept ns w w₁ bs bs₁ top left at k i (i + 1) (Done t₁ l₁)
      sweep_done {bs₁} {u} {t₁} {l₁} g p =
          let A = rw g at G.answer in
          let s = A.1.spent in let f = R.rows in
          let b : row_at bs₁ i ≡ Pending d c u = put_here bs i d c u p (omega arith) ∙ pending_again bs i u was in
          record {
            stands = G.stands;
            before = put_before bs i d c u p;
            behind = λ j y. put_behind bs i d c u p j (omega arith);
            answer = record {
              table = A.1.node.table;
              more = A.1.more;
              spent = omega arith;
              down = A.1.down;
              rows = λ j y z. let x : j ≡ i = omega arith in rw (x, was, b) (refl, (refl, A.1.node));
              is = then_done _ l₁ row_then A.0 ∙ ap (λ os. done os l₁) (sym (one_row ns w₁ bs₁ i ∙ ap (λ z. with_row ns w₁ z []) b));
            };
          }

      -- It is refused.
      pub sweep_lost : {x : Refusal} {t₁ l₁ : ℕ} → r ≡ Applied-Refused x t₁ l₁ → GivesSwept ns w w₁ bs bs top left at k i (i + 1) (Refused x t₁ l₁)
      sweep_lost g = record {
        stands = G.stands;
        before = λ j p. refl;
        behind = λ j p. refl;
        answer = refuse_on row_then (rw g at G.answer) (omega arith) (omega arith);
      }
