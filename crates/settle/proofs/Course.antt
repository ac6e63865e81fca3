-- What `settled` says of rows, from what was done to them.
use mathlib.Core.Path.{◌≡◌, refl, ap, sym, ◌∙◌}
use mathlib.Core.Bool.{Bool, not}
use mathlib.Core.List.{List, []}
use Prim.Native.Nat.{ℕ, zero, suc, ◌+◌, ◌-◌, ◌<◌}
use native.Mathlib.Omega.{arith}
use Rattle.meaning.specs.Base.{keep}
use Rattle.meaning.specs.Ast.{TyVar, Pred, Core, Binder}
use Rattle.meaning.specs.Budget.{Out, done, refused, after}
use Rattle.meaning.specs.Errors as E
use Rattle.meaning.specs.Classes.{ClassEnv}
use Rattle.meaning.specs.Reduce.{Discharged, reduce, simplify_context}
use Rattle.meaning.specs.Cores.{subst_core}
use Rattle.meaning.specs.Generalize.{Pending as Waiting, preds_of, is_own}
use Rattle.theorems.proofs.Bound.{names_of}
use Rattle.theorems.proofs.Residuals.{firsts}
use Rattle.theorems.proofs.RisingNames.{rising_keep, rising_firsts, rising_distinct}
use Rattle.theorems.proofs.NamesGeneralized.{Named}
use Rattle.theorems.proofs.SubMap.{sub-map, split_of, removing_of}
use Rattle.ast.specs.Table.{Kept}
use Rattle.supers.specs.Rows.{row_at, binders_from, binders_in}
use Rattle.reduce.specs.Reduces.{discharged_in, residuals_in, Became}
use Rattle.simplify.specs.Simplified.{RowLeft, removed_in}
use Rattle.terms.specs.Plain.{plain_in}
use Rattle.terms.specs.Rows.{replaced_in}
use Rattle.pending.specs.Rows.{PendingRow}
use Rattle.pending.specs.Owned.{own_binder, late_binder, firsts_from, GivesAliased, GivesDeferred}
use Rattle.settle.specs.Settles.{settled}
use Rattle.settle.proofs.Halves.{keep-agree, own_is}
use Rattle.settle.proofs.Found.{firsts_same}
use Rattle.settle.proofs.Cut.{Cut, rows_left}
use Rattle.settle.proofs.Staged.{Staged}
use Rattle.settle.proofs.Tied.{walks}

-- ## `settled`, step by step

-- After `reduce` refused.
pub settled_stops : (ce : ClassEnv) (own : Binder → Bool) (ps : Waiting) (e : Core) (n : ℕ) (r : E.Refusal) (m : ℕ) → reduce ce [] (preds_of ps) n ≡ refused r m → settled ce own ps e n ≡ refused r m
unfolding settled after
settled_stops ce own ps e n r m i = rw i refl

-- What follows what `reduce` discharged; the binders fs are those of what it left.
abbrev pub onward : ClassEnv → (Binder → Bool) → Waiting → Core → Waiting → List Discharged → ℕ → Out (List Binder × Core × Waiting)
onward ce own ps e fs ds m = after (simplify_context ce (keep own fs) m) (λ r l. after (subst_core e (sub-map r.1 (keep own fs) ds ps) l) (λ e₁ k. done (r.0, e₁, keep (λ b. not (own b)) fs) k))

-- After `reduce`.
settled_reduced : (ce : ClassEnv) (own : Binder → Bool) (ps : Waiting) (e : Core) (n : ℕ) (o : List Discharged × List Pred) (m : ℕ) → reduce ce [] (preds_of ps) n ≡ done o m
    → settled ce own ps e n ≡ onward ce own ps e (firsts [] ps) o.0 m
unfolding settled after
settled_reduced ce own ps e n o m i = let s = (split_of ce ps n m o i).2 in rw (i, s) refl

-- ## Rows

-- The binders of rows of two slices that are the same rows.
pub rows_shift : (ns w bs ps : List ℕ) (i j k : ℕ) → ((m : ℕ) → m < k → row_at ps (j + m) ≡ row_at bs (i + m)) → binders_from ns w ps j k ≡ binders_from ns w bs i k
unfolding binders_from
rows_shift ns w bs ps i j zero h = refl
rows_shift ns w bs ps i j (suc k) h =
    let a : j + 0 ≡ j = omega arith in
    let b : i + 0 ≡ i = omega arith in
    let x : row_at ps j ≡ row_at bs i = ap (row_at ps) (sym a) ∙ h 0 (omega arith) ∙ ap (row_at bs) b in
    rw (
      x,
      rows_shift ns w bs ps (suc i) (suc j) k (λ m l.
          let c : suc j + m ≡ j + suc m = omega arith in
          let d : i + suc m ≡ suc i + m = omega arith in
          ap (row_at ps) c ∙ h (suc m) (omega arith) ∙ ap (row_at bs) d),
    ) refl

-- All that was done to the rows and the words, whatever the class environment.
pub record Course (fs es : List TyVar) (ns w w₁ bs b₁ mid b₃ p : List ℕ) (top top₁ n nd : ℕ) : Type 0 where
  pub all : (i : ℕ) → i < n → PendingRow w top (row_at bs i)
  pub kept : Kept w w₁ top
  pub became : (i : ℕ) → i < n → Became w₁ top₁ (row_at bs i) (row_at b₁ i)
  pub aliased : GivesAliased fs es ns w₁ b₁ mid n
  pub deferred : GivesDeferred fs es ns w₁ mid b₃ n nd
  pub part : (j : ℕ) → j < n - nd → row_at p j ≡ row_at b₃ (nd + j)

module _ {fs es : List TyVar} {ns w w₁ bs b₁ mid b₃ p : List ℕ} {top top₁ n nd : ℕ} (C : Course fs es ns w w₁ bs b₁ mid b₃ p top top₁ n nd)
    (ce : ClassEnv) (left l₁ : ℕ) (red : reduce ce [] (preds_of (binders_from ns w bs 0 n)) left ≡ done (discharged_in ns w w₁ bs b₁ n, residuals_in ns w bs b₁ n) l₁) where
  -- What `reduce` left and discharged.
  cut : Cut ce ns w w₁ bs b₁ top top₁ n
  cut =
      let s = split_of ce (binders_from ns w bs 0 n) left l₁ (discharged_in ns w w₁ bs b₁ n, residuals_in ns w bs b₁ n) red in
      record { all = C.all; kept = C.kept; became = C.became; answers = s.0; residual_is = s.1 }

  -- The rows between are the first ones of their predicates.
  firsts_are : binders_in ns w₁ mid 0 n ≡ firsts [] (binders_from ns w bs 0 n)
  firsts_are =
      let z : n - 0 ≡ n = omega arith in
      C.aliased.is ∙ ap (firsts_from []) (ap (binders_from ns w₁ b₁ 0) z ∙ rows_left cut 0 n (omega arith)) ∙ firsts_same (binders_from ns w bs 0 n)

  -- The part is what stays with the binding.
  pub own_are : binders_in ns w₁ p 0 (n - nd) ≡ keep (is_own fs es) (firsts [] (binders_from ns w bs 0 n))
  own_are =
      let z : n - nd - 0 ≡ n - nd = omega arith in
      ap (binders_from ns w₁ p 0) z ∙ rows_shift ns w₁ b₃ p nd 0 (n - nd) (λ m l. let a : 0 + m ≡ m = omega arith in ap (row_at p) a ∙ C.part m l)
      ∙ C.deferred.own ∙ ap (keep (own_binder fs es)) firsts_are ∙ sym (keep-agree (is_own fs es) (own_binder fs es) (binders_from ns w bs 0 n) (own_is fs es))

  -- The first rows are what is deferred.
  pub late_are : binders_in ns w₁ b₃ 0 nd ≡ keep (λ b. not (is_own fs es b)) (firsts [] (binders_from ns w bs 0 n))
  late_are =
      C.deferred.late ∙ ap (keep (late_binder fs es)) firsts_are
      ∙ sym (keep-agree (λ b. not (is_own fs es b)) (late_binder fs es) (binders_from ns w bs 0 n) (λ b t. ap not (own_is fs es b t)))

  -- What is left to do.
  pub reduced : (e : Core) → settled ce (is_own fs es) (binders_from ns w bs 0 n) e left ≡ onward ce (is_own fs es) (binders_from ns w bs 0 n) e (firsts [] (binders_from ns w bs 0 n)) (discharged_in ns w w₁ bs b₁ n) l₁
  reduced e = settled_reduced ce (is_own fs es) (binders_from ns w bs 0 n) e left (discharged_in ns w w₁ bs b₁ n, residuals_in ns w bs b₁ n) l₁ red

  -- The simplification refuses.
  pub simplify_stops : (e : Core) (r : E.Refusal) (m : ℕ) → simplify_context ce (binders_in ns w₁ p 0 (n - nd)) l₁ ≡ refused r m → settled ce (is_own fs es) (binders_from ns w bs 0 n) e left ≡ refused r m
  unfolding after
  simplify_stops e r m i = reduced e ∙ rw (ap (λ (l : List Binder). simplify_context ce l l₁) (sym own_are) ∙ i) refl

  module _ (w₂ p' : List ℕ) (l₂ : ℕ) (kept₁ : Kept w₁ w₂ top₁) (left₂ : (j : ℕ) → j < n - nd → RowLeft (row_at p j) (row_at p' j)) (lo hi : ℕ) (e : Core)
      (named : Named lo hi (names_of (binders_from ns w bs 0 n)) e)
      (simp : simplify_context ce (binders_in ns w₁ p 0 (n - nd)) l₁ ≡ done (binders_in ns w₂ p' 0 (n - nd), removed_in ns w₂ p p' (n - nd)) l₂) where
    -- The same of the binders that stay.
    simp_own : simplify_context ce (keep (is_own fs es) (firsts [] (binders_from ns w bs 0 n))) l₁ ≡ done (binders_in ns w₂ p' 0 (n - nd), removed_in ns w₂ p p' (n - nd)) l₂
    simp_own = ap (λ (l : List Binder). simplify_context ce l l₁) (sym own_are) ∙ simp

    -- All stages.
    staged : Staged ce fs es ns w w₁ w₂ bs b₁ mid b₃ p p' top top₁ n nd
    staged = record {
      cut = cut;
      kept = kept₁;
      aliased = C.aliased;
      deferred = C.deferred;
      part = C.part;
      left = left₂;
      differ = rising_distinct lo hi (names_of (binders_from ns w bs 0 n)) named.rises;
      removes = removing_of ce lo hi (keep (is_own fs es) (firsts [] (binders_from ns w bs 0 n))) l₁ l₂ (binders_in ns w₂ p' 0 (n - nd), removed_in ns w₂ p p' (n - nd))
          (rising_keep lo hi (is_own fs es) (firsts [] (binders_from ns w bs 0 n)) (rising_firsts lo hi [] (binders_from ns w bs 0 n) named.rises)) simp_own;
    }

    -- The walk is what is left.
    pub walked : settled ce (is_own fs es) (binders_from ns w bs 0 n) e left
        ≡ after (plain_in 256 (replaced_in ns w₂ p' (n - nd)) e l₂) (λ e₁ k. done (binders_in ns w₂ p' 0 (n - nd), e₁, keep (λ b. not (is_own fs es b)) (firsts [] (binders_from ns w bs 0 n))) k)
    unfolding after
    walked = reduced e ∙ rw simp_own (ap (λ (o : Out Core). after o (λ e₁ k. done (binders_in ns w₂ p' 0 (n - nd), e₁, keep (λ b. not (is_own fs es b)) (firsts [] (binders_from ns w bs 0 n))) k)) (walks staged lo hi e l₂ named.apart))
