-- Rows and the lists that they stand for: which row a member comes from, and which member a row makes.
use mathlib.Core.Path.{◌≡◌, refl, ap, sym, ◌∙◌}
use mathlib.Core.Bool.{true, false}
use mathlib.Core.List.Memᴰ
use mathlib.Core.List.{List, [], ◌∷◌, ◌++◌, Memᴰ}
use mathlib.Core.Option.{some}
use mathlib.Core.Logic.{◌⊎◌, inl, inr}
use Prim.Native.Nat.{ℕ, zero, suc, ◌+◌, ◌<◌, ◌≤◌}
use native.Mathlib.Omega.{arith}
use native.Mathlib.Decide.{dec_lt}
use Rattle.meaning.specs.Base.{is_yes, if, nth}
use Rattle.meaning.specs.Ast.{DictName, dvar, same_dict, Pred, pred, Core, cdict, Binder}
use Rattle.meaning.specs.Map.{dicts, get}
use Rattle.meaning.specs.Reduce.{Discharged, Removed, contains}
use Rattle.meaning.specs.Cores.{or_core}
use Rattle.theorems.proofs.Members.{contains_true}
use Rattle.names.specs.Names.{name_of}
use Rattle.ast.specs.Table.{tree, Node}
use Rattle.cores.specs.Terms.{core}
use Rattle.supers.specs.Rows.{row_at, with_row, binders_from}
use Rattle.supers.specs.declared.rows.Row.{Row}
use Rattle.supers.specs.declared.rows.Row.TheVariants.{Pending, Replaced}
use Rattle.reduce.specs.Reduces.{add_discharged, discharged_in, add_residual, residuals_in}
use Rattle.simplify.specs.Simplified.{removed_row, removed_from}
use Rattle.terms.specs.Rows.{replaced_from, with_replaced}
use Rattle.pending.specs.Rows.{PendingRow}

-- ## Pending rows

-- The binder of a pending row.
abbrev pub binder_of : List ℕ → List ℕ → ℕ → ℕ → ℕ → Binder
binder_of ns w d c t = (dvar d, pred (name_of ns c) (tree ns w t))

-- The words of a pending row.
pub record PendingAs (w : List ℕ) (top : ℕ) (r : Row) : Type 0 where
  pub d : ℕ
  pub c : ℕ
  pub t : ℕ
  pub is : r ≡ Pending d c t
  pub small : d < 17_592_186_044_416
  pub class : c < 65_536
  pub type : Node w top t

-- A pending row has them.
pub pending_as : {w : List ℕ} {top : ℕ} (r : Row) → PendingRow w top r → PendingAs w top r
pending_as (Pending d c t) h = record { d = d; c = c; t = t; is = refl; small = h.0; class = h.1.0; type = h.1.1 }
pending_as (Replaced d x) h = absurd h

-- Rows of which each is pending.
abbrev pub AllPending : List ℕ → List ℕ → ℕ → ℕ → ℕ → Type 0
AllPending w bs top j k = (i : ℕ) → j ≤ i → i < j + k → PendingRow w top (row_at bs i)

-- The binder at a number is that of the row with that number.
pub nth_row : (ns w bs : List ℕ) (top j k i : ℕ) {d c t : ℕ} → AllPending w bs top j k → i < k → row_at bs (j + i) ≡ Pending d c t
    → nth (binders_from ns w bs j k) i ≡ some (binder_of ns w d c t)
unfolding nth binders_from
nth_row ns w bs top j zero i h l e = absurd (omega arith)
nth_row ns w bs top j (suc k) zero h l e = let z : j + 0 ≡ j = omega arith in let f = rw z at e in rw f refl
nth_row ns w bs top j (suc k) (suc i) h l e =
    let q = pending_as (row_at bs j) (h j (omega arith) (omega arith)) in
    let z : j + suc i ≡ suc j + i = omega arith in
    rw q.is (nth_row ns w bs top (suc j) k i (λ m a b. h m (omega arith) (omega arith)) (omega arith) (rw (sym z) e))

-- A row of rows that stands for a binder.
pub record RowOf (ns w bs : List ℕ) (j k : ℕ) (b : Binder) : Type 0 where
  pub number : ℕ
  pub from : j ≤ number
  pub below : number < j + k
  pub d : ℕ
  pub c : ℕ
  pub t : ℕ
  pub is : row_at bs number ≡ Pending d c t
  pub binder : b ≡ binder_of ns w d c t

-- Each binder stands in a row.
pub member_row : (ns w bs : List ℕ) (j k : ℕ) (b : Binder) → Memᴰ b (binders_from ns w bs j k) → RowOf ns w bs j k b
unfolding binders_from
member_row ns w bs j zero b m = absurd (Memᴰ.not-nil m)
member_row ns w bs j (suc k) b m = go (row_at bs j) refl m (member_row ns w bs (suc j) k b)
  where
    later : RowOf ns w bs (suc j) k b → RowOf ns w bs j (suc k) b
    later r = let f = r.from in let g = r.below in record { number = r.number; from = omega arith; below = omega arith; d = r.d; c = r.c; t = r.t; is = r.is; binder = r.binder }

    go : (q : Row) → row_at bs j ≡ q → Memᴰ b (with_row ns w q (binders_from ns w bs (suc j) k)) → (Memᴰ b (binders_from ns w bs (suc j) k) → RowOf ns w bs (suc j) k b) → RowOf ns w bs j (suc k) b
    go (Replaced d x) e m ih = later (ih m)
    go (Pending d c t) e m ih = next (Memᴰ.cases_cons m)
      where
        next : (b ≡ binder_of ns w d c t) ⊎ Memᴰ b (binders_from ns w bs (suc j) k) → RowOf ns w bs j (suc k) b
        next (inl f) = record { number = j; from = omega arith; below = omega arith; d = d; c = c; t = t; is = e; binder = f }
        next (inr n) = later (ih n)

-- ## What `reduce` discharged and left

-- A row that was replaced is among the discharged.
pub discharged_in_lem : (ns w w' bs bs' : List ℕ) (n i : ℕ) {d c t d' x : ℕ} → i < n → row_at bs i ≡ Pending d c t → row_at bs' i ≡ Replaced d' x
    → Memᴰ {A = Discharged} (pred (name_of ns c) (tree ns w t), core ns w' x) (discharged_in ns w w' bs bs' n)
unfolding discharged_in
discharged_in_lem ns w w' bs bs' zero i l e f = absurd (omega arith)
discharged_in_lem ns w w' bs bs' (suc n) i {d} {c} {t} {d'} {x} l e f = split (dec_lt i n) (λ h. discharged_in_lem ns w w' bs bs' n i h e f)
  where
    it : Discharged
    it = (pred (name_of ns c) (tree ns w t), core ns w' x)

    more : (q q' : Row) (os : List Discharged) → Memᴰ it os → Memᴰ it (add_discharged ns w w' q q' os)
    more (Pending d c t) (Pending d' c' t') os m = m
    more (Pending d c t) (Replaced d' y) os m = Memᴰ.append_left _ m
    more (Replaced d y) (Pending d' c' t') os m = m
    more (Replaced d y) (Replaced d' z) os m = m

    split : Dec (i < n) → (i < n → Memᴰ it (discharged_in ns w w' bs bs' n)) → Memᴰ it (add_discharged ns w w' (row_at bs n) (row_at bs' n) (discharged_in ns w w' bs bs' n))
    split (yes h) ih = more (row_at bs n) (row_at bs' n) (discharged_in ns w w' bs bs' n) (ih h)
    split (no h) ih = let z : n ≡ i = omega arith in rw (ap (row_at bs) z ∙ e, ap (row_at bs') z ∙ f) (Memᴰ.append_right (discharged_in ns w w' bs bs' n) (Memᴰ.head refl))

-- A row that stayed is among the residuals.
pub residual_in : (ns w bs bs' : List ℕ) (n i : ℕ) {d c t d' c' t' : ℕ} → i < n → row_at bs i ≡ Pending d c t → row_at bs' i ≡ Pending d' c' t'
    → Memᴰ {A = Pred} (pred (name_of ns c) (tree ns w t)) (residuals_in ns w bs bs' n)
unfolding residuals_in
residual_in ns w bs bs' zero i l e f = absurd (omega arith)
residual_in ns w bs bs' (suc n) i {d} {c} {t} l e f = split (dec_lt i n) (λ h. residual_in ns w bs bs' n i h e f)
  where
    it : Pred
    it = pred (name_of ns c) (tree ns w t)

    added : (p : Pred) (b : _) (ps : List Pred) → Memᴰ it ps → Memᴰ it (if b ps (ps ++ (p ∷ [])))
    added p true ps m = m
    added p false ps m = Memᴰ.append_left _ m

    more : (q q' : Row) (ps : List Pred) → Memᴰ it ps → Memᴰ it (add_residual ns w q q' ps)
    more (Pending d c t) (Pending d' c' t') ps m = added (pred (name_of ns c) (tree ns w t)) (contains ps (pred (name_of ns c) (tree ns w t))) ps m
    more (Pending d c t) (Replaced d' y) ps m = m
    more (Replaced d y) (Pending d' c' t') ps m = m
    more (Replaced d y) (Replaced d' z) ps m = m

    here : (b : _) (ps : List Pred) → contains ps it ≡ b → Memᴰ it (if b ps (ps ++ (it ∷ [])))
    here true ps h = contains_true ps it h
    here false ps h = Memᴰ.append_right ps (Memᴰ.head refl)

    split : Dec (i < n) → (i < n → Memᴰ it (residuals_in ns w bs bs' n)) → Memᴰ it (add_residual ns w (row_at bs n) (row_at bs' n) (residuals_in ns w bs bs' n))
    split (yes h) ih = more (row_at bs n) (row_at bs' n) (residuals_in ns w bs bs' n) (ih h)
    split (no h) ih = let z : n ≡ i = omega arith in rw (ap (row_at bs) z ∙ e, ap (row_at bs') z ∙ f) (here (contains (residuals_in ns w bs bs' n) it) (residuals_in ns w bs bs' n) refl)

-- ## What was removed

-- A row that was pending and was replaced.
pub record Gone (ns w bs bs' : List ℕ) (j k : ℕ) (r : Removed) : Type 0 where
  pub number : ℕ
  pub from : j ≤ number
  pub below : number < j + k
  pub d : ℕ
  pub c : ℕ
  pub t : ℕ
  pub was : row_at bs number ≡ Pending d c t
  pub e : ℕ
  pub x : ℕ
  pub is : row_at bs' number ≡ Replaced e x
  pub pair : r ≡ (dvar e, core ns w x)

-- Each pair of what was removed is of such a row.
pub removed_out : (ns w bs bs' : List ℕ) (j k : ℕ) (r : Removed) → Memᴰ r (removed_from ns w bs bs' j k) → Gone ns w bs bs' j k r
unfolding removed_from
removed_out ns w bs bs' j zero r m = absurd (Memᴰ.not-nil m)
removed_out ns w bs bs' j (suc k) r m = next (Memᴰ.append_cases (removed_row ns w (row_at bs j) (row_at bs' j)) m) (removed_out ns w bs bs' (suc j) k r)
  where
    here : (q q' : Row) → row_at bs j ≡ q → row_at bs' j ≡ q' → Memᴰ r (removed_row ns w q q') → Gone ns w bs bs' j (suc k) r
    here (Pending d c t) (Pending d₁ c₁ t₁) e f m = absurd (Memᴰ.not-nil m)
    here (Pending d c t) (Replaced d₁ x) e f m =
        record { number = j; from = omega arith; below = omega arith; d = d; c = c; t = t; was = e; e = d₁; x = x; is = f; pair = Memᴰ.eq_of_singleton m }
    here (Replaced d y) (Pending d₁ c₁ t₁) e f m = absurd (Memᴰ.not-nil m)
    here (Replaced d y) (Replaced d₁ x) e f m = absurd (Memᴰ.not-nil m)

    next : Memᴰ r (removed_row ns w (row_at bs j) (row_at bs' j)) ⊎ Memᴰ r (removed_from ns w bs bs' (suc j) k) → (Memᴰ r (removed_from ns w bs bs' (suc j) k) → Gone ns w bs bs' (suc j) k r) → Gone ns w bs bs' j (suc k) r
    next (inl n) ih = here (row_at bs j) (row_at bs' j) refl refl n
    next (inr n) ih =
        let g = ih n in
        let a = g.from in
        let b = g.below in
        record { number = g.number; from = omega arith; below = omega arith; d = g.d; c = g.c; t = g.t; was = g.was; e = g.e; x = g.x; is = g.is; pair = g.pair }

-- And back.
pub removed_in_lem : (ns w bs bs' : List ℕ) (j k i : ℕ) {d c t e x : ℕ} → i < k → row_at bs (j + i) ≡ Pending d c t → row_at bs' (j + i) ≡ Replaced e x
    → Memᴰ {A = Removed} (dvar e, core ns w x) (removed_from ns w bs bs' j k)
unfolding removed_from
removed_in_lem ns w bs bs' j zero i l f g = absurd (omega arith)
removed_in_lem ns w bs bs' j (suc k) zero l f g =
    let z : j + 0 ≡ j = omega arith in
    rw (ap (row_at bs) (sym z) ∙ f, ap (row_at bs') (sym z) ∙ g) (Memᴰ.head refl)
removed_in_lem ns w bs bs' j (suc k) (suc i) l f g =
    let z : suc j + i ≡ j + suc i = omega arith in
    Memᴰ.append_right (removed_row ns w (row_at bs j) (row_at bs' j)) (removed_in_lem ns w bs bs' (suc j) k i (omega arith) (ap (row_at bs) z ∙ f) (ap (row_at bs') z ∙ g))

-- ## What rows replace

-- No row of some replaces the name.
abbrev pub NoRow : List ℕ → ℕ → ℕ → DictName → Type 0
NoRow bs j k d = (i m x : ℕ) → j ≤ i → i < j + k → row_at bs i ≡ Replaced m x → d ≡ dvar m → ⊥

-- What stands for a name is v, if each row that replaces it has v, and v is the name itself where none does.
pub get_replaced : (ns w bs : List ℕ) (j k : ℕ) (d : DictName) (v : Core)
    → ((i m x : ℕ) → j ≤ i → i < j + k → row_at bs i ≡ Replaced m x → d ≡ dvar m → core ns w x ≡ v) → (NoRow bs j k d → cdict d ≡ v)
    → or_core (cdict d) (get dicts d (replaced_from ns w bs j k)) ≡ v
unfolding replaced_from get or_core
get_replaced ns w bs j zero d v h g = g (λ i m x a b e f. omega arith)
get_replaced ns w bs j (suc k) d v h g = row (row_at bs j) refl (get_replaced ns w bs (suc j) k d v (λ i m x a b. h i m x (omega arith) (omega arith)))
  where
    -- No row at all, if the first is none and none of the others is.
    all : ((m x : ℕ) → row_at bs j ≡ Replaced m x → d ≡ dvar m → ⊥) → NoRow bs (suc j) k d → NoRow bs j (suc k) d
    all z y i m x a b e f = which (dec_lt j i)
      where
        which : Dec (j < i) → ⊥
        which (yes l) = y i m x (omega arith) (omega arith) e f
        which (no l) = let u : j ≡ i = omega arith in z m x (ap (row_at bs) u ∙ e) f

    row : (q : Row) → row_at bs j ≡ q → ((NoRow bs (suc j) k d → cdict d ≡ v) → or_core (cdict d) (get dicts d (replaced_from ns w bs (suc j) k)) ≡ v)
        → or_core (cdict d) (get dicts d (with_replaced ns w q (replaced_from ns w bs (suc j) k))) ≡ v
    row (Pending a b c) e ih = ih (λ y. g (all (λ m x f. absurd (let f₁ = sym e ∙ f in let z : ◌≡◌ {A = ℕ} 0 1 = cc in omega arith)) y))
    row (Replaced a b) e ih = test (same_dict d (dvar a))
      where
        test : (c : Dec (d ≡ dvar a)) → or_core (cdict d) (if (is_yes c) (some (core ns w b)) (get dicts d (replaced_from ns w bs (suc j) k))) ≡ v
        test (yes f) = h j a b (omega arith) (omega arith) e f
        test (no n) = ih (λ y. g (all (λ m x f z. n (z ∙ ap dvar (same f))) y))
          where
            same : {m x : ℕ} → row_at bs j ≡ Replaced m x → m ≡ a
            same f = let f₁ = sym f ∙ e in cc
