-- `binders_of`: of the rows that `reduce` left, those that are the first of their predicates.
use mathlib.Core.Path.{◌≡◌, refl, ap, sym, ◌∙◌}
use mathlib.Core.Bool.{Bool, true, false, not, ◌||◌}
use mathlib.Core.List.{List, [], ◌∷◌, ◌++◌}
use mathlib.Core.Option.{Option, none, some}
use Prim.Native.Nat.{ℕ, zero, suc, ◌+◌, ◌-◌, ◌<◌, ◌≤◌}
use native.Mathlib.Omega.{arith}
use Rattle.meaning.specs.Base.{if, is_yes, any, keep}
use Rattle.meaning.specs.Ast.{TyVar, Ty, var, con, arrow, Pred, pred, same_pred, dvar, Binder}
use Rattle.meaning.specs.Map.{tyvars, elem}
use Rattle.meaning.specs.Subst.{ftv_type, add}
use Rattle.meaning.specs.Reduce.{is_head_normal, contains}
use Rattle.meaning.specs.Generalize.{preds_of, with_first, binders_of, is_own}
use Rattle.names.specs.Names.{name_of}
use Rattle.ast.specs.Table.{tree}
use Rattle.supers.specs.Rows.{row_at, with_row, binders_from, binders_in}
use Rattle.supers.specs.declared.rows.Row.{Row}
use Rattle.supers.specs.declared.rows.Row.TheVariants.{Pending, Replaced}
use Rattle.reduce.specs.Reduces.{add_residual, residuals_in, Became}
use Rattle.pending.specs.Owned.{first_of, holds, add_first, firsts_from, firsts, owns, own_binder}
use Rattle.pending.proofs.Loops.{binders_snoc}
use Rattle.pending.proofs.Firsts.{first_here, first_there, first_none, first_right, none_holds, some_holds, add_known, add-new, firsts_then, first_of_firsts}

-- ## Lists of which something holds

-- P holds of each.
abbrev pub All : {A : Type 0} → (A → Type 0) → List A → Type 0
All P [] = Unit {0}
All P (x ∷ xs) = P x × All P xs

-- And of one more at the end.
pub all_snoc : {A : Type 0} (P : A → Type 0) (xs : List A) (x : A) → All P xs → P x → All P (xs ++ (x ∷ []))
all_snoc P [] x a p = (p, tt)
all_snoc P (y ∷ ys) x a p = (a.0, all_snoc P ys x a.1 p)

-- Of the parts of a list.
pub all_first : {A : Type 0} (P : A → Type 0) (xs ys : List A) → All P (xs ++ ys) → All P xs
all_first P [] ys a = tt
all_first P (x ∷ xs) ys a = (a.0, all_first P xs ys a.1)

pub all_rest : {A : Type 0} (P : A → Type 0) (xs ys : List A) → All P (xs ++ ys) → All P ys
all_rest P [] ys a = a
all_rest P (x ∷ xs) ys a = all_rest P xs ys a.1

-- The predicate is at a type variable.
abbrev pub AtVariable : Binder → Type 0
AtVariable b = is_head_normal b.1.ty ≡ true

-- A binder at a type variable.
abbrev pub waits_at_variable : Binder → Bool
waits_at_variable b = is_head_normal b.1.ty

-- What is kept passes the test.
kept_pass : (xs : List Binder) → All AtVariable (keep waits_at_variable xs)
unfolding keep
kept_pass [] = tt
kept_pass (x ∷ xs) = go (waits_at_variable x) refl (kept_pass xs)
  where
    go : (b : Bool) → waits_at_variable x ≡ b → All AtVariable (keep waits_at_variable xs) → All AtVariable (if b (x ∷ keep waits_at_variable xs) (keep waits_at_variable xs))
    go true e ih = (e, ih)
    go false e ih = ih

-- So do the firsts.
firsts_pass : (P : Binder → Type 0) (ks xs : List Binder) → All P ks → All P xs → All P (firsts_from ks xs)
unfolding firsts_from
firsts_pass P ks [] a b = a
firsts_pass P ks (x ∷ xs) a b = firsts_pass P (add_first ks x) xs (go (holds ks x.1) refl) b.1
  where
    go : (t : Bool) → holds ks x.1 ≡ t → All P (add_first ks x)
    go true e = rw (add_known ks x e) a
    go false e = rw (add-new ks x e) (all_snoc P ks x a b.0)

-- ## The first of a predicate in what is kept

-- A test of predicates that the predicate passes.
pub first_kept : (f : Binder → Bool) (xs : List Binder) (p : Pred) → ((b : Binder) → b.1 ≡ p → f b ≡ true) → first_of (keep f xs) p ≡ first_of xs p
unfolding keep
first_kept f [] p h = refl
first_kept f (x ∷ xs) p h = go (f x) refl (same_pred x.1 p) (first_kept f xs p h)
  where
    go : (b : Bool) → f x ≡ b → Dec (x.1 ≡ p) → first_of (keep f xs) p ≡ first_of xs p → first_of (if b (x ∷ keep f xs) (keep f xs)) p ≡ first_of (x ∷ xs) p
    go true e (yes d) ih = first_here x (keep f xs) p d ∙ sym (first_here x xs p d)
    go true e (no n) ih = first_there x (keep f xs) p n ∙ ih ∙ sym (first_there x xs p n)
    go false e (yes d) ih = absurd (let u = h x d in let z : ◌≡◌ {A = ℕ} 0 1 = cc in omega arith)
    go false e (no n) ih = ih ∙ sym (first_there x xs p n)

-- One that it does not pass.
pub first_dropped : (f : Binder → Bool) (xs : List Binder) (p : Pred) → ((b : Binder) → b.1 ≡ p → f b ≡ false) → first_of (keep f xs) p ≡ none
unfolding keep
first_dropped f [] p h = first_none p
first_dropped f (x ∷ xs) p h = go (f x) refl (same_pred x.1 p) (first_dropped f xs p h)
  where
    go : (b : Bool) → f x ≡ b → Dec (x.1 ≡ p) → first_of (keep f xs) p ≡ none → first_of (if b (x ∷ keep f xs) (keep f xs)) p ≡ none
    go true e (yes d) ih = absurd (let u = h x d in let z : ◌≡◌ {A = ℕ} 0 1 = cc in omega arith)
    go true e (no n) ih = first_there x (keep f xs) p n ∙ ih
    go false e d ih = ih

-- ## No two of the firsts have equal predicates

abbrev pub Apart : List Binder → Type 0
Apart [] = Unit {0}
Apart (b ∷ bs) = (first_of bs b.1 ≡ none) × Apart bs

-- One more, of another predicate than all.
apart_snoc : (ks : List Binder) (b : Binder) → Apart ks → first_of ks b.1 ≡ none → Apart (ks ++ (b ∷ []))
apart_snoc [] b a h = (first_none b.1, tt)
apart_snoc (k ∷ ks) b a h = go (same_pred k.1 b.1) (apart_snoc ks b a.1)
  where
    go : Dec (k.1 ≡ b.1) → (first_of ks b.1 ≡ none → Apart (ks ++ (b ∷ []))) → (first_of (ks ++ (b ∷ [])) k.1 ≡ none) × Apart (ks ++ (b ∷ []))
    go (yes e) ih = absurd (let u = first_here k ks b.1 e in let z : ◌≡◌ {A = ℕ} 0 1 = cc in omega arith)
    go (no n) ih = (first_right ks (b ∷ []) k.1 a.0 ∙ first_there b [] k.1 (λ e. n (sym e)) ∙ first_none k.1, ih (sym (first_there k ks b.1 n) ∙ h))

-- The firsts.
pub firsts_apart : (ks xs : List Binder) → Apart ks → Apart (firsts_from ks xs)
unfolding firsts_from
firsts_apart ks [] a = a
firsts_apart ks (x ∷ xs) a = firsts_apart (add_first ks x) xs (go (first_of ks x.1) refl)
  where
    go : (o : Option Binder) → first_of ks x.1 ≡ o → Apart (add_first ks x)
    go none e = rw (add-new ks x (none_holds ks x.1 e)) (apart_snoc ks x a e)
    go (some y) e = rw (add_known ks x (some_holds ks x.1 e)) a

-- What is not there is not kept.
none_kept : (f : Binder → Bool) (ys : List Binder) (p : Pred) → first_of ys p ≡ none → first_of (keep f ys) p ≡ none
unfolding keep
none_kept f [] p e = e
none_kept f (y ∷ ys) p e = go (f y) (same_pred y.1 p) (none_kept f ys p)
  where
    go : (b : Bool) → Dec (y.1 ≡ p) → (first_of ys p ≡ none → first_of (keep f ys) p ≡ none) → first_of (if b (y ∷ keep f ys) (keep f ys)) p ≡ none
    go b (yes d) ih = absurd (let u = first_here y ys p d in let z : ◌≡◌ {A = ℕ} 0 1 = cc in omega arith)
    go true (no n) ih = first_there y (keep f ys) p n ∙ ih (sym (first_there y ys p n) ∙ e)
    go false (no n) ih = ih (sym (first_there y ys p n) ∙ e)

-- What is kept of them.
pub keep_apart : (f : Binder → Bool) (xs : List Binder) → Apart xs → Apart (keep f xs)
unfolding keep
keep_apart f [] a = tt
keep_apart f (x ∷ xs) a = go (f x) (keep_apart f xs a.1)
  where
    go : (b : Bool) → Apart (keep f xs) → Apart (if b (x ∷ keep f xs) (keep f xs))
    go true ih = (none_kept f xs x.1 a.0, ih)
    go false ih = ih

-- Each of them is the first of its predicate.
apart_firsts : (xs : List Binder) → Apart xs → All (λ b. first_of xs b.1 ≡ some b) xs
apart_firsts [] a = tt
apart_firsts (x ∷ xs) a = (first_here x xs x.1 refl, more xs (apart_firsts xs a.1))
  where
    more : (ys : List Binder) → All (λ b. first_of xs b.1 ≡ some b) ys → All (λ b. first_of (x ∷ xs) b.1 ≡ some b) ys
    more [] b = tt
    more (y ∷ ys) b = (go (same_pred x.1 y.1), more ys b.1)
      where
        go : Dec (x.1 ≡ y.1) → first_of (x ∷ xs) y.1 ≡ some y
        go (yes d) = absurd (let u : first_of xs y.1 ≡ none = rw (sym d) a.0 in let v = b.0 in let z : ◌≡◌ {A = ℕ} 0 1 = cc in omega arith)
        go (no n) = first_there x xs y.1 n ∙ b.0

-- ## The residual predicates and their binders

-- Binders that are each the first of its predicate among ps.
binders_back : (ks ps : List Binder) → All (λ b. first_of ps b.1 ≡ some b) ks → binders_of (preds_of ks) ps ≡ ks
unfolding binders_of with_first
binders_back [] ps a = refl
binders_back (k ∷ ks) ps a = rw a.0 (ap (λ os. k ∷ os) (binders_back ks ps a.1))

-- Those at type variables, each the first of its predicate.
first_binders : (ps : List Binder) → binders_of (preds_of (firsts (keep waits_at_variable ps))) ps ≡ firsts (keep waits_at_variable ps)
first_binders ps = binders_back (firsts (keep waits_at_variable ps)) ps (both (firsts (keep waits_at_variable ps)) (apart_firsts (firsts (keep waits_at_variable ps)) (firsts_apart [] (keep waits_at_variable ps) tt)) (firsts_pass AtVariable [] (keep waits_at_variable ps) tt (kept_pass ps)))
  where
    both : (ks : List Binder) → All (λ b. first_of (firsts (keep waits_at_variable ps)) b.1 ≡ some b) ks → All AtVariable ks → All (λ b. first_of ps b.1 ≡ some b) ks
    both [] a v = tt
    both (k ∷ ks) a v =
        (sym (first_kept waits_at_variable ps k.1 (λ b e. ap (λ (p : Pred). is_head_normal p.ty) e ∙ v.0)) ∙ sym (first_of_firsts [] (keep waits_at_variable ps) k.1) ∙ a.0, both ks a.1 v.1)

-- ## The rows before and after `reduce`

-- A row is pending afterwards if its type is a variable, and only then.
abbrev pub StaysAs : List ℕ → List ℕ → Row → Row → Type 0
StaysAs ns w (Pending d c t) (Pending d' c' t') = is_head_normal (tree ns w t) ≡ true
StaysAs ns w (Pending d c t) (Replaced d' e) = is_head_normal (tree ns w t) ≡ false
StaysAs ns w (Replaced d x) (Pending d' c' t') = Unit {0}
StaysAs ns w (Replaced d x) (Replaced d' e) = Unit {0}

-- One row.
left_row : (ns w w' : List ℕ) (top' : ℕ) (r r' : Row) (xs ys : List Binder) → Became w' top' r r' → StaysAs ns w r r' → ys ≡ keep waits_at_variable xs → with_row ns w r' ys ≡ keep waits_at_variable (with_row ns w r xs)
unfolding keep
left_row ns w w' top' (Pending d c t) (Pending d' c' t') xs ys b s e = ap (λ z. with_row ns w z ys) b ∙ rw (s, e) refl
left_row ns w w' top' (Pending d c t) (Replaced d' x) xs ys b s e = rw s e
left_row ns w w' top' (Replaced d x) (Pending d' c' t') xs ys b s e = absurd b
left_row ns w w' top' (Replaced d x) (Replaced d' x') xs ys b s e = e

-- The binders that are left are those at type variables.
pub left_rows : (ns w w' bs bs' : List ℕ) (top' j k : ℕ) → ((i : ℕ) → j ≤ i → i < j + k → Became w' top' (row_at bs i) (row_at bs' i)) → ((i : ℕ) → j ≤ i → i < j + k → StaysAs ns w (row_at bs i) (row_at bs' i))
    → binders_from ns w bs' j k ≡ keep waits_at_variable (binders_from ns w bs j k)
unfolding binders_from keep
left_rows ns w w' bs bs' top' j zero b s = refl
left_rows ns w w' bs bs' top' j (suc k) b s =
    left_row ns w w' top' (row_at bs j) (row_at bs' j) (binders_from ns w bs (suc j) k) (binders_from ns w bs' (suc j) k) (b j (omega arith) (omega arith)) (s j (omega arith) (omega arith))
    (left_rows ns w w' bs bs' top' (suc j) k (λ i p q. b i (omega arith) (omega arith)) (λ i p q. s i (omega arith) (omega arith)))

-- A predicate among those of binders.
contains_holds : (ks : List Binder) (p : Pred) → contains (preds_of ks) p ≡ holds ks p
unfolding contains any
contains_holds [] p = refl
contains_holds (k ∷ ks) p = ap (λ b. if (is_yes (same_pred k.1 p)) true b) (contains_holds ks p)

-- The predicates of two lists.
preds_both : (xs ys : List Binder) → preds_of (xs ++ ys) ≡ preds_of xs ++ preds_of ys
preds_both [] ys = refl
preds_both (x ∷ xs) ys = ap (λ ps. x.1 ∷ ps) (preds_both xs ys)

-- One row's residual.
residual_row : (ns w w' : List ℕ) (top' : ℕ) (r r' : Row) (ks : List Binder) → Became w' top' r r' → add_residual ns w r r' (preds_of ks) ≡ preds_of (firsts_from ks (with_row ns w r' []))
unfolding firsts_from add_first
residual_row ns w w' top' (Pending d c t) (Pending d' c' t') ks b =
    rw (contains_holds ks (pred (name_of ns c) (tree ns w t))) (go (holds ks (pred (name_of ns c) (tree ns w t)))) ∙ sym (ap (λ z. preds_of (firsts_from ks (with_row ns w z []))) b)
  where
    go : (t₁ : Bool) → if t₁ (preds_of ks) (preds_of ks ++ (pred (name_of ns c) (tree ns w t) ∷ [])) ≡ preds_of (if t₁ ks (ks ++ ((dvar d, pred (name_of ns c) (tree ns w t)) ∷ [])))
    go true = refl
    go false = sym (preds_both ks ((dvar d, pred (name_of ns c) (tree ns w t)) ∷ []))
residual_row ns w w' top' (Pending d c t) (Replaced d' x) ks b = refl
residual_row ns w w' top' (Replaced d x) (Pending d' c' t') ks b = absurd b
residual_row ns w w' top' (Replaced d x) (Replaced d' x') ks b = refl

-- What `reduce` leaves are the predicates of the firsts.
pub residuals_are : (ns w w' bs bs' : List ℕ) (top' n : ℕ) → ((i : ℕ) → i < n → Became w' top' (row_at bs i) (row_at bs' i)) → residuals_in ns w bs bs' n ≡ preds_of (firsts (binders_in ns w bs' 0 n))
unfolding residuals_in firsts_from binders_from
residuals_are ns w w' bs bs' top' zero b = refl
residuals_are ns w w' bs bs' top' (suc n) b =
    ap (add_residual ns w (row_at bs n) (row_at bs' n)) (residuals_are ns w w' bs bs' top' n (λ i h. b i (omega arith)))
    ∙ residual_row ns w w' top' (row_at bs n) (row_at bs' n) (firsts (binders_in ns w bs' 0 n)) (b n (omega arith))
    ∙ sym (ap (λ os. preds_of (firsts os)) (binders_snoc ns w bs' 0 n (omega arith)) ∙ ap preds_of (firsts_then [] (binders_in ns w bs' 0 n) (with_row ns w (row_at bs' n) [])))

-- `binders_of` gives the firsts of the rows that are left.
pub found_binders : (ns w w' bs bs' : List ℕ) (top' n : ℕ) → ((i : ℕ) → i < n → Became w' top' (row_at bs i) (row_at bs' i)) → ((i : ℕ) → i < n → StaysAs ns w (row_at bs i) (row_at bs' i))
    → binders_of (residuals_in ns w bs bs' n) (binders_in ns w bs 0 n) ≡ firsts (binders_in ns w bs' 0 n)
found_binders ns w w' bs bs' top' n b s =
    let e : binders_in ns w bs' 0 n ≡ keep waits_at_variable (binders_in ns w bs 0 n) = left_rows ns w w' bs bs' top' 0 (n - 0) (λ i p q. b i (omega arith)) (λ i p q. s i (omega arith)) in
    ap (λ ps. binders_of ps (binders_in ns w bs 0 n)) (residuals_are ns w w' bs bs' top' n b) ∙ rw e (first_binders (binders_in ns w bs 0 n))

-- ## `is_own` at a type variable

one_variable : (f : TyVar → Bool) (x : TyVar) → any f (ftv_type (var x) []) ≡ f x
unfolding ftv_type add elem any
one_variable f x = go (f x)
  where
    go : (b : Bool) → if b true false ≡ b
    go true = refl
    go false = refl

-- It is what `owns` says of the type.
pub own_at_variable : (fs es : List TyVar) (b : Binder) → AtVariable b → is_own fs es b ≡ own_binder fs es b
unfolding is_own owns is_head_normal
own_at_variable fs es b h = go b.1.ty h
  where
    go : (a : Ty) → is_head_normal a ≡ true → (any (λ v. elem tyvars v fs) (ftv_type a []) || any (λ v. not (elem tyvars v es)) (ftv_type a [])) ≡ owns fs es a
    go (var x) k = rw (one_variable (λ v. elem tyvars v fs) x, one_variable (λ v. not (elem tyvars v es)) x) refl
    go (con c ts) k = cc
    go (arrow a₁ a₂) k = cc

-- So of binders at type variables both keep the same.
pub keep_own : (fs es : List TyVar) (g : Bool → Bool) (xs : List Binder) → All AtVariable xs → keep (λ b. g (is_own fs es b)) xs ≡ keep (λ b. g (own_binder fs es b)) xs
unfolding keep
keep_own fs es g [] a = refl
keep_own fs es g (x ∷ xs) a = rw (own_at_variable fs es x a.0, keep_own fs es g xs a.1) refl

-- The binders that were found are at type variables.
pub found_variables : (ns w w' bs bs' : List ℕ) (top' n : ℕ) → ((i : ℕ) → i < n → Became w' top' (row_at bs i) (row_at bs' i)) → ((i : ℕ) → i < n → StaysAs ns w (row_at bs i) (row_at bs' i))
    → All AtVariable (firsts (binders_in ns w bs' 0 n))
found_variables ns w w' bs bs' top' n b s =
    let e : binders_in ns w bs' 0 n ≡ keep waits_at_variable (binders_in ns w bs 0 n) = left_rows ns w w' bs bs' top' 0 (n - 0) (λ i p q. b i (omega arith)) (λ i p q. s i (omega arith)) in
    rw e (firsts_pass AtVariable [] (keep waits_at_variable (binders_in ns w bs 0 n)) tt (kept_pass (binders_in ns w bs 0 n)))
