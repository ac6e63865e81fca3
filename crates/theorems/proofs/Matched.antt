-- Matching: what it finds has just the pairs that a map needs to take the pattern to the type.
use mathlib.Core.Path.{◌≡◌, refl, ap, ap₂, sym, ◌∙◌}
use mathlib.Core.Bool.{Bool, true, false, ◌||◌, ◌&&◌, false≢true}
use mathlib.Core.List.{[]}
use mathlib.Core.Option.{Option, none, some}
use Prim.Native.Nat.{ℕ, suc, zero}
use native.Mathlib.Omega.{arith}
use Rattle.meaning.specs.Base.{is_yes, if, eqb}
use Rattle.meaning.specs.Ast.{Name, same_name, TyVar, same_tyvar, Ty, Tys, var, con, arrow, nil, ◌◂◌, count_tys}
use Rattle.meaning.specs.Errors.{Refusal, unification_failure}
use Rattle.meaning.specs.Budget.{Steps, refuse}
use Rattle.meaning.specs.Map.{tyvars, get}
use Rattle.meaning.specs.Subst.{Subst, singleton, or_var, look, merge, occurs, occurs_in}
use Rattle.meaning.specs.Unify.{match_zip, match_node, match_in}
use Rattle.meaning.specs.Plain.{Fill, sub, subs, filled}
use Rattle.theorems.proofs.Says.{Says, Definite, after_says, step_says, weaken}
use Rattle.theorems.proofs.Tests.{eqb_of, eqb_true}
use Rattle.theorems.proofs.Types.{heads, tails, con_name, con_args, arrow_left, arrow_right, con_not_var, arrow_not_var, con_not_arrow}
use Rattle.theorems.proofs.Fills.{count_subs}
use Rattle.theorems.proofs.Joins.{Holds, is_some, has, Joined, merge_says}
use Rattle.theorems.proofs.Looks.{look_same}

-- The substitution has just the pairs that a map needs to take the pattern to the type, and names just the pattern's
-- variables.
pub record Exact (p t : Ty) (s : Subst) : Type 0 where
  pub to : (θ : Fill) → Holds θ s → sub θ p ≡ t
  pub of : (θ : Fill) → sub θ p ≡ t → Holds θ s
  pub own : Holds (look s) s
  pub names : (x : TyVar) → has x s ≡ occurs x p

-- No map takes the pattern to the type.
abbrev pub NoMatch : Ty → Ty → Refusal → Type 0
NoMatch p t r = Definite r → (θ : Fill) → sub θ p ≡ t → ⊥

-- A matcher of types, as `match_zip` and `match_node` are given it.
abbrev Matcher : (Ty → Ty → Steps Subst) → Type 0
Matcher m = (p t : Ty) (n : ℕ) → Says (Exact p t) (NoMatch p t) (m p t n)

or_assoc : (a b c : Bool) → ((a || b) || c) ≡ (a || (b || c))
or_assoc true b c = refl
or_assoc false b c = refl

-- The same of arguments, beside what the arguments before them gave.
record Zipped (xs ys : Tys) (s out : Subst) : Type 0 where
  to : (θ : Fill) → Holds θ out → Holds θ s × (subs θ xs ≡ ys)
  of : (θ : Fill) → Holds θ s → subs θ xs ≡ ys → Holds θ out
  own : Holds (look out) out
  names : (x : TyVar) → has x out ≡ (has x s || occurs_in x xs)

abbrev NoZip : Tys → Tys → Subst → Refusal → Type 0
NoZip xs ys s r = Definite r → (θ : Fill) → Holds θ s → subs θ xs ≡ ys → ⊥

or_nothing : (b : Bool) → b ≡ (b || false)
or_nothing true = refl
or_nothing false = refl

zip_says : (m : Ty → Ty → Steps Subst) → Matcher m → (xs ys : Tys) → count_tys xs ≡ count_tys ys → (s : Subst) → Holds (look s) s → (n : ℕ)
    → Says (Zipped xs ys s) (NoZip xs ys s) (match_zip m xs ys s n)
unfolding match_zip count_tys sub occurs
zip_says m h nil nil l s w n = record { to = λ θ k. (k, refl); of = λ θ k q. k; own = w; names = λ x. or_nothing (has x s) }
zip_says m h nil (y ◂ ys) l s w n = absurd (omega (arith, l))
zip_says m h (x ◂ xs) nil l s w n = absurd (omega (arith, l))
zip_says m h (x ◂ xs) (y ◂ ys) l s w n =
    after_says _ _ _ _ (m x y n) _ (h x y n) (λ r z d θ f q. z d θ (heads _ _ _ _ q)) λ new e n₁.
    after_says _ _ _ _ (merge s new n₁) _ (merge_says s new w e.own n₁) (λ r z d θ f q. z d θ f (e.of θ (heads _ _ _ _ q))) λ all j n₂.
    weaken _ _ _ _ (match_zip m xs ys all n₂) (zip_says m h xs ys (omega (arith, l)) all j.own n₂)
    (λ out o. record {
      to = λ θ f. let a = o.to θ f in let b = j.to θ a.0 in (b.0, ap₂ ◌◂◌ (e.to θ b.1) a.1);
      of = λ θ f q. o.of θ (j.of θ f (e.of θ (heads _ _ _ _ q))) (tails _ _ _ _ q);
      own = o.own;
      names = λ v. o.names v ∙ named v new all e j;
    })
    (λ r z d θ f q. z d θ (j.of θ f (e.of θ (heads _ _ _ _ q))) (tails _ _ _ _ q))
  where
    named : (v : TyVar) (new all : Subst) → Exact x y new → Joined s new all → (has v all || occurs_in v xs) ≡ (has v s || (occurs v x || occurs_in v xs))
    named v new all e j = ap (λ (b : Bool). b || occurs_in v xs) (j.names v ∙ ap (λ (b : Bool). has v s || b) (e.names v)) ∙ or_assoc (has v s) (occurs v x) (occurs_in v xs)

con_says : (m : Ty → Ty → Steps Subst) → Matcher m → (c e : Name) (xs ys : Tys) (i : Dec (c ≡ e)) (b : Bool) → eqb (count_tys xs) (count_tys ys) ≡ b → (n : ℕ)
    → Says (Exact (con c xs) (con e ys)) (NoMatch (con c xs) (con e ys)) (if (is_yes i && b) (match_zip m xs ys []) (refuse (unification_failure (con c xs) (con e ys))) n)
unfolding sub occurs has get is_some
con_says m h c e xs ys (no i) b k n = λ _ θ q. i (con_name _ _ _ _ q)
con_says m h c e xs ys (yes i) false k n = λ _ θ q. false≢true (sym k ∙ eqb_of (count_tys xs) (count_tys ys) (sym (count_subs θ xs) ∙ ap count_tys (con_args _ _ _ _ q)))
con_says m h c e xs ys (yes i) true k n =
    weaken _ _ _ _ (match_zip m xs ys [] n) (zip_says m h xs ys (eqb_true (count_tys xs) (count_tys ys) k) [] tt n)
    (λ out o. record {
      to = λ θ f. ap₂ con i (o.to θ f).1;
      of = λ θ q. o.of θ tt (con_args _ _ _ _ q);
      own = o.own;
      names = o.names;
    })
    (λ r z d θ q. z d θ tt (con_args _ _ _ _ q))

has_one : (x v : TyVar) (t : Ty) → has x (singleton v t) ≡ occurs x (var v)
unfolding has get occurs is_some
has_one x v t = go (same_tyvar x v)
  where
    go : (c : Dec (x ≡ v)) → is_some (if (is_yes c) (some t) none) ≡ is_yes c
    go (yes e) = refl
    go (no h) = refl

node_says : (m : Ty → Ty → Steps Subst) → Matcher m → (p t : Ty) (n : ℕ) → Says (Exact p t) (NoMatch p t) (match_node m p t n)
unfolding match_node sub occurs
node_says m h (var v) t n = record { to = λ θ f. f.0; of = λ θ e. (e, tt); own = (look_same v t, tt); names = λ x. has_one x v t }
node_says m h (con c xs) (var v) n = λ _ θ e. con_not_var _ _ _ e
node_says m h (con c xs) (con e ys) n = con_says m h c e xs ys (same_name c e) (eqb (count_tys xs) (count_tys ys)) refl n
node_says m h (con c xs) (arrow a b) n = λ _ θ e. con_not_arrow _ _ _ _ e
node_says m h (arrow a b) (var v) n = λ _ θ e. arrow_not_var _ _ _ e
node_says m h (arrow a b) (con c xs) n = λ _ θ e. con_not_arrow _ _ _ _ (sym e)
node_says m h (arrow a b) (arrow c d) n =
    after_says _ _ _ _ (m a c n) _ (h a c n) (λ r z i θ q. z i θ (arrow_left _ _ _ _ q)) λ s₁ e₁ n₁.
    after_says _ _ _ _ (m b d n₁) _ (h b d n₁) (λ r z i θ q. z i θ (arrow_right _ _ _ _ q)) λ s₂ e₂ n₂.
    weaken _ _ _ _ (merge s₁ s₂ n₂) (merge_says s₁ s₂ e₁.own e₂.own n₂)
    (λ out j. record {
      to = λ θ f. let k = j.to θ f in ap₂ arrow (e₁.to θ k.0) (e₂.to θ k.1);
      of = λ θ q. j.of θ (e₁.of θ (arrow_left _ _ _ _ q)) (e₂.of θ (arrow_right _ _ _ _ q));
      own = j.own;
      names = λ x. j.names x ∙ ap₂ ◌||◌ (e₁.names x) (e₂.names x);
    })
    (λ r z i θ q. z i θ (e₁.of θ (arrow_left _ _ _ _ q)) (e₂.of θ (arrow_right _ _ _ _ q)))

-- An answer of matching is exact; where it refuses at no limit, no map takes the pattern to the type.
pub match_says : (d : ℕ) (p t : Ty) (n : ℕ) → Says (Exact p t) (NoMatch p t) (match_in d p t n)
unfolding match_in
match_says zero p t n = λ z. absurd z
match_says (suc d) p t n = step_says _ _ (match_node (λ x y. match_in d x y) p t) (λ z. absurd z) (node_says (λ x y. match_in d x y) (λ x y m. match_says d x y m) p t) n

-- The answer itself takes the pattern to the type.
pub match_fills : {p t : Ty} {s : Subst} → Exact p t s → filled s p ≡ t
match_fills {p} {t} {s} e = e.to (look s) e.own

-- It leaves each variable that is not the pattern's.
pub match_stays : {p t : Ty} {s : Subst} → Exact p t s → (x : TyVar) → occurs x p ≡ false → look s x ≡ var x
unfolding has
match_stays {p} {t} {s} e x h = go (get tyvars x s) (e.names x ∙ h)
  where
    go : (o : Option Ty) → is_some o ≡ false → or_var x o ≡ var x
    go none i = unfold or_var in refl
    go (some u) i = unfold is_some in absurd (false≢true (sym i))
