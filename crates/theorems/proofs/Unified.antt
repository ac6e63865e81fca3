-- Unification: what it finds unifies and is most general; where it refuses for a definite reason nothing unifies.
use mathlib.Core.Path.{◌≡◌, refl, ap, ap₂, sym, ◌∙◌}
use mathlib.Core.Bool.{true, false, true≢false}
use mathlib.Core.List.{[]}
use mathlib.Core.Logic.{◌≢◌}
use Prim.Native.Nat.{ℕ, suc, zero}
use native.Mathlib.Omega.{arith}
use Rattle.meaning.specs.Base.{is_yes, eqb}
use Rattle.meaning.specs.Ast.{Name, same_name, TyVar, same_tyvar, Ty, Tys, var, con, arrow, nil, ◌◂◌, count_tys, size}
use Rattle.meaning.specs.Errors.{Refusal}
use Rattle.meaning.specs.Budget.{Out, Steps, depth}
use Rattle.meaning.specs.Map.{get}
use Rattle.meaning.specs.Subst.{Subst, empty, singleton, or_var, look, apply_type, compose, occurs}
use Rattle.meaning.specs.Unify.{bind_other, bind, unify_zip, unify_con, unify_arrow, unify_node, unify_in}
use Rattle.meaning.specs.Plain.{Fill, sub, subs, filled}
use Rattle.theorems.proofs.Says.{Says, Definite, after_says, step_says, if_says, weaken}
use Rattle.theorems.proofs.Tests.{is_yes_true, is_yes_false, eqb_true, eqb_false, or_cases}
use Rattle.theorems.proofs.Fills.{sub-sub, sub_var, sub_away, occurs_size, occurs_sizes, count_subs, through}
use Rattle.theorems.proofs.Types.{heads, tails, con_name, con_args, arrow_left, arrow_right, con_not_arrow}
use Rattle.theorems.proofs.Looks.{look_empty, look_same, look_other}
use Rattle.theorems.proofs.Applied.{apply_says, compose_looks}

-- ## What unification says

-- s unifies a and b, and every map that does so factors through s.
pub record Mgu (a b : Ty) (s : Subst) : Type 0 where
  pub unifies : filled s a ≡ filled s b
  pub general : (θ : Fill) → sub θ a ≡ sub θ b → (x : TyVar) → sub θ (look s x) ≡ θ x

-- Where the refusal is not a limit, no map unifies a and b.
abbrev pub NoUnifier : Ty → Ty → Refusal → Type 0
NoUnifier a b r = Definite r → (θ : Fill) → sub θ a ≡ sub θ b → ⊥

-- It does not matter which type stands left, so a variable on the right binds as one on the left.
pub Mgu_sym : {a b : Ty} {s : Subst} → Mgu a b s → Mgu b a s
Mgu_sym m = record { unifies = sym m.unifies; general = λ θ p. m.general θ (sym p) }

says_sym : (a b : Ty) (o : Out Subst) → Says (Mgu a b) (NoUnifier a b) o → Says (Mgu b a) (NoUnifier b a) o
says_sym a b o h = weaken _ _ _ _ o h (λ s m. Mgu_sym m) (λ r z d θ e. z d θ (sym e))

-- ## A variable

single_general : (θ : Fill) (v : TyVar) (t : Ty) → θ v ≡ sub θ t → (x : TyVar) → sub θ (look (singleton v t) x) ≡ θ x
unfolding sub
single_general θ v t p x = go (same_tyvar x v)
  where
    go : Dec (x ≡ v) → sub θ (look (singleton v t) x) ≡ θ x
    go (yes e) = rw e (rw (look_same v t) (sym p))
    go (no h) = rw (look_other v t x h) refl

bind_other_says : (v : TyVar) (t : Ty) → (occurs v t ≡ true → (θ : Fill) → θ v ≡ sub θ t → ⊥) → (n : ℕ) → Says (Mgu (var v) t) (NoUnifier (var v) t) (bind_other v t n)
unfolding bind_other sub
bind_other_says v t h n = if_says _ _ (occurs v t) _ _ n (λ e d. h e) λ e. record {
  unifies = look_same v t ∙ sym (sub_away (look (singleton v t)) t (λ x o. look_other v t x (apart e x o)));
  general = λ θ. single_general θ v t;
}
  where
    apart : occurs v t ≡ false → (x : TyVar) → occurs x t ≡ true → x ≢ v
    apart e x o p = true≢false (sym o ∙ ap (λ (y : TyVar). occurs y t) p ∙ e)

bind_says : (v : TyVar) (t : Ty) (n : ℕ) → Says (Mgu (var v) t) (NoUnifier (var v) t) (bind v t n)
unfolding bind sub occurs size
bind_says v (var x) n = if_says _ _ (is_yes (same_tyvar v x)) _ _ n
    (λ e. record { unifies = ap (look []) (is_yes_true (same_tyvar v x) e); general = λ θ p y. rw (look_empty y) refl })
    (λ e. bind_other_says v (var x) (λ o. absurd (is_yes_false (same_tyvar v x) e (is_yes_true (same_tyvar v x) o))) n)
bind_says v (con c ts) n = bind_other_says v (con c ts) (λ o θ p. omega (arith, ap size p, occurs_sizes v θ ts o)) n
bind_says v (arrow a b) n = bind_other_says v (arrow a b) (λ o θ p. or_cases (occurs v a) (occurs v b) o ⊥ (λ f. omega (arith, ap size p, occurs_size v θ a f)) (λ f. omega (arith, ap size p, occurs_size v θ b f))) n

-- ## One more pair

-- What unifies x and y unifies also what s makes of them, where it factors through s.
pair_back : (θ : Fill) (s : Subst) (x y a b : Ty) → a ≡ filled s x → b ≡ filled s y → ((z : TyVar) → sub θ (look s z) ≡ θ z) → sub θ x ≡ sub θ y → sub θ a ≡ sub θ b
pair_back θ s x y a b p q k e =
    let i = through θ θ (look s) (λ z. sym (k z)) x in
    let j = through θ θ (look s) (λ z. sym (k z)) y in
    cc

-- What factors through s and through what came after it factors through both.
factors : (θ : Fill) (new s all : Subst) → ((z : TyVar) → look all z ≡ filled new (look s z)) → ((z : TyVar) → sub θ (look s z) ≡ θ z) → ((z : TyVar) → sub θ (look new z) ≡ θ z)
    → (z : TyVar) → sub θ (look all z) ≡ θ z
factors θ new s all c k m z =
    let i = c z in
    let j = through θ θ (look new) (λ y. sym (m y)) (look s z) in
    let l = k z in
    cc

-- What unifies the pair that s makes of x and y unifies, after s, x and y.
pair_forth : (new s all : Subst) (x y a b : Ty) → ((z : TyVar) → look all z ≡ filled new (look s z)) → a ≡ filled s x → b ≡ filled s y → filled new a ≡ filled new b → filled all x ≡ filled all y
pair_forth new s all x y a b c p q u =
    let i = through (look all) (look new) (look s) c x in
    let j = through (look all) (look new) (look s) c y in
    cc

-- ## The arguments of a constructor

-- out unifies xs and ys and extends s, and every map that factors through s and unifies them factors through out.
record ArgsMgu (xs ys : Tys) (s out : Subst) : Type 0 where
  via : Fill
  extends : (x : TyVar) → look out x ≡ sub via (look s x)
  unifies : subs (look out) xs ≡ subs (look out) ys
  general : (θ : Fill) → ((x : TyVar) → sub θ (look s x) ≡ θ x) → subs θ xs ≡ subs θ ys → (x : TyVar) → sub θ (look out x) ≡ θ x

abbrev NoArgs : Tys → Tys → Subst → Refusal → Type 0
NoArgs xs ys s r = Definite r → (θ : Fill) → ((x : TyVar) → sub θ (look s x) ≡ θ x) → subs θ xs ≡ subs θ ys → ⊥

args_step : (x y a b : Ty) (xs ys : Tys) (s new all out : Subst) → a ≡ filled s x → b ≡ filled s y → Mgu a b new → ((z : TyVar) → look all z ≡ filled new (look s z))
    → ArgsMgu xs ys all out → ArgsMgu (x ◂ xs) (y ◂ ys) s out
unfolding sub
args_step x y a b xs ys s new all out p q m c o = record {
  via = λ z. sub o.via (look new z);
  extends = λ z. o.extends z ∙ ap (sub o.via) (c z) ∙ sub-sub o.via (look new) (look s z);
  unifies = ap₂ ◌◂◌ head o.unifies;
  general = λ θ k e. o.general θ (factors θ new s all c k (m.general θ (pair_back θ s x y a b p q k (heads _ _ _ _ e)))) (tails _ _ _ _ e);
}
  where
    head : filled out x ≡ filled out y
    head =
        let i = through (look out) o.via (look all) o.extends x in
        let j = through (look out) o.via (look all) o.extends y in
        let k = pair_forth new s all x y a b c p q m.unifies in
        cc

args_say : (u : Ty → Ty → Steps Subst) → ((a b : Ty) (n : ℕ) → Says (Mgu a b) (NoUnifier a b) (u a b n))
    → (xs ys : Tys) → count_tys xs ≡ count_tys ys → (s : Subst) (n : ℕ) → Says (ArgsMgu xs ys s) (NoArgs xs ys s) (unify_zip u xs ys s n)
unfolding unify_zip count_tys sub
args_say u h nil nil l s n = record { via = var; extends = λ x. sym (sub_var _); unifies = refl; general = λ θ k p. k }
args_say u h nil (y ◂ ys) l s n = absurd (omega (arith, l))
args_say u h (x ◂ xs) nil l s n = absurd (omega (arith, l))
args_say u h (x ◂ xs) (y ◂ ys) l s n =
    after_says _ _ _ _ (apply_type s x n) _ (apply_says depth s x n) (λ r z d. absurd (z d)) λ a p n₁.
    after_says _ _ _ _ (apply_type s y n₁) _ (apply_says depth s y n₁) (λ r z d. absurd (z d)) λ b q n₂.
    after_says _ _ _ _ (u a b n₂) _ (h a b n₂) (λ r z d θ k e. z d θ (pair_back θ s x y a b p q k (heads _ _ _ _ e))) λ new m n₃.
    after_says _ _ _ _ (compose new s n₃) _ (compose_looks new s n₃) (λ r z d. absurd (z d)) λ all c n₄.
    weaken _ _ _ _ (unify_zip u xs ys all n₄) (args_say u h xs ys (omega (arith, l)) all n₄)
    (λ out o. args_step x y a b xs ys s new all out p q m c o)
    (λ r z d θ k e. z d θ (factors θ new s all c k (m.general θ (pair_back θ s x y a b p q k (heads _ _ _ _ e)))) (tails _ _ _ _ e))

con_says : (u : Ty → Ty → Steps Subst) → ((a b : Ty) (n : ℕ) → Says (Mgu a b) (NoUnifier a b) (u a b n))
    → (c : Name) (xs : Tys) (e : Name) (ys : Tys) (n : ℕ) → Says (Mgu (con c xs) (con e ys)) (NoUnifier (con c xs) (con e ys)) (unify_con u c xs e ys n)
unfolding unify_con sub get or_var
con_says u h c xs e ys n = if_says _ _ (is_yes (same_name c e)) _ _ n
    (λ i. if_says _ _ (eqb (count_tys xs) (count_tys ys)) _ _ n
    (λ j. weaken _ _ _ _ (unify_zip u xs ys empty n) (args_say u h xs ys (eqb_true _ _ j) empty n)
    (λ out o. record { unifies = ap₂ con (is_yes_true (same_name c e) i) o.unifies; general = λ θ k. o.general θ (λ x. refl) (con_args _ _ _ _ k) })
    (λ r z d θ k. z d θ (λ x. refl) (con_args _ _ _ _ k)))
    (λ j d θ k. eqb_false _ _ j (sym (count_subs θ xs) ∙ ap count_tys (con_args _ _ _ _ k) ∙ count_subs θ ys)))
    (λ i d θ k. is_yes_false (same_name c e) i (con_name _ _ _ _ k))

-- ## Arrows

arrow_mgu : (p₁ r₁ p₂ r₂ a b : Ty) (s new all : Subst) → Mgu p₁ p₂ s → a ≡ filled s r₁ → b ≡ filled s r₂ → Mgu a b new → ((z : TyVar) → look all z ≡ filled new (look s z))
    → Mgu (arrow p₁ r₁) (arrow p₂ r₂) all
unfolding sub
arrow_mgu p₁ r₁ p₂ r₂ a b s new all m p q o c = record {
  unifies = ap₂ arrow (pair_forth new s all p₁ p₂ _ _ c refl refl (ap (filled new) m.unifies)) (pair_forth new s all r₁ r₂ a b c p q o.unifies);
  general = λ θ e. let k = m.general θ (arrow_left _ _ _ _ e) in factors θ new s all c k (o.general θ (pair_back θ s r₁ r₂ a b p q k (arrow_right _ _ _ _ e)));
}

arrow_says : (u : Ty → Ty → Steps Subst) → ((a b : Ty) (n : ℕ) → Says (Mgu a b) (NoUnifier a b) (u a b n))
    → (p₁ r₁ p₂ r₂ : Ty) (n : ℕ) → Says (Mgu (arrow p₁ r₁) (arrow p₂ r₂)) (NoUnifier (arrow p₁ r₁) (arrow p₂ r₂)) (unify_arrow u p₁ r₁ p₂ r₂ n)
unfolding unify_arrow sub
arrow_says u h p₁ r₁ p₂ r₂ n =
    after_says _ _ _ _ (u p₁ p₂ n) _ (h p₁ p₂ n) (λ r z d θ e. z d θ (arrow_left _ _ _ _ e)) λ s m n₁.
    after_says _ _ _ _ (apply_type s r₁ n₁) _ (apply_says depth s r₁ n₁) (λ r z d. absurd (z d)) λ a p n₂.
    after_says _ _ _ _ (apply_type s r₂ n₂) _ (apply_says depth s r₂ n₂) (λ r z d. absurd (z d)) λ b q n₃.
    after_says _ _ _ _ (u a b n₃) _ (h a b n₃) (λ r z d θ e. z d θ (pair_back θ s r₁ r₂ a b p q (m.general θ (arrow_left _ _ _ _ e)) (arrow_right _ _ _ _ e))) λ new o n₄.
    weaken _ _ _ _ (compose new s n₄) (compose_looks new s n₄) (λ all c. arrow_mgu p₁ r₁ p₂ r₂ a b s new all m p q o c) (λ r z d. absurd (z d))

-- ## A pair of types

node_says : (u : Ty → Ty → Steps Subst) → ((a b : Ty) (n : ℕ) → Says (Mgu a b) (NoUnifier a b) (u a b n))
    → (a b : Ty) (n : ℕ) → Says (Mgu a b) (NoUnifier a b) (unify_node u a b n)
unfolding unify_node sub
node_says u h (var v) b n = bind_says v b n
node_says u h (con c xs) (var v) n = says_sym _ _ (bind v (con c xs) n) (bind_says v (con c xs) n)
node_says u h (con c xs) (con e ys) n = con_says u h c xs e ys n
node_says u h (con c xs) (arrow a b) n = λ d θ e. con_not_arrow _ _ _ _ e
node_says u h (arrow a b) (var v) n = says_sym _ _ (bind v (arrow a b) n) (bind_says v (arrow a b) n)
node_says u h (arrow a b) (con c xs) n = λ d θ e. con_not_arrow _ _ _ _ (sym e)
node_says u h (arrow p₁ r₁) (arrow p₂ r₂) n = arrow_says u h p₁ r₁ p₂ r₂ n

-- Soundness, generality and completeness of unification in one: an answer is a most general unifier, and a refusal
-- that is not a limit says that there is none.
pub unify_says : (d : ℕ) (a b : Ty) (n : ℕ) → Says (Mgu a b) (NoUnifier a b) (unify_in d a b n)
unfolding unify_in
unify_says zero a b n = λ z. absurd z
unify_says (suc d) a b n = step_says _ _ (unify_node (λ x y. unify_in d x y) a b) (λ z. absurd z) (λ m. node_says (λ x y. unify_in d x y) (λ x y k. unify_says d x y k) a b m) n
