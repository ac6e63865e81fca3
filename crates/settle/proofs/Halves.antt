-- `generalize_binding` and `finalize_expr` in two halves: what is settled, and canonical names.
use mathlib.Core.Path.{◌≡◌, refl, ap, ◌∙◌}
use mathlib.Core.Bool.{Bool, true, false, not, ◌||◌, false≢true}
use mathlib.Core.List.{List, [], ◌∷◌, Memᴰ}
use Prim.Native.Nat.{ℕ}
use Rattle.meaning.specs.Base.{if, keep, any}
use Rattle.meaning.specs.Ast.{TyVar, Ty, var, con, arrow, Pred, Core, Binder}
use Rattle.meaning.specs.Budget.{Out, done, refused, Steps, after}
use Rattle.meaning.specs.Map.{tyvars, elem}
use Rattle.meaning.specs.Subst.{ftv_type, add}
use Rattle.meaning.specs.Classes.{ClassEnv}
use Rattle.meaning.specs.Reduce.{Discharged, is_head_normal, reduce, simplify_context}
use Rattle.meaning.specs.Cores.{subst_core}
use Rattle.meaning.specs.Generalize.{Pending, Env, env_ftv, preds_of, fill_discharged, binders_of, fill_aliases, fill_removed, simplified, is_own, generalize_binding, finalize_expr}
use Rattle.theorems.proofs.Residuals.{firsts}
use Rattle.theorems.proofs.FirstRows.{firsts_out}
use Rattle.theorems.proofs.SubMap.{split_of}
use Rattle.pending.specs.Owned.{owns, own_binder}
use Rattle.settle.specs.Settles.{settled, generalized, finalized}

-- ## What follows an outcome

-- One computation after an outcome is two, if it is two after every answer.
one_two : {A B C : Type 0} (o : Out A) (f : A → Steps C) (f' : A → Steps B) (g' : B → Steps C) → ((a : A) (l : ℕ) → f a l ≡ after (f' a l) g') → after o f ≡ after (after o f') g'
unfolding after
one_two (done a n) f f' g' h = h a n
one_two (refused r n) f f' g' h = refl

-- Two are two others.
two_two : {A B C D : Type 0} (o : Out A) (f : A → Steps B) (g : B → Steps D) (f' : A → Steps C) (g' : C → Steps D) → ((a : A) (l : ℕ) → after (f a l) g ≡ after (f' a l) g') → after (after o f) g ≡ after (after o f') g'
unfolding after
two_two (done a n) f g f' g' h = h a n
two_two (refused r n) f g f' g' h = refl

-- ## The halves

-- `generalize_binding` settles, tests for ambiguous predicates and gives canonical names.
pub generalize_is : (ce : ClassEnv) (env : Env) (ty : Ty) (ps : Pending) (e : Core) (n : ℕ)
    → generalize_binding ce env ty ps e n ≡ after (settled ce (is_own (ftv_type ty []) (env_ftv env)) ps e n) (generalized env ty)
unfolding generalize_binding simplified settled generalized after
generalize_is ce env ty ps e n = one_two (reduce ce [] (preds_of ps) n) _ _ _ λ o m.
    two_two (simplify_context ce (keep (is_own (ftv_type ty []) (env_ftv env)) (binders_of o.1 ps)) m) _ _ _ _ λ r l.
    two_two (subst_core e (fill_removed r.1 (fill_aliases (keep (is_own (ftv_type ty []) (env_ftv env)) (binders_of o.1 ps)) ps (fill_discharged o.0 ps []))) l) _ _ _ _ λ e₁ k. refl

-- All binders pass a test that always holds.
keep_all : (bs : Pending) → keep (λ b. true) bs ≡ bs
unfolding keep
keep_all [] = refl
keep_all (b ∷ bs) = ap (λ (l : Pending). b ∷ l) (keep_all bs)

-- `finalize_expr` settles and gives canonical names.
pub finalize_is : (ce : ClassEnv) (ty : Ty) (ps : Pending) (e : Core) (n : ℕ) → finalize_expr ce ty ps e n ≡ after (settled ce (λ b. true) ps e n) (finalized ty)
unfolding finalize_expr simplified settled finalized after
finalize_is ce ty ps e n = one_two (reduce ce [] (preds_of ps) n) _ _ _ λ o m.
    rw (keep_all (binders_of o.1 ps))
    (two_two (simplify_context ce (binders_of o.1 ps) m) _ _ _ _ λ r l.
    two_two (subst_core e (fill_removed r.1 (fill_aliases (binders_of o.1 ps) ps (fill_discharged o.0 ps []))) l) _ _ _ _ λ e₁ k. refl)

-- ## Tests that agree on what `reduce` leaves

-- The same binders pass both tests.
pub keep_same : (f g : Binder → Bool) (bs : Pending) → ((b : Binder) → Memᴰ b bs → f b ≡ g b) → keep f bs ≡ keep g bs
unfolding keep
keep_same f g [] h = refl
keep_same f g (b ∷ bs) h = rw (h b (Memᴰ.head refl), keep_same f g bs (λ c m. h c (Memᴰ.tail m))) refl

-- Two tests agree on binders whose types are variables.
abbrev pub Agree : (Binder → Bool) → (Binder → Bool) → Type 0
Agree f g = (b : Binder) → is_head_normal b.1.ty ≡ true → f b ≡ g b

-- They keep the same of what `reduce` leaves.
pub keep-agree : (f g : Binder → Bool) (ps : Pending) → Agree f g → keep f (firsts [] ps) ≡ keep g (firsts [] ps)
keep-agree f g ps h = keep_same f g (firsts [] ps) (λ b m. h b (firsts_out [] ps b m).variable_typed)

-- So they settle the same.
pub settled-agree : (ce : ClassEnv) (f g : Binder → Bool) (ps : Pending) (e : Core) (n : ℕ) → Agree f g → settled ce f ps e n ≡ settled ce g ps e n
unfolding settled after
settled-agree ce f g ps e n h = go (reduce ce [] (preds_of ps) n) refl
  where
    go : (o : Out (List Discharged × List Pred)) → reduce ce [] (preds_of ps) n ≡ o → settled ce f ps e n ≡ settled ce g ps e n
    go (refused r m) i = rw i refl
    go (done o m) i =
        let s = (split_of ce ps n m o i).2 in
        let k = keep-agree f g ps h in
        let l = keep-agree (λ b. not (f b)) (λ b. not (g b)) ps (λ b t. ap not (h b t)) in
        rw (i, s, k, l) refl

-- ## Whether a binder is one's own

-- A test of one variable.
one_var : (f g : TyVar → Bool) (x : TyVar) → (any f (x ∷ []) || any g (x ∷ [])) ≡ (f x || g x)
unfolding any
one_var f g x = go (f x) (g x)
  where
    go : (a b : Bool) → (if a true false || if b true false) ≡ (a || b)
    go true true = refl
    go true false = refl
    go false true = refl
    go false false = refl

-- At a variable both tests are the same.
pub own_is : (fs es : List TyVar) → Agree (is_own fs es) (own_binder fs es)
unfolding is_own owns is_head_normal ftv_type add elem
own_is fs es b h = go b.1.ty h
  where
    go : (t : Ty) → is_head_normal t ≡ true → (any (λ v. elem tyvars v fs) (ftv_type t []) || any (λ v. not (elem tyvars v es)) (ftv_type t [])) ≡ owns fs es t
    go (var x) e = one_var (λ v. elem tyvars v fs) (λ v. not (elem tyvars v es)) x
    go (con c ts) e = absurd (false≢true e)
    go (arrow a b) e = absurd (false≢true e)

-- A test that holds if its second half does.
or_true : (b : Bool) → (b || true) ≡ true
or_true true = refl
or_true false = refl

-- Without an environment every binder at a variable is one's own.
pub own_alone : (fs : List TyVar) → Agree (is_own fs []) (λ b. true)
unfolding owns is_head_normal elem
own_alone fs b h = own_is fs [] b h ∙ go b.1.ty
  where
    go : (t : Ty) → owns fs [] t ≡ true
    go (var x) = or_true (elem tyvars x fs)
    go (con c ts) = refl
    go (arrow a b) = refl

-- So settling without an environment defers nothing.
pub settled_alone : (ce : ClassEnv) (fs : List TyVar) (ps : Pending) (e : Core) (n : ℕ) → settled ce (is_own fs []) ps e n ≡ settled ce (λ b. true) ps e n
settled_alone ce fs ps e n = settled-agree ce (is_own fs []) (λ b. true) ps e n (own_alone fs)
