-- The cut forms of `infer_abs`, `infer_app` and `infer_let` are the definitions.
use mathlib.Core.Path.{◌≡◌, refl, ap, sym, ◌∙◌}
use mathlib.Core.List.{◌++◌}
use Prim.Native.Nat.{ℕ}
use Rattle.meaning.specs.Ast.{Name, TyVar, var, arrow, Expr, Core, capp, clet}
use Rattle.meaning.specs.Budget.{Out, done, refused, Steps, after}
use Rattle.meaning.specs.Subst.{Subst, apply_type, apply_preds_pending, compose}
use Rattle.meaning.specs.Unify.{unify}
use Rattle.meaning.specs.Classes.{ClassEnv}
use Rattle.meaning.specs.Generalize.{Pending, generalize_binding}
use Rattle.meaning.specs.Infer.{State, Run, ◌>>=◌, pure, lift, fresh_tyvar, ask_env, env_insert, env_restore, apply_env, mono, Inferred, infer_abs, infer_app, infer_let}
use Rattle.compose.proofs.Hand.{after-after}
use Rattle.ends.specs.Ends.{joined}
use Rattle.inferred.specs.Parts.{abs_close, app_last, app_close, let_close, abs_body, app_arg, let_body, let_general, let_mid}

-- Under what follows.
pub after_same : {A B : Type 0} (o : Out A) (f g : A → Steps B) → ((a : A) (n : ℕ) → f a n ≡ g a n) → after o f ≡ after o g
unfolding after
after_same (done a n) f g h = h a n
after_same (refused r n) f g h = refl

-- A computation without the state, and then another, with the state: one line of a block.
pub lift_line : {A B : Type 0} (st : State) (o : Out A) (f : A → Steps B) (g : A → Run B) → ((a : A) (n : ℕ) → after {A = B} {B = B × State} (f a n) (λ b. done (b, st)) ≡ g a st n)
    → after {A = B} {B = B × State} (after o f) (λ b. done (b, st)) ≡ after {A = A × State} (after {A = A} {B = A × State} o (λ a. done (a, st))) (λ r. g r.0 r.1)
unfolding after
lift_line st (done a n) f g h = h a n
lift_line st (refused r n) f g h = refl

-- `infer_abs`, cut after the variable.
pub abs_cut : (infer : Expr → Run Inferred) (x : Name) (body : Expr) (st : State) (n : ℕ)
    → infer_abs infer x body st n ≡ (◌>>=◌ fresh_tyvar (λ a. abs_body infer x a body)) st n
unfolding infer_abs abs_body abs_close after
abs_cut infer x body st n =
    after_same (fresh_tyvar st n) _ _ λ a m.
    after_same (env_insert x (mono (var a.0)) a.1 m) _ _ λ prev m₁.
    after_same (infer body prev.1 m₁) _ _ λ r m₂.
    after_same (env_restore x prev.0 r.1 m₂) _ _ λ z m₃.
    sym (lift_line z.1 (apply_type r.0.0 (var a.0) m₃) _ _ (λ u m₄. refl))

-- The end of an application, line by line.
app_lines : (a : TyVar) (f x : Inferred) (st : State) (n : ℕ) → lift (app_close a f x) st n ≡ (do
  f-ty₂ ← lift (apply_type x.0 f.1)
  s₃ ← lift (unify f-ty₂ (arrow x.1 (var a)))
  s₂₁ ← lift (compose x.0 f.0)
  s ← lift (compose s₃ s₂₁)
  u ← lift (apply_type s₃ (var a))
  ps ← lift (apply_preds_pending s f.2)
  qs ← lift (apply_preds_pending s x.2)
  pure (s, u, ps ++ qs, capp f.3 x.3)) st n
unfolding app_close app_last joined after
app_lines a f x st n =
    ap (λ (o : Out Inferred). after o (λ b. done (b, st))) (after-after (apply_type x.0 f.1 n) _ _) ∙
    lift_line st (apply_type x.0 f.1 n) _ _ λ t n₁.
    ap (λ (o : Out Inferred). after o (λ b. done (b, st))) (after-after (unify t (arrow x.1 (var a)) n₁) _ _) ∙
    lift_line st (unify t (arrow x.1 (var a)) n₁) _ _ λ s₃ n₂.
    ap (λ (o : Out Inferred). after o (λ b. done (b, st))) (after-after (compose x.0 f.0 n₂) _ _) ∙
    lift_line st (compose x.0 f.0 n₂) _ _ λ s₂₁ n₃.
    ap (λ (o : Out Inferred). after o (λ b. done (b, st))) (after-after (compose s₃ s₂₁ n₃) _ _) ∙
    lift_line st (compose s₃ s₂₁ n₃) _ _ λ s n₄.
    ap (λ (o : Out Inferred). after o (λ b. done (b, st))) (after-after (apply_type s₃ (var a) n₄) _ _) ∙
    lift_line st (apply_type s₃ (var a) n₄) _ _ λ u n₅.
    lift_line st (apply_preds_pending s f.2 n₅) _ _ λ ps n₆.
    lift_line st (apply_preds_pending s x.2 n₆) _ _ λ qs n₇.
    refl

-- `infer_app`, cut after the function.
pub app_cut : (infer : Expr → Run Inferred) (f x : Expr) (st : State) (n : ℕ)
    → infer_app infer f x st n ≡ (do
      a ← fresh_tyvar
      r ← infer f
      app_arg infer a r x) st n
unfolding infer_app app_arg
app_cut infer f x st n =
    after_same (fresh_tyvar st n) _ _ λ a m.
    after_same (infer f a.1 m) _ _ λ r m₁.
    after_same (apply_env r.0.0 r.1 m₁) _ _ λ z m₂.
    after_same (infer x z.1 m₂) _ _ λ q m₃.
    sym (app_lines a.0 r.0 q.0 q.1 m₃)

-- The end of a let, line by line.
let_lines : (v : Name) (s₁ : Subst) (c₁ : Core) (deferred : Pending) (r : Inferred) (st : State) (n : ℕ) → lift (let_close v s₁ c₁ deferred r) st n ≡ (do
  qs ← lift (apply_preds_pending r.0 deferred)
  s ← lift (compose r.0 s₁)
  pure (s, r.1, qs ++ r.2, clet v c₁ r.3)) st n
unfolding let_close after
let_lines v s₁ c₁ deferred r st n =
    lift_line st (apply_preds_pending r.0 deferred n) _ _ λ qs n₁.
    lift_line st (compose r.0 s₁ n₁) _ _ λ s n₂.
    refl

-- `infer_let`, cut after what it binds.
pub let_cut : (ce : ClassEnv) (infer : Expr → Run Inferred) (v : Name) (e₁ e₂ : Expr) (st : State) (n : ℕ)
    → infer_let ce infer v e₁ e₂ st n ≡ (◌>>=◌ (infer e₁) (λ r. let_mid ce infer v r e₂)) st n
unfolding infer_let let_mid let_general let_body
let_cut ce infer v e₁ e₂ st n =
    after_same (infer e₁ st n) _ _ λ r m.
    sym (after-after (apply_env r.0.0 r.1 m) _ _ ∙
    after_same (apply_env r.0.0 r.1 m) _ _ λ z m₁.
    after-after (lift (apply_preds_pending r.0.0 r.0.2) z.1 m₁) _ _ ∙
    after_same (lift (apply_preds_pending r.0.0 r.0.2) z.1 m₁) _ _ λ ps m₂.
    after-after (ask_env ps.1 m₂) _ _ ∙
    after_same (ask_env ps.1 m₂) _ _ λ env m₃.
    after_same (lift (generalize_binding ce env.0 r.0.1 ps.0 r.0.3) env.1 m₃) _ _ λ g m₄.
    after_same (env_insert v g.0.0 g.1 m₄) _ _ λ prev m₅.
    after_same (infer e₂ prev.1 m₅) _ _ λ q m₆.
    after_same (env_restore v prev.0 q.1 m₆) _ _ λ y m₇.
    let_lines v r.0.0 g.0.1 g.0.2 q.0 y.1 m₇)
