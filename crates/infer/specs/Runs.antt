-- Ends of inference's members, with the state.
use Rattle.std.proofs.Math.Option.{Option}
use Rattle.meaning.specs.Ast.{Name, TyVar, Scheme, Core}
use Rattle.meaning.specs.Subst.{Subst}
use Rattle.meaning.specs.Generalize.{Pending}
use Rattle.meaning.specs.Infer.{Run, ◌>>=◌, pure, lift, env_restore, Inferred}
use Rattle.inferred.specs.Parts.{abs_close, app_close, let_close}

-- Nothing more is asked.
abbrev pub Nothing : Unit {0} → Type 0
Nothing x = Unit {0}

-- A literal's answer.
abbrev pub literal : Inferred → Run Inferred
literal r = pure r

-- One inference, and then the rest.
abbrev pub inferred_then : Run Inferred → (Inferred → Run Inferred) → Run Inferred
inferred_then m f = ◌>>=◌ m f

-- The end of an abstraction: what stood in the environment is put back.
unfoldable pub restored_abs : Name → TyVar → Option Scheme → Inferred → Run Inferred
restored_abs x a prev r = do
  _ ← env_restore x prev
  lift (abs_close x a r)

-- The end of an application.
abbrev pub closed_app : TyVar → Inferred → Inferred → Run Inferred
closed_app a f x = lift (app_close a f x)

-- The end of a let.
unfoldable pub restored_let : Name → Subst → Core → Pending → Option Scheme → Inferred → Run Inferred
restored_let v s₁ c₁ deferred prev r = do
  _ ← env_restore v prev
  lift (let_close v s₁ c₁ deferred r)
