-- What inference does to its state by its environment, over rows: insert, put back, apply.
use mathlib.Core.Path.{◌≡◌, refl}
use mathlib.Core.List.{List}
use mathlib.Core.Option.{some}
use Prim.Native.Nat.{ℕ, ◌<◌}
use native.Mathlib.Omega.{arith}
use lib.ListN.{length}
use Rattle.meaning.specs.Ast.{Scheme}
use Rattle.meaning.specs.Budget.{done}
use Rattle.meaning.specs.Subst.{Subst}
use Rattle.meaning.specs.Infer.{State, with_env, env_insert, env_restore, apply_schemes, apply_env}
use Rattle.names.specs.Names.{name_of}
use Rattle.errors.specs.declared.Refusal.{Refusal}
use Rattle.errors.specs.Refusals.{Refuses}
use Rattle.apply.proofs.Hand.{Then, then_done, refuse_on}
use Rattle.scope.specs.Scope.{entry_of, with_entry, scheme_in, env_of, Scope}
use Rattle.scope.specs.Sweeps.{GivesEnv}
use Rattle.scope.specs.declared.Entry.{Entry}
use Rattle.scope.specs.declared.Entry.TheVariants.{Nothing, Closed, Local}
use Rattle.scope.specs.Swept.{Swept}
use Rattle.scope.specs.Swept.{Done, Refused}
use Rattle.scope.proofs.Laws.{scope_get, scope_put, scope_drop}

module _ {ns w ev od : List ℕ} {top : ℕ} (S : Scope ns w ev od top) (st : State) (is : st.env ≡ env_of ns w ev od) (r : ℕ) (h : r < length od) (n : ℕ) where
  -- A row is written: that is `env.insert`, and the row that was there is what it gives.
  pub scope_inserts : (e : Entry) (c : Scheme) → scheme_in ns w e ≡ some c
      → env_insert (name_of ns r) c st n ≡ done (scheme_in ns w (entry_of ev r), with_env (env_of ns w (with_entry ev r e) od) st) n
  unfolding env_insert
  scope_inserts e c k = rw (is, scope_get S r h, scope_put S r h e c k)

  -- A row is put back, whatever it was.
  pub scope_restores : (e : Entry) → env_restore (name_of ns r) (scheme_in ns w e) st n ≡ done (tt, with_env (env_of ns w (with_entry ev r e) od) st) n
  unfolding env_restore
  scope_restores Nothing = rw (is, scope_drop S r h)
  scope_restores (Closed s) = rw (is, scope_put S r h (Closed s) _ refl)
  scope_restores (Local s) = rw (is, scope_put S r h (Local s) _ refl)

module _ (s : Subst) {ns w w' ev ev' od : List ℕ} {top left : ℕ} {x : Swept} (G : GivesEnv ns w w' ev ev' od top left (apply_schemes s (env_of ns w ev od) left) x) (st : State) (is : st.env ≡ env_of ns w ev od) where
  -- First the rows, and then the state.
  rows_first : Then (apply_env s st left) (apply_schemes s (env_of ns w ev od) left) (λ env. done (tt, with_env env st))
  unfolding apply_env
  rows_first = record { is = rw is }

  -- The rows that `apply_env` leaves are those of the state.
  pub scope_applies : {top' left' : ℕ} → x ≡ Done top' left' → apply_env s st left ≡ done (tt, with_env (env_of ns w' ev' od) st) left'
  scope_applies {left' = left'} g = let A = rw g at G.answer in then_done _ left' rows_first A.is

  -- What it refuses is refused.
  pub scope_refuses : {y : Refusal} {top' left' : ℕ} → x ≡ Refused y top' left' → Refuses ns w' top left (apply_env s st left) y top' left'
  scope_refuses g = refuse_on rows_first (rw g at G.answer) (omega arith) (omega arith)
