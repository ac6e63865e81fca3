-- There are such environments: without names, with no scheme at all, and an order that is not that of the numbers.
use mathlib.Core.Path.{◌≡◌, refl}
use mathlib.Core.Bool.{true}
use mathlib.Core.List.{List, [], ◌∷◌}
use Prim.Native.Nat.{ℕ, zero, suc, ◌+◌, ◌*◌, ◌<◌, ◌≤◌}
use native.Mathlib.Omega.{arith}
use native.Mathlib.Decide.{dec_lt}
use lib.ListN.{length, get_or}
use Rattle.meaning.specs.Base.{ltb}
use Rattle.meaning.specs.Ast.{name_before}
use Rattle.names.specs.Names.{name_of, row}
use Rattle.scope.specs.Scope.{entry_of, env_from, env_of, Listed, Order, Scope}
use Rattle.scope.specs.declared.Entry.TheVariants.{Nothing}

-- No names are in order.
pub no_order : (ns : List ℕ) → Order ns []
no_order ns = record { below = λ i h. absurd (omega arith); rises = λ i h. absurd (omega arith); covers = λ r h. absurd (omega arith) }

-- No rows are a scope.
pub no_scope : (ns w : List ℕ) (top : ℕ) → Scope ns w [] [] top
no_scope ns w top = record { order = no_order ns; fits = refl; entries = λ r h. absurd (omega arith) }

-- They are the empty environment.
pub no_env : (ns w : List ℕ) → env_of ns w [] [] ≡ []
unfolding env_from
no_env ns w = refl

-- Rows that all say nothing are a scope.
pub bare_scope : (ns w ev od : List ℕ) (top : ℕ) → Order ns od → length ev ≡ 4 * length od → ((r : ℕ) → r < length od → entry_of ev r ≡ Nothing) → Scope ns w ev od top
bare_scope ns w ev od top O f h = record { order = O; fits = f; entries = λ r k. rw (h r k) tt }

-- So many of them have no scheme.
bare_from : (ns w ev od : List ℕ) (i k : ℕ) → ((j : ℕ) → i ≤ j → j < i + k → entry_of ev (get_or od j 0) ≡ Nothing) → env_from ns w ev od i k ≡ []
unfolding env_from
bare_from ns w ev od i zero h = refl
bare_from ns w ev od i (suc k) h = rw (h i (omega arith) (omega arith)) (bare_from ns w ev od (suc i) k (λ j p q. h j (omega arith) (omega arith)))

-- They are the empty environment too.
pub bare_env : (ns w ev od : List ℕ) → Order ns od → ((r : ℕ) → r < length od → entry_of ev r ≡ Nothing) → env_of ns w ev od ≡ []
bare_env ns w ev od O h = bare_from ns w ev od 0 (length od) (λ j p q. h (get_or od j 0) (O.below j (omega arith)))

-- Two names, the second one first in byte order.
two_names : List ℕ
two_names = 2 ∷ 0 ∷ 0 ∷ 0 ∷ 1 ∷ 0 ∷ 0 ∷ 0 ∷ []

-- Their order.
two_order : Order two_names (1 ∷ 0 ∷ [])
unfolding name_of row name_before ltb dec_lt two_names
two_order = record { below = below; rises = rises; covers = covers }
  where
    below : (i : ℕ) → i < 2 → get_or (1 ∷ 0 ∷ []) i 0 < 2
    below zero h = omega arith
    below (suc zero) h = omega arith
    below (suc (suc i)) h = absurd (omega arith)

    rises : (i : ℕ) → suc i < 2 → name_before (name_of two_names (get_or (1 ∷ 0 ∷ []) i 0)) (name_of two_names (get_or (1 ∷ 0 ∷ []) (suc i) 0)) ≡ true
    rises zero h = refl
    rises (suc i) h = absurd (omega arith)

    covers : (r : ℕ) → r < 2 → Listed (1 ∷ 0 ∷ []) r
    covers zero h = record { at = 1; below = omega arith; is = refl }
    covers (suc zero) h = record { at = 0; below = omega arith; is = refl }
    covers (suc (suc r)) h = absurd (omega arith)
