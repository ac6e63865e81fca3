-- The ways out of `lookup_method`.
use mathlib.Core.Path.{◌≡◌, refl, sym, ◌∙◌}
use mathlib.Core.Bool.{Bool, true, false}
use mathlib.Core.List.{List}
use Prim.Native.Nat.{ℕ, ◌+◌, ◌*◌, ◌-◌, ◌/◌, ◌<◌, ◌≤◌}
use native.Mathlib.Omega.{arith}
use lib.Dec.{ltb}
use lib.ListN.{length, get_or}
use borrow.Author.Tests.{lt-ltb, le-ltb}
use Rattle.meaning.specs.Base.{if}
use Rattle.meaning.specs.Ast.{Name}
use Rattle.meaning.specs.Classes.{ClassEnv}
use Rattle.names.specs.Names.{name_of}
use Rattle.ast.specs.Table.{Kept, Table}
use Rattle.ast.proofs.Laws.{kept_tree, node_more}
use Rattle.std.specs.Prelude.{Option, Some, None}
use Rattle.classes.specs.Method.{of_class, method_at, MethodAs, Methods, LooksUp}
use Rattle.classes.specs.declared.Method.{Method}

-- Nothing, whatever a test says.
either : (b : Bool) → ◌≡◌ {A = Option Method} (if b None None) None
either true = refl
either false = refl

-- What the table has is the answer.
looks : {mt : List ℕ} {m : ℕ} {r : Option Method} → r ≡ method_at mt m → LooksUp mt m r
looks {mt} {m} {r} e = record { at = e; answer = λ ns w top ce M. rw e (M.is m) }

module _ (mt : List ℕ) (m : ℕ) where
  -- The table has not the name.
  pub looks_out : length mt / 2 ≤ m → LooksUp mt m None
  unfolding method_at
  looks_out h = looks (rw (le-ltb (2 * m + 1) (length mt) (omega arith)))

  -- No class has it.
  pub looks_none : get_or mt (2 * m) 0 ≡ 0 → LooksUp mt m None
  unfolding method_at
  looks_none e = looks (sym (rw (le-ltb 0 (get_or mt (2 * m) 0) (omega arith)) (either (ltb (2 * m + 1) (length mt)))))

  -- A class has it.
  pub looks_of : m < length mt / 2 → (get_or mt (2 * m) 0 ≡ 0 → ⊥) → LooksUp mt m (Some (of_class (get_or mt (2 * m) 0 - 1) (get_or mt (2 * m + 1) 0)))
  unfolding method_at
  looks_of h n = looks (rw (lt-ltb (2 * m + 1) (length mt) (omega arith), lt-ltb 0 (get_or mt (2 * m) 0) (omega arith)))

-- As long as the nodes of the table stand, so do the methods.
pub methods_kept : {ns w w' : List ℕ} {top top' : ℕ} {mt : List ℕ} {ce : ClassEnv} → Kept w w' top → Table w' top' → top ≤ top' → Methods ns w top mt ce → Methods ns w' top' mt ce
methods_kept {ns} {w} {w'} {top} {top'} {mt} {ce} K T h M = record { is = λ m. go (name_of ns m) (method_at mt m) (M.is m) }
  where
    go : (n : Name) (r : Option Method) → MethodAs ns w top ce n r → MethodAs ns w' top' ce n r
    go n (Some q) o = record { info = o.info; class = o.class; node = node_more T h o.node; is = o.is ∙ rw (kept_tree ns K o.node) }
    go n None o = o
