-- What the meaning of `apply_type` does at each kind of type and list: one law for each arm.
use mathlib.Core.Path.{◌≡◌, refl, sym, ◌∙◌}
use mathlib.Core.List.{List}
use Prim.Native.Nat.{ℕ, zero, suc, ◌+◌, ◌*◌, ◌-◌, ◌≤◌}
use native.Mathlib.Numerals.{sub-one}
use native.Mathlib.Omega.{arith}
use lib.ListN.{length}
use Rattle.meaning.specs.Ast.{Ty, Tys, var, con, arrow, ◌◂◌}
use Rattle.meaning.specs.Errors as E
use Rattle.meaning.specs.Budget.{done, refused, after, step}
use Rattle.meaning.specs.Subst.{Subst, look, each, apply_node, apply_in}
use Rattle.names.specs.Names.{name_of, tyvar_of}
use Rattle.ast.specs.Table.{shape_of, cell_of, tree, list, Node, Kept}
use Rattle.ast.specs.declared.Shape.{Shape}
use Rattle.ast.specs.declared.Shape.TheVariants.{Var, Con, Arrow}
use Rattle.ast.specs.declared.Cell.{Cell}
use Rattle.ast.specs.declared.Cell.TheVariants.{Nil, Cons}
use Rattle.ast.proofs.Laws.{tree_var, tree_con, tree_arrow, list_nil, list_cons, var_is, low_list, kept_tree, kept_list, node_more}
use Rattle.vars.proofs.VarLaws.{kept_vars}
use Rattle.pairs.specs.Pairs.{Stands}
use Rattle.pairs.proofs.Frames.{sub_stands, sub-later}
use Rattle.apply.specs.Region.{sub_but, Ready, ReadyBut, Grown}
use Rattle.apply.proofs.Hand.{Then}

-- No depth is left.
pub no_depth : (d l : ℕ) (s : Subst) (a : Ty) → d ≡ 0 → apply_in d s a l ≡ refused E.too_deep l
unfolding apply_in
no_depth d l s a e = rw e

-- No step is left.
pub no_steps : (d l : ℕ) (s : Subst) (a : Ty) → (d ≡ 0 → ⊥) → l ≡ 0 → apply_in d s a l ≡ refused E.out_of_steps 0
unfolding apply_in step
no_steps zero l s a p q = absurd (p refl)
no_steps (suc d) l s a p q = rw q

-- One step, then the node.
apply_step : (d l : ℕ) (s : Subst) (a : Ty) → (d ≡ 0 → ⊥) → (l ≡ 0 → ⊥) → apply_in d s a l ≡ apply_node (apply_in (d - 1) s) s a (l - 1)
unfolding apply_in step
apply_step zero l s a p q = absurd (p refl)
apply_step (suc d) zero s a p q = absurd (q refl)
apply_step (suc d) (suc l) s a p q = simp sub-one

-- What `apply` does at a type: r is what `shape_at` returned.
module _ {w : List ℕ} {top left t : ℕ} (ns : List ℕ) (N : Node w top t) (S : Subst) {depth : ℕ} (dp : depth ≡ 0 → ⊥) (lp : left ≡ 0 → ⊥)
    {r : Shape} (e : r ≡ shape_of w t) where
  -- The node, one deeper and with one step less.
  out : {a : Ty} → tree ns w t ≡ a → apply_in depth S (tree ns w t) left ≡ apply_node (apply_in (depth - 1) S) S a (left - 1)
  out p = rw p (apply_step depth left S _ dp lp)

  -- A variable becomes what the substitution says.
  pub at_var : {x : ℕ} {u : Ty} → r ≡ Var x → look S (tyvar_of ns x) ≡ u → apply_in depth S (tree ns w t) left ≡ done u (left - 1)
  unfolding apply_node
  at_var k h = out (tree_var ns N e k) ∙ rw h

  -- A variable of which it says nothing stays.
  pub at_free : {x : ℕ} → r ≡ Var x → look S (tyvar_of ns x) ≡ var (tyvar_of ns x) → apply_in depth S (tree ns w t) left ≡ done (tree ns w x) (left - 1)
  at_free k h = at_var k (h ∙ rw (var_is N e k) (sym (tree_var ns N e k ∙ rw (var_is N e k))))

  -- A constructor without arguments stays.
  pub at_nullary : {c b : ℕ} → r ≡ Con c b → b ≡ 0 → apply_in depth S (tree ns w t) left ≡ done (tree ns w t) (left - 1)
  unfolding apply_node each after
  at_nullary {c} {b} k z = let h = tree_con ns N e k in let n = low_list ns w b (omega arith) in out h ∙ rw (h, n)

  -- A constructor: each of its arguments.
  pub at_con : {c b : ℕ} → r ≡ Con c b → Then (apply_in depth S (tree ns w t) left) (each (apply_in (depth - 1) S) (list ns w b) (left - 1)) (λ us l. done (con (name_of ns c) us) l)
  unfolding apply_node
  at_con k = record { is = out (tree_con ns N e k) }

  -- An arrow: the left side, then the right one.
  pub at_arrow : {a b : ℕ} → r ≡ Arrow a b → Then (apply_in depth S (tree ns w t) left) (apply_in (depth - 1) S (tree ns w a) (left - 1))
      (λ u l. after (apply_in (depth - 1) S (tree ns w b) l) (λ v l₂. done (arrow u v) l₂))
  unfolding apply_node
  at_arrow k = record { is = out (tree_arrow ns N e k) }

-- What `args` does at a list: r is what `cell_at` returned.
module _ {w : List ℕ} {top n : ℕ} (ns : List ℕ) (N : Node w top n) (S : Subst) (left depth : ℕ) {r : Cell} (e : r ≡ cell_of w n) where
  -- The empty list stays.
  pub at_nil : r ≡ Nil → each (apply_in depth S) (list ns w n) left ≡ done (list ns w n) left
  unfolding each
  at_nil k = rw (list_nil ns N e k)

  -- The first type, then the rest.
  pub at_cons : {a b : ℕ} → r ≡ Cons a b → Then (each (apply_in depth S) (list ns w n) left) (apply_in depth S (tree ns w a) left)
      (λ u l. after (each (apply_in depth S) (list ns w b) l) (λ us l₂. done (u ◂ us) l₂))
  unfolding each
  at_cons k = record { is = rw (list_cons ns N e k) }

-- ## The next call

-- It asks for no more steps.
pub ready_first : {ns w : List ℕ} {top left at k t l b : ℕ} → Ready ns w top left at k t → l ≤ left → Node w top b → Ready ns w top l at k b
ready_first R h N = let z = R.room in record { names = R.names; node = N; room = omega arith; sub = R.sub }

-- After another call, with what that left.
pub ready_then : {ns w w₁ : List ℕ} {top left at k t hi b l m j top₁ c : ℕ} → Ready ns w top left at k t → Stands w w₁ top hi → hi ≤ at → Grown b w₁ top l top₁ j m
    → b ≤ 4 * top + 8 * left → length w₁ ≡ length w → Node w top c → Ready ns w₁ top₁ j at k c
ready_then R F u G h e N =
    let x = G.more in let y = G.spent in let z = R.room in
    record { names = R.names; node = node_more G.node.table x N; room = omega arith; sub = sub-later F R.sub u x (omega arith) }

-- The same where variables stay: no more steps.
pub but_first : {ns w : List ℕ} {top left at k vs t l b : ℕ} → ReadyBut ns w top left at k vs t → l ≤ left → Node w top b → ReadyBut ns w top l at k vs b
but_first R h N = record { ty = ready_first R.ty h N; vars = R.vars }

-- After another call.
pub but_then : {ns w w₁ : List ℕ} {top left at k vs t hi b l m j top₁ c : ℕ} → ReadyBut ns w top left at k vs t → Stands w w₁ top hi → hi ≤ at → Grown b w₁ top l top₁ j m
    → b ≤ 4 * top + 8 * left → length w₁ ≡ length w → Node w top c → ReadyBut ns w₁ top₁ j at k vs c
but_then R F u G h e N = record { ty = ready_then R.ty F u G h e N; vars = node_more G.node.table G.more R.vars }

-- What the pairs do to an older type is the same after another call.
module _ {ns w w₁ : List ℕ} {top left at k vs t hi : ℕ} (R : ReadyBut ns w top left at k vs t) (F : Stands w w₁ top hi) (u : hi ≤ at) where
  -- They are the same pairs, without the same variables.
  pub but_kept : sub_but ns w₁ vs at k ≡ sub_but ns w vs at k
  but_kept = rw (sub_stands ns R.ty.node.table F R.ty.sub u, kept_vars ns F.low R.vars)

  -- To a type.
  pub apply_kept : {b : ℕ} (d l : ℕ) → Node w top b → apply_in d (sub_but ns w₁ vs at k) (tree ns w₁ b) l ≡ apply_in d (sub_but ns w vs at k) (tree ns w b) l
  apply_kept d l N = rw (but_kept, kept_tree ns F.low N)

  -- To a list of types.
  pub each_kept : {b : ℕ} (d l : ℕ) → Node w top b → each (apply_in d (sub_but ns w₁ vs at k)) (list ns w₁ b) l ≡ each (apply_in d (sub_but ns w vs at k)) (list ns w b) l
  each_kept d l N = rw (but_kept, kept_list ns F.low N)

-- An older type under an arrow or at the head of a list stands for what it stood for.
module _ {w w' : List ℕ} {top m : ℕ} (ns : List ℕ) (K : Kept w w' top) (N : Node w top m) where
  -- Under an arrow.
  pub arrow_kept : (v : Ty) → arrow (tree ns w' m) v ≡ arrow (tree ns w m) v
  arrow_kept v = rw (kept_tree ns K N)

  -- At the head of a list.
  pub cons_kept : (us : Tys) → tree ns w' m ◂ us ≡ tree ns w m ◂ us
  cons_kept us = rw (kept_tree ns K N)
