-- Laws of binding a variable.
use Prim.Native.Nat.{ℕ, ◌+◌, ◌*◌, ◌-◌, ◌<◌, ◌≤◌}
use native.Mathlib.Omega.{arith}
use mathlib.Core.Path.{◌≡◌, ap, ◌∙◌}
use mathlib.Core.Bool.{true, false}
use mathlib.Core.List.{List, [], ◌∷◌}
use lib.ListN.{length, get_or, set, length-set}
use lib.Seq.{get_or-set_same, get_or-set_other}
use Rattle.meaning.specs.Ast.{same_tyvar}
use Rattle.meaning.specs.Budget.{Out, done}
use Rattle.meaning.specs.Subst.{Subst, occurs}
use Rattle.meaning.specs.Unify.{bind_other, bind}
use Rattle.names.specs.Names.{tyvar_of}
use Rattle.names.proofs.Distinct.{tyvar_of_same}
use Rattle.ast.specs.Table.{tree, shape_of, Table, Kept}
use Rattle.ast.specs.declared.Shape.{Shape}
use Rattle.ast.specs.declared.Shape.TheVariants.{Var, Con, Arrow}
use Rattle.ast.proofs.Laws.{kept_tree, kept_table, tree_var, tree_con, tree_arrow}
use Rattle.errors.specs.declared.Refusal.TheVariants.{OccursCheck}
use Rattle.pairs.specs.Pairs.{sub_at}
use Rattle.apply.specs.Applied.{Applied}
use Rattle.apply.specs.Applied.{Done, Refused}
use Rattle.compose.specs.Answers.{GivesU}
use Rattle.unify.specs.Unify.{Binds}
use Rattle.pairs.proofs.Frames.{stands_refl, put_length}
use Rattle.unify.proofs.Outcomes.{holds, fails}
use Rattle.unify.proofs.Hand.{on, refuses}

-- No pairs.
pub nothing : {ns w : List ℕ} {top left x sp : ℕ} {o : Out Subst} → Table w top → sp ≤ length w → o ≡ done [] left → GivesU 0 x ns w w top left sp o (Done 0 top left)
unfolding sub_at
nothing {sp = sp} T f e = record {
  stands = stands_refl _ _ _;
  answer = (
    e,
    record {
      table = T;
      sub = record { fits = omega arith; bound = record { node = λ i a. absurd (omega arith) } };
      sorted = tt;
      more = omega arith;
      spent = omega arith;
      down = omega arith;
    },
  );
}

module _ {ns w : List ℕ} {top left sp t : ℕ} (B : Binds ns w top left sp t) (v : ℕ) where
  -- The variable stands in the type.
  pub bind_infinite : true ≡ occurs (tyvar_of ns v) (tree ns w t) → GivesU 0 2 ns w w top left sp (bind_other (tyvar_of ns v) (tree ns w t) left) (Refused (OccursCheck v t) top left)
  unfolding bind_other
  bind_infinite e = refuses (OccursCheck v t) (rw (← e)) B.node (omega arith)

  -- After the first store there is room for the second.
  pub bind_room : {w₁ : List ℕ} → w₁ ≡ set w (sp - 2) v → sp - 1 < length w₁
  bind_room e = let r = B.room in let f = B.fits in let g = put_length w (sp - 2) v e in omega arith

  -- The words after both stores.
  abbrev stored : List ℕ
  stored = set (set w (sp - 2) v) (sp - 1) t

  -- Other words stand.
  far : (q : ℕ) → (q ≡ sp - 2 → ⊥) → (q ≡ sp - 1 → ⊥) → get_or stored q 0 ≡ get_or w q 0
  far q a b = get_or-set_other (set w (sp - 2) v) (sp - 1) q t 0 (λ e. b (omega arith)) ∙ get_or-set_other w (sp - 2) q v 0 (λ e. a (omega arith))

  -- The table stands.
  keeps : Kept w stored top
  keeps = let r = B.room in record { at = λ q l. far q (λ e. omega arith) (λ e. omega arith) }

  -- The variable's word.
  key_word : get_or stored (sp - 2) 0 ≡ v
  key_word = let r = B.room in let f = B.fits in get_or-set_other (set w (sp - 2) v) (sp - 1) (sp - 2) t 0 (omega arith) ∙ get_or-set_same w (sp - 2) v 0 (omega arith)

  -- The type's word.
  value_word : get_or stored (sp - 1) 0 ≡ t
  value_word = let r = B.room in let f = B.fits in get_or-set_same (set w (sp - 2) v) (sp - 1) t 0 (simp length-set (omega arith))

  -- The one pair.
  pair : sub_at ns stored (sp - 2 * 1) 1 ≡ (tyvar_of ns v, tree ns w t) ∷ []
  unfolding sub_at
  pair =
      let r = B.room in
      let e : sp - 2 * 1 ≡ sp - 2 = omega arith in
      let f : sp - 2 + 1 ≡ sp - 1 = omega arith in
      rw (e, f, key_word, value_word, kept_tree ns keeps B.node)

  -- The pair is the answer.
  bound : false ≡ occurs (tyvar_of ns v) (tree ns w t) → GivesU 0 2 ns w stored top left sp (bind_other (tyvar_of ns v) (tree ns w t) left) (Done 1 top left)
  unfolding bind_other
  bound e =
      let r = B.room in
      let f = B.fits in
      record {
        stands = record { low = keeps; high = λ q a. far q (λ x. omega arith) (λ x. omega arith) };
        answer = (
          rw (← e, pair),
          record {
            table = kept_table keeps (simp length-set (omega arith)) B.node.table;
            sub = record {
              fits = simp length-set (omega arith);
              bound = record { node = λ i a. let g : sp - 2 * 1 + 2 * i + 1 ≡ sp - 1 = omega arith in rw (g, value_word) B.node.below };
            };
            sorted = rw pair (tt, tt);
            more = omega arith;
            spent = omega arith;
            down = omega arith;
          },
        );
      }

  -- The same of the words that the code wrote.
  pub bind_done : {w₁ w₂ : List ℕ} → false ≡ occurs (tyvar_of ns v) (tree ns w t) → w₁ ≡ set w (sp - 2) v → w₂ ≡ set w₁ (sp - 1) t
      → GivesU 0 2 ns w w₂ top left sp (bind_other (tyvar_of ns v) (tree ns w t) left) (Done 1 top left)
  bind_done e f g = rw (g, f) (bound e)

-- What `bind` does by the type's shape.
module _ {ns w : List ℕ} {top left sp t : ℕ} {s : Shape} (B : Binds ns w top left sp t) (e : s ≡ shape_of w t) (v : ℕ) where
  -- The variable itself.
  pub bind_self : {x : ℕ} → s ≡ Var x → v ≡ x → GivesU 0 2 ns w w top left sp (bind (tyvar_of ns v) (tree ns w t) left) (Done 0 top left)
  unfolding bind
  bind_self {x} k h = nothing B.node.table B.fits (rw (tree_var ns B.node e k, holds (same_tyvar (tyvar_of ns v) (tyvar_of ns x)) (ap (tyvar_of ns) h)))

  module _ {w₁ : List ℕ} {r : Applied} (G : GivesU 0 2 ns w w₁ top left sp (bind_other (tyvar_of ns v) (tree ns w t) left) r) where
    -- Another variable.
    pub bind_var : {x : ℕ} → s ≡ Var x → (v ≡ x → ⊥) → GivesU 0 2 ns w w₁ top left sp (bind (tyvar_of ns v) (tree ns w t) left) r
    unfolding bind
    bind_var {x} k h = on (stands_refl _ _ _) (omega arith)
        (rw (tree_var ns B.node e k, fails (same_tyvar (tyvar_of ns v) (tyvar_of ns x)) (λ g. h (tyvar_of_same ns B.names v x g)))) (omega arith) (omega arith) G

    -- A constructor.
    pub bind_con : {x l : ℕ} → s ≡ Con x l → GivesU 0 2 ns w w₁ top left sp (bind (tyvar_of ns v) (tree ns w t) left) r
    unfolding bind
    bind_con k = on (stands_refl _ _ _) (omega arith) (rw (tree_con ns B.node e k)) (omega arith) (omega arith) G

    -- An arrow.
    pub bind_arrow : {x l : ℕ} → s ≡ Arrow x l → GivesU 0 2 ns w w₁ top left sp (bind (tyvar_of ns v) (tree ns w t) left) r
    unfolding bind
    bind_arrow k = on (stands_refl _ _ _) (omega arith) (rw (tree_arrow ns B.node e k)) (omega arith) (omega arith) G
