-- What the next call of `rename` is asked, how many variables and nodes a type has by its shape, and the ways out without a call.
use mathlib.Core.Path.{◌≡◌, refl, sym, ◌∙◌}
use mathlib.Core.List.{List}
use Prim.Native.Nat.{ℕ, suc, ◌+◌, ◌*◌, ◌-◌, ◌≤◌}
use native.Mathlib.Omega.{arith}
use lib.ListN.{length}
use Rattle.meaning.specs.Ast.{var, nil, size, sizes}
use Rattle.meaning.specs.Budget.{Out}
use Rattle.meaning.specs.Subst.{Subst, each, apply_in}
use Rattle.names.specs.Names.{tyvar_of}
use Rattle.ast.specs.Table.{shape_of, cell_of, tree, list, Node, Kept}
use Rattle.ast.specs.declared.Shape.{Shape}
use Rattle.ast.specs.declared.Shape.TheVariants.{Var, Con, Arrow}
use Rattle.ast.specs.declared.Cell.{Cell}
use Rattle.ast.specs.declared.Cell.TheVariants.{Nil, Cons}
use Rattle.ast.proofs.Laws.{tree_var, tree_con, tree_arrow, list_nil, list_cons, var_is, var_node, low_node, low_var, low_list, kept_tree, kept_list, node_more}
use Rattle.errors.specs.declared.Refusal.TheVariants.{Steps, Depth}
use Rattle.pairs.proofs.Frames.{stands_refl}
use Rattle.apply.specs.Applied.{Applied}
use Rattle.apply.specs.Applied.{Done, Refused}
use Rattle.apply.proofs.Hand.{refuse_here}
use Rattle.apply.proofs.Arms.{no_depth, no_steps, at_var, at_nullary, at_nil}
use Rattle.rename.specs.Renaming.{renamed_word, Renames, leaves, leaves_list}
use Rattle.rename.specs.Renamed.{Renaming, ReadyRename, RenamedAs, GivesRenamed, TypeRenamed, ListRenamed}
use Rattle.rename.proofs.Places.{kept_renamed, Becomes, stays, changes, becomes}
use Rattle.rename.proofs.Leaves.{leaves_size, leaves_sizes}

-- ## The next call

-- The renaming is the same after another call.
pub renaming_then : {w w₁ ls : List ℕ} {top top₁ vs to n : ℕ} → Renaming w ls top vs to → top ≤ top₁ → Node w₁ top₁ n → Renaming w₁ ls top₁ vs to
renaming_then R h N = record { vars = node_more N.table h R.vars; words = R.words; letters = R.letters }

-- It asks for no more steps.
pub ready_first : {ns w ls : List ℕ} {top left vs to t l b : ℕ} → ReadyRename ns w ls top left vs to t → l ≤ left → Node w top b → ReadyRename ns w ls top l vs to b
ready_first R h N = let z = R.room in record { names = R.names; node = N; by = R.by; room = omega arith }

-- After another call, with what that left.
pub ready_then : {ns w w₁ ls : List ℕ} {top left vs to t top₁ l m c : ℕ} → ReadyRename ns w ls top left vs to t → top ≤ top₁ → Node w₁ top₁ m
    → 4 * top₁ + 8 * l ≤ 4 * top + 8 * left → length w₁ ≡ length w → Node w top c → ReadyRename ns w₁ ls top₁ l vs to c
ready_then R h M s e N =
    let z = R.room in record { names = R.names; node = node_more M.table h N; by = renaming_then R.by h M; room = omega arith }

-- A substitution that renames so renames so after another call.
pub renames_then : {ns w w₁ ls : List ℕ} {top vs to : ℕ} {s : Subst} → Kept w w₁ top → Node w top vs → Renames ns w vs to ls s → Renames ns w₁ vs to ls s
renames_then {ls = ls} {to = to} K N R = record { at = λ x. rw (kept_renamed to ls x K N) (R.at x) }

-- An answer for fewer substitutions.
of_less : {A : Type 0} (Of Of' : Subst → Type 0) (read : ℕ → A) (c lv sz : ℕ) (ns w' : List ℕ) (top left : ℕ) (o : Subst → Out A) (r : Applied)
    → ((s : Subst) → Of' s → Of s) → RenamedAs Of read c lv sz ns w' top left o r → RenamedAs Of' read c lv sz ns w' top left o r
of_less Of Of' read c lv sz ns w' top left o (Done t top' left') f a =
    record { node = a.node; more = a.more; spent = a.spent; steps = a.steps; few = a.few; is = λ s S. a.is s (f s S) }
of_less Of Of' read c lv sz ns w' top left o (Refused e top' left') f a = λ s S. a s (f s S)

-- What a call gave after another one, said of the words before both: of a type.
pub type_before : {ns w w₁ w₂ ls : List ℕ} {top top₁ left vs to t : ℕ} {r : Applied} (depth : ℕ) → Kept w w₁ top → Node w top vs → Node w top t → TypeRenamed ns w₁ w₂ ls top₁ left depth vs to t r
    → GivesRenamed (Renames ns w vs to ls) (tree ns w₂) 4 (leaves (tree ns w t)) (size (tree ns w t)) ns w₁ w₂ top₁ left (λ s. apply_in depth s (tree ns w t) left) r
type_before {ns} {r = r} depth K L N G = record {
  stands = G.stands;
  answer = of_less _ _ _ _ _ _ _ _ _ _ _ r (λ s S. renames_then K L S) (rw (kept_tree ns K N) at G.answer);
}

-- Of a list of types.
pub list_before : {ns w w₁ w₂ ls : List ℕ} {top top₁ left vs to n : ℕ} {r : Applied} (depth : ℕ) → Kept w w₁ top → Node w top vs → Node w top n → ListRenamed ns w₁ w₂ ls top₁ left depth vs to n r
    → GivesRenamed (Renames ns w vs to ls) (list ns w₂) 0 (leaves_list (list ns w n)) (sizes (list ns w n)) ns w₁ w₂ top₁ left (λ s. each (apply_in depth s) (list ns w n) left) r
list_before {ns} {r = r} depth K L N G = record {
  stands = G.stands;
  answer = of_less _ _ _ _ _ _ _ _ _ _ _ r (λ s S. renames_then K L S) (rw (kept_list ns K N) at G.answer);
}

-- ## Variables and nodes of a type, by its shape

module _ {w : List ℕ} {top t : ℕ} {r : Shape} (ns : List ℕ) (N : Node w top t) (e : r ≡ shape_of w t) where
  -- A variable.
  pub var_counts : {x : ℕ} → r ≡ Var x → (leaves (tree ns w t) ≡ 1) × (size (tree ns w t) ≡ 1)
  unfolding leaves size
  var_counts k = rw (tree_var ns N e k) (refl, refl)

  -- A constructor.
  pub con_counts : {c b : ℕ} → r ≡ Con c b → (leaves (tree ns w t) ≡ leaves_list (list ns w b)) × (size (tree ns w t) ≡ suc (sizes (list ns w b)))
  unfolding leaves size
  con_counts k = rw (tree_con ns N e k) (refl, refl)

  -- An arrow.
  pub arrow_counts : {a b : ℕ} → r ≡ Arrow a b
      → (leaves (tree ns w t) ≡ leaves (tree ns w a) + leaves (tree ns w b)) × (size (tree ns w t) ≡ suc (size (tree ns w a) + size (tree ns w b)))
  unfolding leaves size
  arrow_counts k = rw (tree_arrow ns N e k) (refl, refl)

-- Of a list, by its cell.
module _ {w : List ℕ} {top n : ℕ} {r : Cell} (ns : List ℕ) (N : Node w top n) (e : r ≡ cell_of w n) where
  -- The empty one.
  pub nil_counts : r ≡ Nil → (leaves_list (list ns w n) ≡ 0) × (sizes (list ns w n) ≡ 0)
  unfolding leaves size
  nil_counts k = rw (list_nil ns N e k) (refl, refl)

  -- A first type and the rest.
  pub cons_counts : {a b : ℕ} → r ≡ Cons a b
      → (leaves_list (list ns w n) ≡ leaves (tree ns w a) + leaves_list (list ns w b)) × (sizes (list ns w n) ≡ size (tree ns w a) + sizes (list ns w b))
  unfolding leaves size
  cons_counts k = rw (list_cons ns N e k) (refl, refl)

-- ## Ways out without a call

module _ {ns w ls : List ℕ} {top left vs to t depth : ℕ} (R : ReadyRename ns w ls top left vs to t) where
  -- No depth is left.
  pub too_deep : depth ≡ 0 → TypeRenamed ns w w ls top left depth vs to t (Refused Depth top left)
  too_deep d = record { stands = stands_refl _ _ _; answer = λ s S. refuse_here (no_depth _ _ _ _ d) tt (omega arith) }

  -- No step is left.
  pub no_step : (depth ≡ 0 → ⊥) → left ≡ 0 → TypeRenamed ns w w ls top left depth vs to t (Refused Steps top left)
  no_step d l = record { stands = stands_refl _ _ _; answer = λ s S. refuse_here (no_steps _ _ _ _ d l ∙ rw l) tt (omega arith) }

  module _ (dp : depth ≡ 0 → ⊥) (lp : left ≡ 0 → ⊥) {r : Shape} (e : r ≡ shape_of w t) where
    -- What a variable's word becomes is a word of the table.
    became_node : {x m : ℕ} → r ≡ Var x → m ≡ renamed_word w vs to ls x → Node w top m
    became_node {x} {m} k h = rw h (go (becomes x R.by))
      where
        go : {y : ℕ} → Becomes x y → Node w top y
        go stays = var_node R.node e k
        go (changes l) = low_node R.node.table (omega arith)

    -- It is a variable's.
    became_var : {x m : ℕ} → r ≡ Var x → m ≡ renamed_word w vs to ls x → tree ns w m ≡ var (tyvar_of ns m)
    became_var {x} {m} k h = rw h (go (becomes x R.by))
      where
        go : {y : ℕ} → Becomes x y → tree ns w y ≡ var (tyvar_of ns y)
        go stays = rw (var_is R.node e k) (tree_var ns R.node e k ∙ rw (var_is R.node e k))
        go (changes l) = low_var ns w _ l

    -- A variable: its word is renamed.
    pub var_done : {x m : ℕ} → r ≡ Var x → m ≡ renamed_word w vs to ls x → TypeRenamed ns w w ls top left depth vs to t (Done m top (left - 1))
    var_done {x} {m} k h =
        let c = var_counts ns R.node e k in let a = c.0 in let b = c.1 in
        record {
          stands = stands_refl _ _ _;
          answer = record {
            node = became_node k h;
            more = omega arith;
            spent = omega arith;
            steps = omega arith;
            few = leaves_size _;
            is = λ s S. at_var ns R.node s dp lp e k (S.at x ∙ rw (sym h) (sym (became_var k h)));
          };
        }

    -- A constructor without arguments stays.
    pub nullary_done : {c b : ℕ} → r ≡ Con c b → b ≡ 0 → TypeRenamed ns w w ls top left depth vs to t (Done t top (left - 1))
    unfolding leaves size
    nullary_done {c} {b} k z =
        let q = con_counts ns R.node e k in let n : list ns w b ≡ nil = low_list ns w b (omega arith) in
        let x : leaves (tree ns w t) ≡ 0 = q.0 ∙ rw n refl in
        let y : size (tree ns w t) ≡ 1 = q.1 ∙ rw n refl in
        record {
          stands = stands_refl _ _ _;
          answer = record {
            node = R.node;
            more = omega arith;
            spent = omega arith;
            steps = omega arith;
            few = leaves_size (tree ns w t);
            is = λ s S. at_nullary ns R.node s dp lp e k z;
          };
        }

-- The empty list stays.
pub nil_done : {ns w ls : List ℕ} {top left vs to n : ℕ} {r : Cell} (depth : ℕ) → ReadyRename ns w ls top left vs to n → r ≡ cell_of w n → r ≡ Nil → ListRenamed ns w w ls top left depth vs to n (Done n top left)
nil_done {ns} depth R e k =
    let c = nil_counts ns R.node e k in let a = c.0 in let b = c.1 in
    record {
      stands = stands_refl _ _ _;
      answer = record {
        node = R.node;
        more = omega arith;
        spent = omega arith;
        steps = omega arith;
        few = leaves_sizes _;
        is = λ s S. at_nil ns R.node s _ _ e k;
      };
    }
