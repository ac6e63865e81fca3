-- Laws of `all_in`: the variables of a type are among others where those of its parts are.
use mathlib.Core.Path.{◌≡◌, refl, ap, sym, ◌∙◌}
use mathlib.Core.Bool.{Bool, true, false, not, ◌&&◌, false≢true}
use mathlib.Core.List.{List, [], ◌∷◌}
use Prim.Native.Nat.{ℕ}
use Rattle.meaning.specs.Base.{if, null, keep}
use Rattle.meaning.specs.Ast.{TyVar, same_tyvar, Ty, Tys, var, con, arrow, nil, ◌◂◌}
use Rattle.meaning.specs.Map.{tyvars, elem}
use Rattle.meaning.specs.Subst.{add, ftv_type, ftv_types, without}
use Rattle.names.specs.Names.{tyvar_of}
use Rattle.ast.specs.Table.{shape_of, cell_of, tree, list, Node}
use Rattle.ast.specs.declared.Shape.{Shape}
use Rattle.ast.specs.declared.Shape.TheVariants.{Var, Con, Arrow}
use Rattle.ast.specs.declared.Cell.{Cell}
use Rattle.ast.specs.declared.Cell.TheVariants.{Nil, Cons}
use Rattle.ast.proofs.Laws.{tree_var, tree_con, tree_arrow, list_nil, list_cons}
use Rattle.vars.specs.Vars.{all_in}

-- Of a test twice.
and_again : (a b : Bool) → (a && b) ≡ (a && (a && b))
and_again true b = refl
and_again false b = refl

-- A test that follows from the last one may stand in front.
and_turn : (a b c : Bool) → c ≡ (a && c) → (b && c) ≡ (a && (b && c))
and_turn true b c e = refl
and_turn false true c e = e
and_turn false false c e = refl

-- Three tests, bracketed otherwise.
and_move : (a b c : Bool) → (a && (b && c)) ≡ ((a && b) && c)
and_move true b c = refl
and_move false b c = refl

-- A test that holds may be left out.
and_true : (a : Bool) → (a && true) ≡ a
and_true true = refl
and_true false = refl

-- One variable more.
all_cons : (x : TyVar) (xs vs : List TyVar) → all_in (x ∷ xs) vs ≡ (elem tyvars x vs && all_in xs vs)
unfolding without keep null
all_cons x xs vs = go (elem tyvars x vs)
  where
    go : (b : Bool) → null (if (not b) (x ∷ keep (λ v. not (elem tyvars v vs)) xs) (keep (λ v. not (elem tyvars v vs)) xs)) ≡ (b && all_in xs vs)
    go true = refl
    go false = refl

-- A variable that is there already changes nothing.
all_again : (x : TyVar) (xs vs : List TyVar) → elem tyvars x xs ≡ true → all_in xs vs ≡ (elem tyvars x vs && all_in xs vs)
unfolding elem
all_again x [] vs e = absurd (false≢true e)
all_again x (y ∷ xs) vs e = go (same_tyvar x y) refl (all_again x xs vs)
  where
    go : (d : Dec (x ≡ y)) → same_tyvar x y ≡ d → (elem tyvars x xs ≡ true → all_in xs vs ≡ (elem tyvars x vs && all_in xs vs)) → all_in (y ∷ xs) vs ≡ (elem tyvars x vs && all_in (y ∷ xs) vs)
    go (yes p) j ih = rw (all_cons y xs vs, p) (and_again (elem tyvars y vs) (all_in xs vs))
    go (no n) j ih = rw (all_cons y xs vs) (and_turn (elem tyvars x vs) (elem tyvars y vs) (all_in xs vs) (ih (rw j at e)))

-- A variable that is added once.
all_add : (x : TyVar) (xs vs : List TyVar) → all_in (add x xs) vs ≡ (elem tyvars x vs && all_in xs vs)
unfolding add
all_add x xs vs = go (elem tyvars x xs) refl
  where
    go : (b : Bool) → elem tyvars x xs ≡ b → all_in (if b xs (x ∷ xs)) vs ≡ (elem tyvars x vs && all_in xs vs)
    go true e = all_again x xs vs e
    go false e = all_cons x xs vs

-- None are among any.
all_none : (vs : List TyVar) → all_in [] vs ≡ true
unfolding without keep null
all_none vs = refl

-- One variable, of a type that is nothing else.
all_one : (x : TyVar) (vs : List TyVar) → all_in (add x []) vs ≡ elem tyvars x vs
all_one x vs = all_add x [] vs ∙ rw (all_none vs) (and_true (elem tyvars x vs))

mutual
  unfolding ftv_type

  -- Those of a type, and those found before.
  pub all_type : (t : Ty) (out vs : List TyVar) → all_in (ftv_type t out) vs ≡ (all_in (ftv_type t []) vs && all_in out vs)
  all_type (var x) out vs = all_add x out vs ∙ ap (λ (b : Bool). b && all_in out vs) (sym (all_one x vs))
  all_type (con c ts) out vs = all_types ts out vs
  all_type (arrow a b) out vs = all_type b (ftv_type a out) vs ∙ ap (λ (c : Bool). all_in (ftv_type b []) vs && c) (all_type a out vs)
      ∙ and_move (all_in (ftv_type b []) vs) (all_in (ftv_type a []) vs) (all_in out vs)
      ∙ ap (λ (c : Bool). c && all_in out vs) (sym (all_type b (ftv_type a []) vs))

  -- The same of a list.
  pub all_types : (ts : Tys) (out vs : List TyVar) → all_in (ftv_types ts out) vs ≡ (all_in (ftv_types ts []) vs && all_in out vs)
  all_types nil out vs = rw (all_none vs) refl
  all_types (a ◂ ts) out vs = all_types ts (ftv_type a out) vs ∙ ap (λ (c : Bool). all_in (ftv_types ts []) vs && c) (all_type a out vs)
      ∙ and_move (all_in (ftv_types ts []) vs) (all_in (ftv_type a []) vs) (all_in out vs)
      ∙ ap (λ (c : Bool). c && all_in out vs) (sym (all_types ts (ftv_type a []) vs))

-- A first test that holds leaves the second one.
pub and_left : {a b : Bool} → a ≡ true → (b && a) ≡ b
and_left {b = b} e = rw e (and_true b)

-- One that fails is enough.
pub and_false : (b : Bool) → (b && false) ≡ false
and_false true = refl
and_false false = refl

-- What `all_bound` answers at a type: r is what `shape_at` returned.
module _ {w : List ℕ} {top t : ℕ} {r : Shape} (ns : List ℕ) (N : Node w top t) (e : r ≡ shape_of w t) (vs : List TyVar) where
  -- A variable.
  pub bound_var : {x : ℕ} {q : Bool} → r ≡ Var x → q ≡ elem tyvars (tyvar_of ns x) vs → q ≡ all_in (ftv_type (tree ns w t) []) vs
  unfolding ftv_type
  bound_var {x} k h = rw (tree_var ns N e k) (h ∙ sym (all_one (tyvar_of ns x) vs))

  -- A constructor, as its arguments.
  pub bound_con : {c l : ℕ} {q : Bool} → r ≡ Con c l → q ≡ all_in (ftv_types (list ns w l) []) vs → q ≡ all_in (ftv_type (tree ns w t) []) vs
  unfolding ftv_type
  bound_con k h = rw (tree_con ns N e k) h

  module _ {a b : ℕ} (k : r ≡ Arrow a b) where
    -- Both sides of an arrow.
    both_sides : all_in (ftv_type (tree ns w t) []) vs ≡ (all_in (ftv_type (tree ns w b) []) vs && all_in (ftv_type (tree ns w a) []) vs)
    unfolding ftv_type
    both_sides = rw (tree_arrow ns N e k) (all_type (tree ns w b) (ftv_type (tree ns w a) []) vs)

    -- An arrow whose left side is bound, as its right side.
    pub bound_right : {p q : Bool} → p ≡ all_in (ftv_type (tree ns w a) []) vs → p ≡ true → q ≡ all_in (ftv_type (tree ns w b) []) vs → q ≡ all_in (ftv_type (tree ns w t) []) vs
    bound_right h i g = g ∙ sym (both_sides ∙ and_left (sym h ∙ i))

    -- One whose left side is not.
    pub unbound_left : {p : Bool} → p ≡ all_in (ftv_type (tree ns w a) []) vs → p ≡ false → false ≡ all_in (ftv_type (tree ns w t) []) vs
    unbound_left h i = sym (both_sides ∙ rw (sym h ∙ i) (and_false (all_in (ftv_type (tree ns w b) []) vs)))

-- What `all_bound_list` answers at a list: r is what `cell_at` returned.
module _ {w : List ℕ} {top l : ℕ} {r : Cell} (ns : List ℕ) (N : Node w top l) (e : r ≡ cell_of w l) (vs : List TyVar) where
  -- No types.
  pub bound_nil : r ≡ Nil → true ≡ all_in (ftv_types (list ns w l) []) vs
  unfolding ftv_type
  bound_nil k = rw (list_nil ns N e k) (sym (all_none vs))

  module _ {a b : ℕ} (k : r ≡ Cons a b) where
    -- The first type and the rest.
    head_and_rest : all_in (ftv_types (list ns w l) []) vs ≡ (all_in (ftv_types (list ns w b) []) vs && all_in (ftv_type (tree ns w a) []) vs)
    unfolding ftv_type
    head_and_rest = rw (list_cons ns N e k) (all_types (list ns w b) (ftv_type (tree ns w a) []) vs)

    -- A list whose first type is bound, as the rest.
    pub bound_rest : {p q : Bool} → p ≡ all_in (ftv_type (tree ns w a) []) vs → p ≡ true → q ≡ all_in (ftv_types (list ns w b) []) vs → q ≡ all_in (ftv_types (list ns w l) []) vs
    bound_rest h i g = g ∙ sym (head_and_rest ∙ and_left (sym h ∙ i))

    -- One whose first type is not.
    pub unbound_head : {p : Bool} → p ≡ all_in (ftv_type (tree ns w a) []) vs → p ≡ false → false ≡ all_in (ftv_types (list ns w l) []) vs
    unbound_head h i = sym (head_and_rest ∙ rw (sym h ∙ i) (and_false (all_in (ftv_types (list ns w b) []) vs)))
