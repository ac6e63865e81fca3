-- Laws of the walks over a type: counting, looking for a variable, and telling types apart.
use Prim.Native.Nat.{ℕ, ◌+◌, ◌-◌, ◌<◌, ◌≤◌}
use native.Mathlib.Omega.{arith}
use native.Mathlib.Numerals.{add-one}
use mathlib.Core.Path.{◌≡◌, refl, ap, sym, ◌∙◌}
use mathlib.Core.Bool.{Bool, true, false}
use mathlib.Core.List.{List}
use lib.Dec.{eqb}
use borrow.Author.Tests.{eq-eqb, ne_eqb}
use Rattle.meaning.specs.Base.{is_yes}
use Rattle.meaning.specs.Ast.{Ty, var, same_ty, same_tyvar, count_tys}
use Rattle.meaning.specs.Subst.{occurs}
use Rattle.names.specs.Names.{first_node, first_nullary, tyvar_of, Names}
use Rattle.names.proofs.Distinct.{name_of_same, tyvar_of_same}
use Rattle.ast.specs.declared.Shape.{Shape}
use Rattle.ast.specs.declared.Shape.TheVariants.{Var, Con, Arrow}
use Rattle.ast.specs.declared.Cell.{Cell}
use Rattle.ast.specs.declared.Cell.TheVariants.{Nil, Cons}
use Rattle.ast.specs.Table.{shape_of, cell_of, tree, list, Node, Counted, SameTys}
use Rattle.ast.proofs.Ranges.{cons_node}
use Rattle.ast.proofs.Laws.{low_var, low_con, tree_var, tree_con, tree_arrow, list_nil, list_cons, cons_tail}

-- A decision's test is true of what holds.
it_is : {P : Type 0} (d : Dec P) → P → true ≡ is_yes d
it_is (yes p) q = refl
it_is (no h) q = absurd (h q)

-- It is false of what does not.
it_is_not : {P : Type 0} (d : Dec P) → (P → ⊥) → false ≡ is_yes d
it_is_not (yes p) h = absurd (h p)
it_is_not (no h) k = refl

-- What it is true of holds.
is_so : {P : Type 0} (d : Dec P) → true ≡ is_yes d → P
is_so (yes p) e = p
is_so (no h) e = let z : ◌≡◌ {A = ℕ} 0 1 = cc in absurd (omega arith)

-- What it is false of does not.
is_not_so : {P : Type 0} (d : Dec P) → false ≡ is_yes d → P → ⊥
is_not_so (yes p) e q = let z : ◌≡◌ {A = ℕ} 0 1 = cc in omega arith
is_not_so (no h) e q = h q

-- The test of two types is true of equal ones.
pub types_same : {a b : Ty} → a ≡ b → true ≡ is_yes (same_ty a b)
types_same {a} {b} e = it_is (same_ty a b) e

-- It is false of different ones.
pub types_differ : {a b : Ty} → (a ≡ b → ⊥) → false ≡ is_yes (same_ty a b)
types_differ {a} {b} h = it_is_not (same_ty a b) h

-- Types that it is true of are equal.
pub same_types : (a b : Ty) → true ≡ is_yes (same_ty a b) → a ≡ b
same_types a b e = is_so (same_ty a b) e

-- Types that it is false of are not.
pub different_types : (a b : Ty) → false ≡ is_yes (same_ty a b) → a ≡ b → ⊥
different_types a b e = is_not_so (same_ty a b) e

-- How many types a list has, by what its word says.
module _ {w : List ℕ} {top l : ℕ} {r : Cell} (N : Node w top l) (e : r ≡ cell_of w l) where
  -- None.
  pub counts_none : r ≡ Nil → (ns : List ℕ) → Counted ns w l 0
  unfolding count_tys
  counts_none k ns = record { is = rw (list_nil ns N e k) refl; most = omega arith }

  -- One more than the rest.
  pub counts_one : {a b m : ℕ} → r ≡ Cons a b → ((ns : List ℕ) → Counted ns w b m) → (ns : List ℕ) → Counted ns w l (m + 1)
  unfolding count_tys
  counts_one {b = b} k C ns =
      let h = (cons_tail N e k).0 in
      let g = cons_node w l (sym e ∙ k) in
      let m = (C ns).most in
      record { is = rw (list_cons ns N e k, ← (C ns).is) (add-one _); most = omega arith }

-- A test of two numbers is a decision's test where they are equal just where the decision says yes.
test_is : {P : Type 0} (x y : ℕ) (d : Dec P) → (x ≡ y → P) → (P → x ≡ y) → eqb x y ≡ is_yes d
test_is x y (yes p) f g = eq-eqb x y (g p)
test_is x y (no h) f g = ne_eqb x y (λ e. h (f e))

-- Of two words of variables, whether they are one.
occurs_word : {ns : List ℕ} (v x : ℕ) → Names ns → eqb v x ≡ occurs (tyvar_of ns v) (var (tyvar_of ns x))
unfolding occurs
occurs_word {ns} v x M = test_is v x (same_tyvar (tyvar_of ns v) (tyvar_of ns x)) (ap (tyvar_of ns)) (tyvar_of_same ns M v x)

-- A variable stands in a variable where their words are equal.
pub occurs_var : {ns w : List ℕ} {top t : ℕ} {r : Shape} {x : ℕ} (v : ℕ) → Names ns → Node w top t → r ≡ shape_of w t → r ≡ Var x
    → eqb v x ≡ occurs (tyvar_of ns v) (tree ns w t)
occurs_var {ns} {x = x} v M N e k = rw (tree_var ns N e k) (occurs_word v x M)

-- A word below those of constructors is a variable's.
pub occurs_low : {ns : List ℕ} (w : List ℕ) {t : ℕ} (v : ℕ) → Names ns → t < first_nullary → eqb v t ≡ occurs (tyvar_of ns v) (tree ns w t)
occurs_low {ns} w {t} v M h = rw (low_var ns w t h) (occurs_word v t M)

-- In a constructor without arguments no variable stands.
occurs_none : (ns w : List ℕ) (v i : ℕ) → i < first_nullary → false ≡ occurs (tyvar_of ns v) (tree ns w (first_nullary + i))
unfolding occurs
occurs_none ns w v i h = rw (low_con ns w i h) refl

-- From those words on up to the nodes' it is such a constructor.
pub occurs_nullary : (ns w : List ℕ) {t : ℕ} (v : ℕ) → first_nullary ≤ t → t < first_node → false ≡ occurs (tyvar_of ns v) (tree ns w t)
occurs_nullary ns w {t} v h k = let e : first_nullary + (t - first_nullary) ≡ t = omega arith in rw e at (occurs_none ns w v (t - first_nullary) (omega arith))

-- Whether two words are the same type, by what they say.
module _ {ns w : List ℕ} {top s t : ℕ} {p q : Shape} (M : Names ns) (S : Node w top s) (T : Node w top t) (e : p ≡ shape_of w s) (f : q ≡ shape_of w t) where
  -- Variables are equal where their words are.
  pub same_vars : {x y : ℕ} → p ≡ Var x → q ≡ Var y → eqb x y ≡ is_yes (same_ty (tree ns w s) (tree ns w t))
  same_vars {x} {y} k l =
      rw (tree_var ns S e k, tree_var ns T f l)
      (test_is x y (same_ty (var (tyvar_of ns x)) (var (tyvar_of ns y))) (ap (λ z. var (tyvar_of ns z))) (λ g. tyvar_of_same ns M x y (cc)))

  -- A variable is no constructor.
  pub var_con : {x d l : ℕ} → p ≡ Var x → q ≡ Con d l → false ≡ is_yes (same_ty (tree ns w s) (tree ns w t))
  var_con k l = types_differ (λ g. let a = tree_var ns S e k in let b = tree_con ns T f l in let z : ◌≡◌ {A = ℕ} 0 1 = cc in omega arith)

  -- A variable is no arrow.
  pub var_arrow : {x c d : ℕ} → p ≡ Var x → q ≡ Arrow c d → false ≡ is_yes (same_ty (tree ns w s) (tree ns w t))
  var_arrow k l = types_differ (λ g. let a = tree_var ns S e k in let b = tree_arrow ns T f l in let z : ◌≡◌ {A = ℕ} 0 1 = cc in omega arith)

  -- A constructor is no variable.
  pub con_var : {c k y : ℕ} → p ≡ Con c k → q ≡ Var y → false ≡ is_yes (same_ty (tree ns w s) (tree ns w t))
  con_var k l = types_differ (λ g. let a = tree_con ns S e k in let b = tree_var ns T f l in let z : ◌≡◌ {A = ℕ} 0 1 = cc in omega arith)

  -- A constructor is no arrow.
  pub con_arrow : {c k a b : ℕ} → p ≡ Con c k → q ≡ Arrow a b → false ≡ is_yes (same_ty (tree ns w s) (tree ns w t))
  con_arrow k l = types_differ (λ g. let a = tree_con ns S e k in let b = tree_arrow ns T f l in let z : ◌≡◌ {A = ℕ} 0 1 = cc in omega arith)

  -- An arrow is no variable.
  pub arrow_var : {a b y : ℕ} → p ≡ Arrow a b → q ≡ Var y → false ≡ is_yes (same_ty (tree ns w s) (tree ns w t))
  arrow_var k l = types_differ (λ g. let a = tree_arrow ns S e k in let b = tree_var ns T f l in let z : ◌≡◌ {A = ℕ} 0 1 = cc in omega arith)

  -- An arrow is no constructor.
  pub arrow_con : {a b d l : ℕ} → p ≡ Arrow a b → q ≡ Con d l → false ≡ is_yes (same_ty (tree ns w s) (tree ns w t))
  arrow_con k l = types_differ (λ g. let a = tree_arrow ns S e k in let b = tree_con ns T f l in let z : ◌≡◌ {A = ℕ} 0 1 = cc in omega arith)

  -- Constructors of different names differ.
  pub names_differ : {c d k l : ℕ} → p ≡ Con c k → q ≡ Con d l → (c ≡ d → ⊥) → false ≡ is_yes (same_ty (tree ns w s) (tree ns w t))
  names_differ {c} {d} k l h = types_differ (λ g. let a = tree_con ns S e k in let b = tree_con ns T f l in h (name_of_same ns M c d (cc)))

  -- Those of one name are equal where their arguments are.
  pub same_cons : {c d k l : ℕ} (r : Bool) → p ≡ Con c k → q ≡ Con d l → c ≡ d → SameTys (list ns w k) (list ns w l) r
      → r ≡ is_yes (same_ty (tree ns w s) (tree ns w t))
  same_cons {c} {d} {k} {l} r m n h = go r
    where
      go : (r : Bool) → SameTys (list ns w k) (list ns w l) r → r ≡ is_yes (same_ty (tree ns w s) (tree ns w t))
      go true g = types_same (tree_con ns S e m ∙ rw (h, g) (sym (tree_con ns T f n)))
      go false g = types_differ (λ z. let a = tree_con ns S e m in let b = tree_con ns T f n in g (cc))

  -- Arrows are equal where both sides are.
  module _ {a b c d : ℕ} (k : p ≡ Arrow a b) (l : q ≡ Arrow c d) where
    -- Not where the left sides differ.
    pub left_differs : false ≡ is_yes (same_ty (tree ns w a) (tree ns w c)) → false ≡ is_yes (same_ty (tree ns w s) (tree ns w t))
    left_differs h = types_differ (λ g. let x = tree_arrow ns S e k in let y = tree_arrow ns T f l in different_types (tree ns w a) (tree ns w c) h (cc))

    -- Where those are equal, as the right sides are.
    pub left_same : {r : Bool} → true ≡ is_yes (same_ty (tree ns w a) (tree ns w c)) → r ≡ is_yes (same_ty (tree ns w b) (tree ns w d))
        → r ≡ is_yes (same_ty (tree ns w s) (tree ns w t))
    left_same {r} h = go r
      where
        go : (r : Bool) → r ≡ is_yes (same_ty (tree ns w b) (tree ns w d)) → r ≡ is_yes (same_ty (tree ns w s) (tree ns w t))
        go true g = types_same (let x = tree_arrow ns S e k in let y = tree_arrow ns T f l in let i = same_types (tree ns w a) (tree ns w c) h in let j = same_types (tree ns w b) (tree ns w d) g in cc)
        go false g = types_differ (λ z. let x = tree_arrow ns S e k in let y = tree_arrow ns T f l in different_types (tree ns w b) (tree ns w d) g (cc))

-- Whether two words are the same list of types, by what they say.
module _ {w : List ℕ} {top m n : ℕ} {p q : Cell} (ns : List ℕ) (S : Node w top m) (T : Node w top n) (e : p ≡ cell_of w m) (f : q ≡ cell_of w n) where
  -- Empty lists are equal.
  pub both_nil : p ≡ Nil → q ≡ Nil → list ns w m ≡ list ns w n
  both_nil k l = list_nil ns S e k ∙ sym (list_nil ns T f l)

  -- An empty list is none with a first type.
  pub nil_cons : {c d : ℕ} → p ≡ Nil → q ≡ Cons c d → list ns w m ≡ list ns w n → ⊥
  nil_cons k l g = let a = list_nil ns S e k in let b = list_cons ns T f l in let z : ◌≡◌ {A = ℕ} 0 1 = cc in omega arith

  -- And the other way round.
  pub cons_nil : {a b : ℕ} → p ≡ Cons a b → q ≡ Nil → list ns w m ≡ list ns w n → ⊥
  cons_nil k l g = let a = list_cons ns S e k in let b = list_nil ns T f l in let z : ◌≡◌ {A = ℕ} 0 1 = cc in omega arith

  module _ {a b c d : ℕ} (k : p ≡ Cons a b) (l : q ≡ Cons c d) where
    -- Lists whose first types differ do.
    pub head_differs : false ≡ is_yes (same_ty (tree ns w a) (tree ns w c)) → list ns w m ≡ list ns w n → ⊥
    head_differs h g = let x = list_cons ns S e k in let y = list_cons ns T f l in different_types (tree ns w a) (tree ns w c) h (cc)

    -- Where those are equal, the lists are as the rests are.
    pub head_same : (r : Bool) → true ≡ is_yes (same_ty (tree ns w a) (tree ns w c)) → SameTys (list ns w b) (list ns w d) r → SameTys (list ns w m) (list ns w n) r
    head_same r h = go r
      where
        go : (r : Bool) → SameTys (list ns w b) (list ns w d) r → SameTys (list ns w m) (list ns w n) r
        go true g = let x = list_cons ns S e k in let y = list_cons ns T f l in let i = same_types (tree ns w a) (tree ns w c) h in cc
        go false g = λ z. let x = list_cons ns S e k in let y = list_cons ns T f l in g (cc)
