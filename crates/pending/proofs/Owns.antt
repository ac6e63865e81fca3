-- Predicates of the binding's own, and the first row of a predicate: what each way out says.
use mathlib.Core.Path.{◌≡◌, refl, ap, sym, ◌∙◌}
use mathlib.Core.Bool.{Bool, true, false, not, ◌||◌}
use mathlib.Core.List.{List, [], ◌∷◌}
use mathlib.Core.Option.{none, some}
use Prim.Native.Nat.{ℕ, ◌+◌, ◌<◌, ◌≤◌}
use native.Mathlib.Omega.{arith}
use Rattle.meaning.specs.Base.{is_yes}
use Rattle.meaning.specs.Ast.{TyVar, dvar, Ty, var, Pred, pred, same_ty}
use Rattle.meaning.specs.Map.{tyvars, elem}
use Rattle.meaning.specs.Subst.{ftv_type, occurs}
use Rattle.names.specs.Names.{Names, name_of, tyvar_of}
use Rattle.names.proofs.Distinct.{name_of_same}
use Rattle.ast.specs.Table.{shape_of, tree, Node}
use Rattle.ast.specs.declared.Shape.{Shape}
use Rattle.ast.specs.declared.Shape.TheVariants.{Var, Con, Arrow}
use Rattle.ast.proofs.Laws.{tree_var, tree_con, tree_arrow}
use Rattle.theorems.proofs.FreeVars.{elem_ftv_type}
use Rattle.supers.specs.Rows.{row_at, with_row, binders_in, HasWord, Binders}
use Rattle.supers.proofs.RowLaws.{rows_end}
use Rattle.supers.specs.declared.rows.Row.{Row}
use Rattle.supers.specs.declared.rows.Row.TheVariants.{Pending, Replaced}
use Rattle.std.specs.Prelude.{Option, Some, None}
use Rattle.pending.specs.Owned.{first_of, owns, FindsEarlier}
use Rattle.pending.proofs.Sweeps.{one_row}
use Rattle.pending.proofs.Loops.{binders_split}
use Rattle.pending.proofs.Firsts.{no_says, yes_says, first_here, first_there, first_none, first_left, first_right}

-- Either of two tests.
or_first : (a b : Bool) → a ≡ true → true ≡ (a || b)
or_first true b e = refl
or_first false b e = cc

or_second : (a b : Bool) → a ≡ false → b ≡ (a || b)
or_second true b e = cc
or_second false b e = refl

or_false : (a : Bool) → (a || false) ≡ a
or_false true = refl
or_false false = refl

-- ## `is_own`

-- The variables of a type are those that occur in it.
pub type_has : (x : TyVar) (a : Ty) → elem tyvars x (ftv_type a []) ≡ occurs x a
unfolding elem
type_has x a = elem_ftv_type x a [] ∙ or_false (occurs x a)

-- The type has the variable.
pub own_in_type : (fs : Ty) (es : List TyVar) (x : TyVar) → true ≡ occurs x fs → true ≡ owns (ftv_type fs []) es (var x)
unfolding owns
own_in_type a es x e = or_first _ _ (type_has x a ∙ sym e)

-- It has it not: what the environment says.
pub own_by_scope : {f : Bool} (a : Ty) (es : List TyVar) (x : TyVar) → false ≡ occurs x a → f ≡ elem tyvars x es → not f ≡ owns (ftv_type a []) es (var x)
unfolding owns
own_by_scope a es x e h = rw h (or_second _ _ (type_has x a ∙ sym e))

module _ {w : List ℕ} {top u : ℕ} {s : Shape} (ns : List ℕ) (fs es : List TyVar) (N : Node w top u) (e : s ≡ shape_of w u) where
  -- The type is a variable.
  pub own_var : {x : ℕ} {r : Bool} → s ≡ Var x → r ≡ owns fs es (var (tyvar_of ns x)) → r ≡ owns fs es (tree ns w u)
  own_var h k = rw (tree_var ns N e h) k

  -- A constructor.
  pub own_con : {c l : ℕ} → s ≡ Con c l → true ≡ owns fs es (tree ns w u)
  unfolding owns
  own_con h = rw (tree_con ns N e h) refl

  -- An arrow.
  pub own_arrow : {a b : ℕ} → s ≡ Arrow a b → true ≡ owns fs es (tree ns w u)
  unfolding owns
  own_arrow h = rw (tree_arrow ns N e h) refl

-- ## `equal_row`

module _ {ns w bs : List ℕ} {top u : ℕ} (N : Names ns) (U : Node w top u) (j c : ℕ) (B : Binders w bs top (j + 1)) {q : Row} (e : q ≡ row_at bs j) where
  -- What is asked of the types.
  pub same_ready : {d b t : ℕ} → q ≡ Pending d b t → Node w top t
  same_ready h = rw (sym e ∙ h) at (B.types j (omega arith))

  -- The row was replaced.
  pub row_gone : {d x : ℕ} → q ≡ Replaced d x → FindsEarlier (binders_in ns w bs j (j + 1)) (pred (name_of ns c) (tree ns w u)) None
  row_gone {d} {x} h =
      let b : binders_in ns w bs j (j + 1) ≡ [] = one_row ns w bs j ∙ ap (λ z. with_row ns w z []) (sym e ∙ h) in
      record { says = rw b (first_none _) }

  module _ {d b t : ℕ} (h : q ≡ Pending d b t) where
    -- Its binder.
    alone : binders_in ns w bs j (j + 1) ≡ (dvar d, pred (name_of ns b) (tree ns w t)) ∷ []
    alone = one_row ns w bs j ∙ ap (λ z. with_row ns w z []) (sym e ∙ h)

    -- Another predicate.
    other : (pred (name_of ns b) (tree ns w t) ≡ pred (name_of ns c) (tree ns w u) → ⊥) → FindsEarlier (binders_in ns w bs j (j + 1)) (pred (name_of ns c) (tree ns w u)) None
    other n = record { says = rw alone (first_there (dvar d, pred (name_of ns b) (tree ns w t)) [] (pred (name_of ns c) (tree ns w u)) n ∙ first_none _) }

    -- It is of another class.
    pub other_class : (b ≡ c → ⊥) → FindsEarlier (binders_in ns w bs j (j + 1)) (pred (name_of ns c) (tree ns w u)) None
    other_class n = other (λ k. n (name_of_same ns N b c (ap (λ (p : Pred). p.class) k)))

    -- It is at another type.
    pub other_type : false ≡ is_yes (same_ty (tree ns w t) (tree ns w u)) → FindsEarlier (binders_in ns w bs j (j + 1)) (pred (name_of ns c) (tree ns w u)) None
    other_type n = other (λ k. no_says (same_ty (tree ns w t) (tree ns w u)) (sym n) (ap (λ (p : Pred). p.ty) k))

    -- It is the wanted one.
    pub same_row : b ≡ c → true ≡ is_yes (same_ty (tree ns w t) (tree ns w u)) → FindsEarlier (binders_in ns w bs j (j + 1)) (pred (name_of ns c) (tree ns w u)) (Some d)
    same_row k s =
        let v : tree ns w t ≡ tree ns w u = yes_says (same_ty (tree ns w t) (tree ns w u)) (sym s) in
        let p : pred (name_of ns b) (tree ns w t) ≡ pred (name_of ns c) (tree ns w u) = ap (λ z. pred (name_of ns z) (tree ns w t)) k ∙ ap (pred (name_of ns c)) v in
        let a = first_here (dvar d, pred (name_of ns b) (tree ns w t)) [] (pred (name_of ns c) (tree ns w u)) p in
        let f : HasWord (Pending d b t) = rw (sym e ∙ h) at (B.rows.dicts j (omega arith)) in
        record { says = (rw alone (a ∙ ap (λ z. some (dvar d, z)) p), f) }

-- ## The loop of `earlier`: no row before number j has the predicate

pub record Seeking (ns w bs : List ℕ) (i : ℕ) (p : Pred) (j : ℕ) : Type 0 where
  pub under : j ≤ i
  pub nowhere : first_of (binders_in ns w bs 0 j) p ≡ none

-- At first there is none.
pub seeking : (ns w bs : List ℕ) (i : ℕ) (p : Pred) → Seeking ns w bs i p 0
seeking ns w bs i p = record { under = omega arith; nowhere = rw (rows_end ns w bs 0 0 (omega arith)) (first_none p) }

-- Of rows that stand for binders the first ones do.
pub binders_fewer : {w bs : List ℕ} {top n : ℕ} (m : ℕ) → Binders w bs top n → m ≤ n → Binders w bs top m
binders_fewer m B h = let f = B.rows.fits in record {
  rows = record { fits = omega arith; dicts = λ j l. B.rows.dicts j (omega arith) };
  types = λ j l. B.types j (omega arith);
}

module _ {ns w bs : List ℕ} {i j : ℕ} {p : Pred} (S : Seeking ns w bs i p j) where
  -- There is none at all.
  pub sought_all : i ≤ j → FindsEarlier (binders_in ns w bs 0 i) p None
  sought_all h = let u = S.under in let e : j ≡ i = omega arith in record { says = rw e at S.nowhere }

  module _ {r : Option ℕ} (h : j < i) (F : FindsEarlier (binders_in ns w bs j (j + 1)) p r) where
    -- The rows up to number j and that one.
    sought_both : first_of (binders_in ns w bs 0 (j + 1)) p ≡ first_of (binders_in ns w bs j (j + 1)) p
    sought_both = ap (λ os. first_of os p) (binders_split ns w bs 0 j (j + 1) (omega arith) (omega arith)) ∙ first_right (binders_in ns w bs 0 j) (binders_in ns w bs j (j + 1)) p S.nowhere

    -- Row j is it.
    pub sought_found : {d : ℕ} → r ≡ Some d → FindsEarlier (binders_in ns w bs 0 i) p (Some d)
    sought_found k =
        let A = rw k at F.says in
        record { says = (rw (binders_split ns w bs 0 (j + 1) i (omega arith) (omega arith)) (first_left (binders_in ns w bs 0 (j + 1)) (binders_in ns w bs (j + 1) i) p (sought_both ∙ A.0)), A.1) }

    -- It is not.
    pub sought_on : r ≡ None → Seeking ns w bs i p (j + 1)
    sought_on k = record { under = omega arith; nowhere = sought_both ∙ (rw k at F.says) }
