-- What is wanted and collected at each kind of type and list, and for schemes.
use mathlib.Core.Path.{◌≡◌, sym, ◌∙◌}
use mathlib.Core.List.{List, []}
use Prim.Native.Nat.{ℕ, suc}
use native.Mathlib.Omega.{arith}
use Rattle.meaning.specs.Ast.{TyVar, Ty, qual}
use Rattle.meaning.specs.Subst.{ftv_type, ftv_preds, ftv_qual, ftv_scheme}
use Rattle.names.specs.Names.{tyvar_of}
use Rattle.ast.specs.Table.{shape_of, cell_of, tree, list, Node}
use Rattle.ast.specs.declared.Shape.{Shape}
use Rattle.ast.specs.declared.Shape.TheVariants.{Var, Con, Arrow}
use Rattle.ast.specs.declared.Cell.{Cell}
use Rattle.ast.specs.declared.Cell.TheVariants.{Nil, Cons}
use Rattle.ast.proofs.Laws.{tree_var, tree_con, tree_arrow, list_nil, list_cons}
use Rattle.vars.specs.Vars.{vars_of_word}
use Rattle.vars.proofs.VarLaws.{low_vars}
use Rattle.subst.specs.Preds.{preds_of_word}
use Rattle.subst.specs.Schemes.{scheme_of_word}
use Rattle.subst.proofs.PredLaws.{preds_types}
use Rattle.free.specs.Free.{add_but, free_type, free_types}
use Rattle.free.proofs.Plain.{none_type, none_types, without_none, without_both}

-- ## At a type: r is what `shape_at` returned

module _ {w : List ℕ} {top t : ℕ} (ns : List ℕ) (N : Node w top t) {r : Shape} (e : r ≡ shape_of w t) (vs out : List TyVar) where
  -- A variable.
  pub at_var : {x : ℕ} → r ≡ Var x → free_type vs (tree ns w t) out ≡ add_but vs (tyvar_of ns x) out
  unfolding free_type
  at_var k = rw (tree_var ns N e k)

  -- A constructor: its arguments.
  pub at_con : {c l : ℕ} → r ≡ Con c l → free_type vs (tree ns w t) out ≡ free_types vs (list ns w l) out
  unfolding free_type
  at_con k = rw (tree_con ns N e k)

  -- An arrow: the left side, then the right one.
  pub at_arrow : {a b : ℕ} → r ≡ Arrow a b → free_type vs (tree ns w t) out ≡ free_type vs (tree ns w b) (free_type vs (tree ns w a) out)
  unfolding free_type
  at_arrow k = rw (tree_arrow ns N e k)

-- ## At a list: r is what `cell_at` returned

module _ {w : List ℕ} {top l : ℕ} (ns : List ℕ) (N : Node w top l) {r : Cell} (e : r ≡ cell_of w l) (vs out : List TyVar) where
  -- No types.
  pub at_nil : r ≡ Nil → free_types vs (list ns w l) out ≡ out
  unfolding free_type
  at_nil k = rw (list_nil ns N e k)

  -- The first type, then the rest.
  pub at_cons : {a b : ℕ} → r ≡ Cons a b → free_types vs (list ns w l) out ≡ free_types vs (list ns w b) (free_type vs (tree ns w a) out)
  unfolding free_type
  at_cons k = rw (list_cons ns N e k)

-- ## The case of no variables that are passed over

module _ (ns w : List ℕ) (out : List TyVar) where
  -- A type.
  pub whole_type : (t : Ty) → free_type (vars_of_word ns w 0) t out ≡ ftv_type t out
  whole_type t = rw (low_vars ns w 0 (omega arith)) (none_type t out)

  -- A list of predicates.
  pub whole_preds : {top l : ℕ} → Node w top l → free_types (vars_of_word ns w 0) (list ns w l) out ≡ ftv_preds (preds_of_word ns w l) out
  whole_preds {l = l} N = rw (low_vars ns w 0 (omega arith)) (none_types (list ns w l) out ∙ sym (preds_types ns (suc l) l out (omega arith) N))

-- ## Schemes

-- The type first, then the predicates.
pub scheme_is : {w : List ℕ} {top ps : ℕ} (ns : List ℕ) → Node w top ps → (vs t : ℕ)
    → ftv_scheme (scheme_of_word ns w vs ps t) ≡ free_types (vars_of_word ns w vs) (list ns w ps) (free_type (vars_of_word ns w vs) (tree ns w t) (vars_of_word ns w 0))
unfolding ftv_scheme ftv_qual
scheme_is {w} {ps = ps} ns N vs t =
    rw (low_vars ns w 0 (omega arith), preds_types ns (suc ps) ps (ftv_type (tree ns w t) []) (omega arith) N) (without_both (list ns w ps) (tree ns w t) (vars_of_word ns w vs))

-- A scheme of no variables has those of its qualified type.
pub qual_is : (ns w : List ℕ) (ps t : ℕ) → ftv_scheme (scheme_of_word ns w 0 ps t) ≡ ftv_qual (qual (preds_of_word ns w ps) (tree ns w t))
unfolding ftv_scheme
qual_is ns w ps t = rw (low_vars ns w 0 (omega arith)) (without_none (ftv_qual (qual (preds_of_word ns w ps) (tree ns w t))))

-- A scheme's list begins with no variables.
pub from_none : (ns w : List ℕ) → vars_of_word ns w 0 ≡ []
from_none ns w = low_vars ns w 0 (omega arith)
