-- Lists and types that were tested, and what a scheme that was tested is.
use mathlib.Core.Path.{◌≡◌, ap}
use mathlib.Core.Bool.{Bool, true, false}
use mathlib.Core.List.{List, [], ◌∷◌}
use Prim.Native.Nat.{ℕ, suc, ◌*◌, ◌-◌, ◌<◌, ◌≤◌}
use native.Mathlib.Omega.{arith}
use lib.ListN.{length}
use Rattle.meaning.specs.Base.{if, count}
use Rattle.meaning.specs.Ast.{TyVar, qual}
use Rattle.meaning.specs.Map.{tyvars, elem}
use Rattle.meaning.specs.Subst.{add, ftv_type, ftv_preds, ftv_qual, ftv_scheme}
use Rattle.names.specs.Names.{Names, first_node, first_nullary}
use Rattle.ast.specs.Table.{cell_of, shape_of, tree, Node, Kept}
use Rattle.ast.specs.declared.Shape.{Shape}
use Rattle.ast.specs.declared.Shape.TheVariants.{Con}
use Rattle.ast.specs.declared.Cell.{Cell}
use Rattle.ast.specs.declared.Cell.TheVariants.{Nil, Cons}
use Rattle.ast.proofs.Laws.{low_var, low_node, kept_node}
use Rattle.vars.specs.Vars.{vars_of_word}
use Rattle.pairs.specs.Made.{Single}
use Rattle.subst.specs.Preds.{preds_of_word}
use Rattle.subst.specs.Schemes.{scheme_of_word, ReadyScheme}
use Rattle.free.specs.Free.{add_but, free_type, Wants}
use Rattle.free.proofs.Arms.{at_con, at_nil, at_cons, whole_type, whole_preds, scheme_is, qual_is, from_none}
use Rattle.supers.specs.declared.Root.TheVariants.{Context}
use Rattle.supers.specs.Rows.{row_at}
use Rattle.reduce.specs.Reduces.{ReadyReduce}
use Rattle.cases.specs.Posed.{Posed}
use Rattle.cases.specs.Typed.{TypedRows}
use Rattle.cases.proofs.Rowed.{type_of_lem}
use Rattle.replay_schemes.specs.Few.{FewIn, FewOf, Schemed}

-- ## Lists and types

-- One variable more at most.
add_few : (vs : List TyVar) (x : TyVar) (out : List TyVar) → count (add_but vs x out) ≤ suc (count out)
unfolding add_but add count
add_few vs x out = go (elem tyvars x vs) (elem tyvars x out)
  where
    go : (p q : Bool) → count (if p out (if q out (x ∷ out))) ≤ suc (count out)
    go true q = omega arith
    go false true = omega arith
    go false false = omega arith

-- The variables of a variable.
var_few : (ns w : List ℕ) (vs out : List TyVar) (a : ℕ) → a < first_nullary → count (free_type vs (tree ns w a) out) ≤ suc (count out)
unfolding free_type
var_few ns w vs out a h = rw (low_var ns w a h) (add_few vs _ out)

module _ {w : List ℕ} {top l most : ℕ} {r : Cell} (N : Node w top l) (e : r ≡ cell_of w l) where
  -- The empty list has none.
  pub few_nil : r ≡ Nil → FewIn w l most
  few_nil k = record { is = λ ns vs out. let x = ap count (at_nil ns N e vs out k) in omega arith }

  -- One variable, and then the rest.
  pub few_cons : {a b : ℕ} → r ≡ Cons a b → 0 < most → a < first_nullary → FewIn w b (most - 1) → FewIn w l most
  few_cons {a} k h v F = record {
    is = λ ns vs out.
        let x = ap count (at_cons ns N e vs out k) in
        let y = F.is ns vs (free_type vs (tree ns w a) out) in
        let z = var_few ns w vs out a v in
        omega arith;
  }

-- A constructor has those of its arguments.
pub few_con : {w : List ℕ} {top t most c l : ℕ} {r : Shape} → Node w top t → r ≡ shape_of w t → r ≡ Con c l → FewIn w l most → FewOf w t most
few_con N e k F = record { is = λ ns vs out. rw (at_con ns N e vs out k) (F.is ns vs out) }

-- ## Schemes

module _ {ns w : List ℕ} {n top left vs ps t : ℕ} (N : Names ns) (S : Schemed w n top left vs ps t) (h : n ≤ length w) where
  -- What the variables of the type ask for.
  pub type_wants : Wants ns w top (vars_of_word ns w 0) (ftv_type (tree ns w t) (vars_of_word ns w 0))
  type_wants =
      let x = S.ty.is ns (vars_of_word ns w 0) (vars_of_word ns w 0) in
      let y = ap count (whole_type ns w (vars_of_word ns w 0) (tree ns w t)) in
      let r = S.fits.room in
      record { names = N; room = omega arith }

  -- Those of the predicates.
  pub preds_wants : Wants ns w top (vars_of_word ns w 0) (ftv_preds (preds_of_word ns w ps) (vars_of_word ns w 0))
  preds_wants =
      let x = S.preds.is ns (vars_of_word ns w 0) (vars_of_word ns w 0) in
      let y = ap count (whole_preds ns w (vars_of_word ns w 0) S.fits.first) in
      let r = S.fits.room in
      record { names = N; room = omega arith }

  -- Those of the scheme, whatever variables it binds.
  pub scheme_wants : (v : ℕ) → Wants ns w top [] (ftv_scheme (scheme_of_word ns w v ps t))
  unfolding count
  scheme_wants v =
      let x = S.preds.is ns (vars_of_word ns w v) (free_type (vars_of_word ns w v) (tree ns w t) (vars_of_word ns w 0)) in
      let z = S.ty.is ns (vars_of_word ns w v) (vars_of_word ns w 0) in
      let y = ap count (scheme_is ns S.fits.first v t) in
      let q = ap count (from_none ns w) in
      let r = S.fits.room in
      record { names = N; room = omega arith }

  -- Those of the qualified type.
  pub qual_wants : Wants ns w top [] (ftv_qual (qual (preds_of_word ns w ps) (tree ns w t)))
  qual_wants =
      let x = (scheme_wants 0).room in
      let y = ap count (qual_is ns w ps t) in
      record { names = N; room = omega arith }

-- One pair at the end of the words, and the scheme below.
pub single_ready : {ns w w' : List ℕ} {n top left vs ps t v u a k : ℕ} → Names ns → Schemed w n top left vs ps t → n ≤ length w → length w' ≡ length w
    → u < first_node → Single w w' n v u a k → ReadyScheme ns w' top left a k vs ps t
single_ready {w = w} {w'} {n} {top} N S h e f P =
    let r = S.fits.room in
    let K : Kept w w' top = record { at = λ i l. P.low i (omega arith) } in
    let L : 4 * top ≤ length w' = omega arith in
    rw (P.begins, P.one) record {
      qual = record {
        ty = record { names = N; node = kept_node K L S.fits.second; room = omega arith; sub = P.sub top (omega arith) (low_node S.vars.table f) };
        preds = kept_node K L S.fits.first;
      };
      vars = kept_node K L S.vars;
    }

-- ## Rows

-- What `reduce` asks, where the stack ends after n words.
pub reduce_ready : {ns w il bs : List ℕ} {n top left h l t k : ℕ} → Names ns → n ≤ length w → Posed w n il top left h l t → TypedRows top bs k → 3 * k ≤ length bs
    → ReadyReduce ns w il bs top left n (Context h) l 0 k
reduce_ready {ns} {bs = bs} N e P T f = record {
  names = N;
  givens = P.fits.first;
  few = (P.named, let s = P.short.is ns in omega arith);
  heads = P.heads;
  rows = f;
  types = λ i a b. type_of_lem P.fits.first.table (row_at bs i) (T.row i b);
  room = P.fits.room;
  fits = e;
}
