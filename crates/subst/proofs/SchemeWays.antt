-- Laws of schemes: their free variables by those of their parts, and the ways out of what is done to them.
use mathlib.Core.Path.{◌≡◌, refl, sym, ◌∙◌}
use mathlib.Core.Bool.{Bool, true, false, ◌&&◌, true≢false}
use mathlib.Core.List.{List, []}
use Prim.Native.Nat.{ℕ, suc}
use native.Mathlib.Omega.{arith}
use Rattle.meaning.specs.Base.{null}
use Rattle.meaning.specs.Ast.{qual, forall}
use Rattle.meaning.specs.Budget.{done}
use Rattle.meaning.specs.Subst.{apply_qual, apply_scheme, ftv_type, ftv_types, ftv_qual, ftv_scheme}
use Rattle.ast.specs.Table.{tree, list, Node}
use Rattle.vars.specs.Vars.{vars_of_word, all_in}
use Rattle.vars.proofs.VarLaws.{kept_vars}
use Rattle.vars.proofs.Bound.{and_left, and_false, all_types}
use Rattle.pairs.specs.Pairs.{sub_at}
use Rattle.pairs.proofs.Frames.{stands_refl}
use Rattle.apply.specs.Region.{sub_but}
use Rattle.apply.proofs.Hand.{Then, then_done, refuse_on}
use Rattle.subst.specs.Preds.{preds_of_word}
use Rattle.subst.specs.Quals.{QualAnswer, GivesQual}
use Rattle.subst.specs.Schemes.{scheme_of_word, ReadyScheme, SchemeAnswer, GivesScheme}
use Rattle.subst.specs.AppliedQual.{AppliedQual}
use Rattle.subst.specs.AppliedQual.{Done, Refused}
use Rattle.subst.proofs.PredLaws.{preds_types}

module _ {w : List ℕ} {top ps : ℕ} (ns : List ℕ) (N : Node w top ps) (vs t : ℕ) where
  -- A scheme is closed where its predicates and its type are bound.
  closed_is : null (ftv_scheme (scheme_of_word ns w vs ps t)) ≡ (all_in (ftv_types (list ns w ps) []) (vars_of_word ns w vs) && all_in (ftv_type (tree ns w t) []) (vars_of_word ns w vs))
  unfolding ftv_scheme ftv_qual
  closed_is = rw (preds_types ns (suc ps) ps (ftv_type (tree ns w t) []) (omega arith) N) (all_types (list ns w ps) (ftv_type (tree ns w t) []) (vars_of_word ns w vs))

  module _ {p : Bool} (h : p ≡ all_in (ftv_type (tree ns w t) []) (vars_of_word ns w vs)) where
    -- One whose type is bound, as its predicates.
    pub closed_preds : {q : Bool} → p ≡ true → q ≡ all_in (ftv_types (list ns w ps) []) (vars_of_word ns w vs) → q ≡ null (ftv_scheme (scheme_of_word ns w vs ps t))
    closed_preds i g = g ∙ sym (closed_is ∙ and_left (sym h ∙ i))

    -- One whose type is not.
    pub not_closed : p ≡ false → false ≡ null (ftv_scheme (scheme_of_word ns w vs ps t))
    not_closed i = sym (closed_is ∙ rw (sym h ∙ i) (and_false (all_in (ftv_types (list ns w ps) []) (vars_of_word ns w vs))))

-- What `apply_scheme` gives: q is what `is_closed` returned.
module _ {ns w : List ℕ} {top left at k vs ps t : ℕ} {q : Bool} (R : ReadyScheme ns w top left at k vs ps t) (e : q ≡ null (ftv_scheme (scheme_of_word ns w vs ps t))) where
  -- A closed scheme stays.
  pub scheme_stays : q ≡ true → GivesScheme ns w w top left vs ps t (apply_scheme (sub_at ns w at k) (scheme_of_word ns w vs ps t) left) (Done ps t top left)
  unfolding apply_scheme
  scheme_stays i = record {
    stands = stands_refl _ _ _;
    answer = (rw (sym e ∙ i), (R.qual.preds, record { node = R.qual.ty.node; more = omega arith; spent = omega arith; down = omega arith }));
    closed = λ z. (refl, refl);
  }

  module _ (i : q ≡ false) {w' : List ℕ} {r : AppliedQual} (G : GivesQual ns w w' top left (apply_qual (sub_but ns w vs at k) (qual (preds_of_word ns w ps) (tree ns w t)) left) r) where
    -- Of another one the qualified type, without the scheme's variables.
    under : Then (apply_scheme (sub_at ns w at k) (scheme_of_word ns w vs ps t) left) (apply_qual (sub_but ns w vs at k) (qual (preds_of_word ns w ps) (tree ns w t)) left) (λ u l. done (forall (vars_of_word ns w vs) u) l)
    unfolding apply_scheme
    under = record { is = rw (sym e ∙ i) }

    -- Its answer is one for the scheme.
    scheme_answer : (r : AppliedQual) → QualAnswer ns w' top left (apply_qual (sub_but ns w vs at k) (qual (preds_of_word ns w ps) (tree ns w t)) left) r
        → SchemeAnswer ns w' top left vs (apply_scheme (sub_at ns w at k) (scheme_of_word ns w vs ps t) left) r
    scheme_answer (Done ps' t' top' left') a =
        let g = a.1.1 in let s = g.spent in (
          rw (kept_vars ns G.stands.low R.vars) (then_done (qual (preds_of_word ns w' ps') (tree ns w' t')) left' under a.0),
          (a.1.0, record { node = g.node; more = g.more; spent = omega arith; down = g.down }),
        )
    scheme_answer (Refused u top' left') a = refuse_on under a (omega arith) (omega arith)

    -- That is given.
    pub scheme_goes : GivesScheme ns w w' top left vs ps t (apply_scheme (sub_at ns w at k) (scheme_of_word ns w vs ps t) left) r
    scheme_goes = record { stands = G.stands; answer = scheme_answer r G.answer; closed = λ z. absurd (true≢false (sym z ∙ sym e ∙ i)) }
