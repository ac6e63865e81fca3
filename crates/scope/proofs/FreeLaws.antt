-- Whether a variable is free in an environment: in a list of predicates, a scheme, a row, and all rows.
use mathlib.Core.Path.{◌≡◌, refl, ap, sym, ◌∙◌}
use mathlib.Core.Bool.{Bool, true, false, ◌||◌, ◌&&◌}
use mathlib.Core.List.{List, [], ◌++◌}
use mathlib.Core.Option.{Option, none, some}
use Prim.Native.Nat.{ℕ, suc, ◌+◌, ◌-◌, ◌<◌, ◌≤◌}
use native.Mathlib.Omega.{arith}
use native.Mathlib.Numerals.{add-one}
use lib.ListN.{length}
use Rattle.meaning.specs.Ast.{Name, TyVar, Pred, Scheme}
use Rattle.meaning.specs.Map.{tyvars, elem}
use Rattle.meaning.specs.Subst.{ftv_preds, ftv_scheme, occurs}
use Rattle.meaning.specs.Generalize.{Env, env_ftv}
use Rattle.theorems.proofs.FreeVars.{elem-append, null-elem, occurs_preds, elem-ftv_preds, elem-ftv_scheme}
use Rattle.names.specs.Names.{tyvar_of}
use Rattle.ast.specs.Table.{cell_of, tree, Node}
use Rattle.ast.specs.declared.Cell.{Cell}
use Rattle.ast.specs.declared.Cell.TheVariants.{Nil, Cons}
use Rattle.ast.proofs.Laws.{cons_head, cons_tail}
use Rattle.vars.specs.Vars.{vars_of_word}
use Rattle.vars.proofs.Bound.{and_false}
use Rattle.subst.specs.Preds.{preds_of_word}
use Rattle.subst.specs.Schemes.{scheme_of_word}
use Rattle.subst.proofs.PredLaws.{preds_nil, preds_cons}
use Rattle.scope.specs.Scope.{closed_entry, local_entry, entry_of, scheme_in, with_scheme, env_from, env_of, Held, HeldClosed, EntryIn}
use Rattle.scope.specs.Sweeps.{ftv_in}
use Rattle.scope.specs.declared.Entry.{Entry}
use Rattle.scope.specs.declared.Entry.TheVariants.{Nothing}
use Rattle.scope.proofs.Envs.{name_at, scheme_at}

-- ## Tests

-- The second test that holds is enough.
or_yes : (a : Bool) → (a || true) ≡ true
or_yes true = refl
or_yes false = refl

-- One that fails may be left out.
or_no : (a : Bool) → (a || false) ≡ a
or_no true = refl
or_no false = refl

-- So may one that holds beside another.
and_yes : (a : Bool) → (a && true) ≡ a
and_yes true = refl
and_yes false = refl

-- The variables of predicates are those that occur in them.
preds_have : (v : TyVar) (ps : List Pred) → elem tyvars v (ftv_preds ps []) ≡ occurs_preds v ps
unfolding elem
preds_have v ps = elem-ftv_preds v ps [] ∙ or_no (occurs_preds v ps)

-- ## The loop of `in_preds`: what is left of the list has the variable just where all of it has

pub record Looking (ns w : List ℕ) (top ps x l : ℕ) : Type 0 where
  pub node : Node w top l
  pub same : occurs_preds (tyvar_of ns x) (preds_of_word ns w l) ≡ elem tyvars (tyvar_of ns x) (ftv_preds (preds_of_word ns w ps) [])

-- At first all is left.
pub looking : {w : List ℕ} {top ps : ℕ} (ns : List ℕ) (x : ℕ) → Node w top ps → Looking ns w top ps x ps
looking {w} {ps = ps} ns x N = record { node = N; same = sym (preds_have (tyvar_of ns x) (preds_of_word ns w ps)) }

-- What a cell of the list tells.
module _ {ns w : List ℕ} {top ps x l : ℕ} {r : Cell} (L : Looking ns w top ps x l) (e : r ≡ cell_of w l) where
  -- Nothing is left.
  pub looks_none : r ≡ Nil → false ≡ elem tyvars (tyvar_of ns x) (ftv_preds (preds_of_word ns w ps) [])
  looks_none k = rw (preds_nil ns L.node e k) at L.same

  module _ {a b : ℕ} (k : r ≡ Cons a b) where
    -- The first type is a word of the table.
    pub looks_node : Node w top a
    looks_node = (cons_head L.node e k).1

    -- The first type, and the others.
    opened : (occurs (tyvar_of ns x) (tree ns w a) || occurs_preds (tyvar_of ns x) (preds_of_word ns w b)) ≡ elem tyvars (tyvar_of ns x) (ftv_preds (preds_of_word ns w ps) [])
    opened = rw (preds_cons ns L.node e k) at L.same

    -- It has the variable.
    pub looks_hit : {p : Bool} → p ≡ occurs (tyvar_of ns x) (tree ns w a) → p ≡ true → true ≡ elem tyvars (tyvar_of ns x) (ftv_preds (preds_of_word ns w ps) [])
    looks_hit h i = rw (sym h ∙ i) at opened

    -- It has not, and what is left is shorter.
    pub looks_on : {p : Bool} → p ≡ occurs (tyvar_of ns x) (tree ns w a) → p ≡ false → (b < l) × Looking ns w top ps x b
    looks_on h i = let t = cons_tail L.node e k in (t.0, record { node = t.1; same = rw (sym h ∙ i) at opened })

-- ## The ways out of `in_scheme`: p says whether the scheme binds the variable

module _ (ns w : List ℕ) (vs ps t x : ℕ) {p : Bool} (h : p ≡ elem tyvars (tyvar_of ns x) (vars_of_word ns w vs)) where
  -- It does.
  pub bound_in : p ≡ true → false ≡ elem tyvars (tyvar_of ns x) (ftv_scheme (scheme_of_word ns w vs ps t))
  bound_in i = sym (elem-ftv_scheme (tyvar_of ns x) (scheme_of_word ns w vs ps t) ∙ rw (sym h ∙ i) (and_false (occurs_preds (tyvar_of ns x) (preds_of_word ns w ps) || occurs (tyvar_of ns x) (tree ns w t))))

  module _ (i : p ≡ false) {q : Bool} (g : q ≡ occurs (tyvar_of ns x) (tree ns w t)) where
    -- It does not: what the predicates and the type have.
    unbound : elem tyvars (tyvar_of ns x) (ftv_scheme (scheme_of_word ns w vs ps t)) ≡ (occurs_preds (tyvar_of ns x) (preds_of_word ns w ps) || q)
    unbound = elem-ftv_scheme (tyvar_of ns x) (scheme_of_word ns w vs ps t) ∙ rw (sym h ∙ i, g) (and_yes (occurs_preds (tyvar_of ns x) (preds_of_word ns w ps) || occurs (tyvar_of ns x) (tree ns w t)))

    -- The type has it.
    pub in_type : q ≡ true → true ≡ elem tyvars (tyvar_of ns x) (ftv_scheme (scheme_of_word ns w vs ps t))
    in_type j = sym (unbound ∙ rw j (or_yes (occurs_preds (tyvar_of ns x) (preds_of_word ns w ps))))

    -- It has not: then the predicates tell.
    pub in_others : {z : Bool} → q ≡ false → z ≡ elem tyvars (tyvar_of ns x) (ftv_preds (preds_of_word ns w ps) []) → z ≡ elem tyvars (tyvar_of ns x) (ftv_scheme (scheme_of_word ns w vs ps t))
    in_others j k = k ∙ preds_have (tyvar_of ns x) (preds_of_word ns w ps) ∙ sym (unbound ∙ rw j (or_no (occurs_preds (tyvar_of ns x) (preds_of_word ns w ps))))

-- ## The ways out of `in_row`: q is what `row_at` returned

module _ (ns w ev : List ℕ) (r : ℕ) {q : Entry} (e : q ≡ entry_of ev r) where
  -- There is no scheme.
  pub none_free : (x : ℕ) → q ≡ Nothing → false ≡ elem tyvars (tyvar_of ns x) (ftv_in (scheme_in ns w (entry_of ev r)))
  unfolding elem
  none_free x f = rw (sym e ∙ f)

  module _ (top : ℕ) (E : EntryIn ns w top (entry_of ev r)) {vs ps t : ℕ} where
    -- A closed scheme has no free variable.
    pub closed_free : (x : ℕ) → q ≡ closed_entry vs ps t → false ≡ elem tyvars (tyvar_of ns x) (ftv_in (scheme_in ns w (entry_of ev r)))
    closed_free x f =
        let H : HeldClosed ns w top vs ps t = rw (sym e ∙ f) at E in
        rw (sym e ∙ f) (sym (null-elem (tyvar_of ns x) (ftv_scheme (scheme_of_word ns w vs ps t)) H.closed))

    -- The words of any other.
    pub local_held : q ≡ local_entry vs ps t → Held ns w top vs ps t
    local_held f = rw (sym e ∙ f) at E

  -- Its scheme tells.
  pub local_free : (x : ℕ) {vs ps t : ℕ} {z : Bool} → q ≡ local_entry vs ps t → z ≡ elem tyvars (tyvar_of ns x) (ftv_scheme (scheme_of_word ns w vs ps t)) → z ≡ elem tyvars (tyvar_of ns x) (ftv_in (scheme_in ns w (entry_of ev r)))
  local_free x f g = rw (sym e ∙ f) g

-- ## The loop of `is_free`: the rows from number i on have the variable just where all have

-- The free variables of a name's scheme, and of the others.
ftv_with : (x : Name) (o : Option Scheme) (env : Env) → env_ftv (with_scheme x o env) ≡ ftv_in o ++ env_ftv env
unfolding env_ftv
ftv_with x none env = refl
ftv_with x (some c) env = refl

pub record Asking (ns w ev od : List ℕ) (x i : ℕ) : Type 0 where
  pub same : elem tyvars (tyvar_of ns x) (env_ftv (env_from ns w ev od i (length od - i))) ≡ elem tyvars (tyvar_of ns x) (env_ftv (env_of ns w ev od))

-- At first all.
pub asking : (ns w ev od : List ℕ) (x : ℕ) → Asking ns w ev od x 0
asking ns w ev od x = let z : length od - 0 ≡ length od = omega arith in record { same = rw z }

module _ {ns w ev od : List ℕ} {x i : ℕ} (A : Asking ns w ev od x i) where
  -- None is left.
  pub asked_all : length od ≤ i → false ≡ elem tyvars (tyvar_of ns x) (env_ftv (env_of ns w ev od))
  unfolding env_from env_ftv elem
  asked_all h = let z : length od - i ≡ 0 = omega arith in rw z at A.same

  module _ (h : i < length od) where
    -- The i-th, and those after it.
    split : (elem tyvars (tyvar_of ns x) (ftv_in (scheme_at ns w ev od i)) || elem tyvars (tyvar_of ns x) (env_ftv (env_from ns w ev od (suc i) (length od - suc i)))) ≡ elem tyvars (tyvar_of ns x) (env_ftv (env_of ns w ev od))
    unfolding env_from
    split =
        let z : length od - i ≡ suc (length od - suc i) = omega arith in
        sym (elem-append (tyvar_of ns x) (ftv_in (scheme_at ns w ev od i)) (env_ftv (env_from ns w ev od (suc i) (length od - suc i))))
        ∙ sym (ap (elem tyvars (tyvar_of ns x)) (ftv_with (name_at ns od i) (scheme_at ns w ev od i) (env_from ns w ev od (suc i) (length od - suc i)))) ∙ (rw z at A.same)

    -- It has the variable.
    pub asked_hit : {q : Bool} → q ≡ elem tyvars (tyvar_of ns x) (ftv_in (scheme_at ns w ev od i)) → q ≡ true → true ≡ elem tyvars (tyvar_of ns x) (env_ftv (env_of ns w ev od))
    asked_hit g j = rw (sym g ∙ j) at split

    -- It has not.
    pub asked_on : {q : Bool} → q ≡ elem tyvars (tyvar_of ns x) (ftv_in (scheme_at ns w ev od i)) → q ≡ false → Asking ns w ev od x (i + 1)
    asked_on g j = rw (add-one i) (record { same = rw (sym g ∙ j) at split })
