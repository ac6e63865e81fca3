-- The test for ambiguous predicates: what each way out says, and the test of the meaning.
use mathlib.Core.Path.{◌≡◌, refl, ap, sym, ◌∙◌}
use mathlib.Core.Bool.{Bool, true, false, not, ◌||◌, ◌&&◌, false≢true}
use mathlib.Core.List.{List, [], ◌∷◌}
use mathlib.Core.Option.{some}
use Prim.Native.Nat.{ℕ, suc, ◌+◌, ◌*◌, ◌<◌, ◌≤◌}
use native.Mathlib.Omega.{arith}
use native.Mathlib.Numerals.{add-one}
use lib.ListN.{length}
use Rattle.meaning.specs.Base.{if, any, first}
use Rattle.meaning.specs.Ast.{TyVar, Ty, var, con, arrow, Pred, Binder}
use Rattle.meaning.specs.Budget.{after}
use Rattle.meaning.specs.Map.{tyvars, elem}
use Rattle.meaning.specs.Subst.{add, ftv_type, occurs}
use Rattle.meaning.specs.Reduce.{is_head_normal}
use Rattle.meaning.specs.Generalize.{env_ftv, preds_of, is_ambiguous, unless_ambiguous}
use Rattle.names.specs.Names.{first_node, tyvar_of}
use Rattle.ast.specs.Table.{shape_of, tree, Node}
use Rattle.ast.specs.declared.Shape.{Shape}
use Rattle.ast.specs.declared.Shape.TheVariants.{Var, Con, Arrow}
use Rattle.ast.proofs.Laws.{tree_var, tree_con, tree_arrow}
use Rattle.errors.specs.declared.Refusal.TheVariants.{Ambiguous}
use Rattle.pairs.proofs.Frames.{stands_refl}
use Rattle.apply.proofs.Hand.{refuse_here, refuse_same}
use Rattle.supers.specs.Rows.{row_at, with_row, binders_in, TypeIn, Binders}
use Rattle.supers.specs.declared.rows.Row.{Row}
use Rattle.supers.specs.declared.rows.Row.TheVariants.{Pending, Replaced}
use Rattle.supers.proofs.RowLaws.{row_step, rows_end}
use Rattle.scope.specs.Scope.{env_of}
use Rattle.pending.proofs.Owns.{type_has}
use Rattle.canonical.specs.Named.{rows_qual}
use Rattle.std.specs.Prelude.{Result, Ok, Err}
use Rattle.errors.specs.declared.Refusal.{Refusal}
use Rattle.generalize.specs.Named.{Named}
use Rattle.generalize.specs.Named.{Done as Named-Done, Refused as Named-Refused}
use Rattle.generalize.specs.Tested.{strays, stray_pred, stray_row, refusing, Tests}
use Rattle.generalize.specs.Naming.{Unnamed, named_out, NamedAs, GivesNames}
use Rattle.generalize.specs.Generalizes.{AllVariable, Left, concluded_out, GivesConcluded}

-- Nothing more than a test.
or_false : (a : Bool) → (a || false) ≡ a
or_false true = refl
or_false false = refl

-- ## `is_lost`
-- The type has the variable.
pub lost_not : (a : Ty) (es : List TyVar) (x : TyVar) → true ≡ occurs x a → false ≡ strays (ftv_type a []) es (var x)
unfolding strays
lost_not a es x e = rw (type_has x a, sym e) refl

-- It has it not: what the environment says.
pub lost_by_scope : {f : Bool} (a : Ty) (es : List TyVar) (x : TyVar) → false ≡ occurs x a → f ≡ elem tyvars x es → not f ≡ strays (ftv_type a []) es (var x)
unfolding strays
lost_by_scope a es x e h = rw (h, type_has x a, sym e) refl

-- ## `is_stray`
module _ (bs : List ℕ) (i : ℕ) {q : Row} (ns w : List ℕ) (fs es : List TyVar) (e : q ≡ row_at bs i) where
  -- The row was replaced.
  pub stray_gone : {d x : ℕ} → q ≡ Replaced d x → false ≡ stray_row fs es ns w (row_at bs i)
  stray_gone h = rw (sym e ∙ h) refl

  module _ {d c u : ℕ} {s : Shape} {top : ℕ} (h : q ≡ Pending d c u) (N : Node w top u) (k : s ≡ shape_of w u) where
    -- Its type is a variable.
    pub stray_var : {x : ℕ} {r : Bool} → s ≡ Var x → r ≡ strays fs es (var (tyvar_of ns x)) → r ≡ stray_row fs es ns w (row_at bs i)
    stray_var v f = rw (sym e ∙ h, tree_var ns N k v) f

    -- A constructor.
    pub stray_con : {a b : ℕ} → s ≡ Con a b → false ≡ stray_row fs es ns w (row_at bs i)
    unfolding strays
    stray_con v = rw (sym e ∙ h, tree_con ns N k v) refl

    -- An arrow.
    pub stray_arrow : {a b : ℕ} → s ≡ Arrow a b → false ≡ stray_row fs es ns w (row_at bs i)
    unfolding strays
    stray_arrow v = rw (sym e ∙ h, tree_arrow ns N k v) refl

-- ## `row_of`
-- A pending row.
pub row_first : (bs : List ℕ) (i : ℕ) {d c u : ℕ} {q : Row} → q ≡ row_at bs i → q ≡ Pending d c u → Err (Ambiguous c u) ≡ refusing (row_at bs i)
row_first bs i e h = rw (sym e ∙ h) refl

-- One that was replaced.
pub row_none : (bs : List ℕ) (i : ℕ) {d x : ℕ} {q : Row} → q ≡ row_at bs i → q ≡ Replaced d x → Ok tt ≡ refusing (row_at bs i)
row_none bs i e h = rw (sym e ∙ h) refl

-- The type of a pending row is a word of the table.
pub stray_node : {w bs : List ℕ} {top n d c u : ℕ} {q : Row} (i : ℕ) → Binders w bs top n → i < n → q ≡ row_at bs i → q ≡ Pending d c u → Node w top u
stray_node i B l e h = rw (sym e ∙ h) at (B.types i l)

-- It can be looked at.
pub node_room : {w : List ℕ} {top u : ℕ} → Node w top u → 4 * u + 4 ≤ 4 * first_node + length w
node_room N = let b = N.below in let r = N.table.room in omega arith

-- ## the loop: no row before number i is ambiguous
pub record Testing (fs es : List TyVar) (ns w bs : List ℕ) (n i : ℕ) : Type 0 where
  pub under : i ≤ n
  pub same : first (stray_pred fs es) (preds_of (binders_in ns w bs 0 n)) ≡ first (stray_pred fs es) (preds_of (binders_in ns w bs i n))

-- At first none was tested.
pub testing : (fs es : List TyVar) (ns w bs : List ℕ) (n : ℕ) → Testing fs es ns w bs n 0
testing fs es ns w bs n = record { under = omega arith; same = refl }

module _ {fs es : List TyVar} {ns w bs : List ℕ} {n i : ℕ} (T : Testing fs es ns w bs n i) where
  -- There is none at all.
  pub tested_all : {top : ℕ} → n ≤ i → Tests fs es ns w top (preds_of (binders_in ns w bs 0 n)) (Ok tt)
  unfolding first
  tested_all h = record { says = T.same ∙ rw (rows_end ns w bs i n h) refl }

  module _ (h : i < n) where
    -- Row i is none.
    pub tested_on : false ≡ stray_row fs es ns w (row_at bs i) → Testing fs es ns w bs n (i + 1)
    unfolding first
    tested_on e = rw (add-one i) (record { under = h; same = T.same ∙ rw (row_step ns w bs i n h) (go (row_at bs i) e) })
      where
        go : (r : Row) → false ≡ stray_row fs es ns w r → first (stray_pred fs es) (preds_of (with_row ns w r (binders_in ns w bs (suc i) n))) ≡ first (stray_pred fs es) (preds_of (binders_in ns w bs (suc i) n))
        go (Pending d c t) e = rw (sym e) refl
        go (Replaced d x) e = refl

    -- Row i is one.
    pub tested_found : {top : ℕ} → Binders w bs top n → true ≡ stray_row fs es ns w (row_at bs i) → Tests fs es ns w top (preds_of (binders_in ns w bs 0 n)) (refusing (row_at bs i))
    unfolding first
    tested_found {top} B e = go (row_at bs i) (T.same ∙ ap (λ (os : List Binder). first (stray_pred fs es) (preds_of os)) (row_step ns w bs i n h)) (B.types i h) e
      where
        go : (r : Row) → first (stray_pred fs es) (preds_of (binders_in ns w bs 0 n)) ≡ first (stray_pred fs es) (preds_of (with_row ns w r (binders_in ns w bs (suc i) n)))
            → TypeIn w top r → true ≡ stray_row fs es ns w r → Tests fs es ns w top (preds_of (binders_in ns w bs 0 n)) (refusing r)
        go (Pending d c t) f N e = record { says = record { class = c; type = t; is = refl; found = f ∙ rw (sym e) refl; node = N } }
        go (Replaced d x) f N e = absurd (false≢true (sym e))

-- ## the meaning
-- Where all types are variables it is the meaning's test.
pub tests_same : (fs es : List TyVar) (ps : List Pred) → AllVariable ps → first (is_ambiguous fs es) ps ≡ first (stray_pred fs es) ps
unfolding first is_ambiguous any strays ftv_type add elem is_head_normal
tests_same fs es [] h = refl
tests_same fs es (p ∷ ps) h = one p.ty h.0 (tests_same fs es ps h.1)
  where
    truth : (b : Bool) → if b true false ≡ b
    truth true = refl
    truth false = refl

    one : (a : Ty) → is_head_normal a ≡ true → first (is_ambiguous fs es) ps ≡ first (stray_pred fs es) ps
        → if (any (λ v. not (elem tyvars v fs) && not (elem tyvars v es)) (ftv_type a [])) (some p) (first (is_ambiguous fs es) ps) ≡ if (strays fs es a) (some p) (first (stray_pred fs es) ps)
    one (var x) e ih = rw (ih, truth (not (elem tyvars x fs) && not (elem tyvars x es))) refl
    one (con c ts) e ih = absurd (false≢true e)
    one (arrow a b) e ih = absurd (false≢true e)

-- ## `conclude`
module _ (ns w ev od bs : List ℕ) (top n t left sp e : ℕ) {k : Result (Unit {0}) Refusal}
    (T : Tests (ftv_type (tree ns w t) []) (env_ftv (env_of ns w ev od)) ns w top (preds_of (binders_in ns w bs 0 n)) k) where
  -- None is ambiguous: what is named is the answer.
  pub conclude_named : {w' : List ℕ} {r : Named} {u : Unit {0}} → k ≡ Ok u → GivesNames ns w w' ev od bs top left sp n t e r → GivesConcluded ns w w' ev od bs top left sp n t e r
  unfolding unless_ambiguous after
  conclude_named {w'} {r} {u} h G = record { stands = G.stands; answer = go r G.answer }
    where
      same : Left ns w ev od bs n t → concluded_out ns w ev od bs n t e left ≡ named_out ns w ev od bs n t e left
      same L = rw (tests_same (ftv_type (tree ns w t) []) (env_ftv (env_of ns w ev od)) (preds_of (binders_in ns w bs 0 n)) L.variables ∙ (rw h at T.says)) refl

      go : (r : Named) → NamedAs (Unnamed ns (rows_qual ns w bs n t) (env_of ns w ev od)) ns w' top left (named_out ns w ev od bs n t e left) r
          → NamedAs (Left ns w ev od bs n t) ns w' top left (concluded_out ns w ev od bs n t e left) r
      go (Named-Done vs ps u f m l) A = record { held = A.held; term = A.term; more = A.more; spent = A.spent; down = A.down; is = λ L. same L ∙ A.is L.unnamed }
      go (Named-Refused x m l) A = λ L. refuse_same (same L) (A L.unnamed) (omega arith) (omega arith)

  -- One is.
  pub conclude_refused : {x : Refusal} → k ≡ Err x → GivesConcluded ns w w ev od bs top left sp n t e (Named-Refused x top left)
  unfolding unless_ambiguous after
  conclude_refused {x} h = let A = rw h at T.says in rw A.is
      (record {
        stands = stands_refl w top sp;
        answer = λ L. refuse_here (rw (tests_same (ftv_type (tree ns w t) []) (env_ftv (env_of ns w ev od)) (preds_of (binders_in ns w bs 0 n)) L.variables ∙ A.found) refl) A.node (omega arith);
      })
