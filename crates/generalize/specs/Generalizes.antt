-- What `generalize_binding` and `finalize_expr` ask of the words and give.
use Rattle.std.specs.Prelude.{◌≡◌, true, List, [], ◌∷◌, ℕ, ◌+◌, ◌*◌, ◌<◌, ◌≤◌, length}
use Rattle.meaning.specs.Base.{first}
use Rattle.meaning.specs.Ast.{Ty, Pred, Qual, qual, Scheme, Core, Binder}
use Rattle.meaning.specs.Budget.{Out, done, after}
use Rattle.meaning.specs.Subst.{ftv_type}
use Rattle.meaning.specs.Classes.{ClassEnv}
use Rattle.meaning.specs.Reduce.{is_head_normal}
use Rattle.meaning.specs.Cores.{canonical_scheme_and_core}
use Rattle.meaning.specs.Generalize.{Pending, Env, env_ftv, preds_of, abstracted, is_ambiguous, unless_ambiguous, generalize_binding, finalize_expr}
use Rattle.theorems.proofs.Bound.{names_of}
use Rattle.theorems.proofs.Made.{MadeTy, MadePending, MadeEnv}
use Rattle.names.specs.Names.{Names}
use Rattle.ast.specs.Table.{tree, Node}
use Rattle.errors.specs.Refusals.{Refuses}
use Rattle.pairs.specs.Pairs.{Stands}
use Rattle.subst.specs.Preds.{preds_of_word}
use Rattle.subst.specs.Schemes.{scheme_of_word}
use Rattle.scope.specs.Scope.{env_of, Scope, Smalls, Held}
use Rattle.cores.specs.Terms.{core}
use Rattle.supers.specs.Rows.{row_at, binders_in}
use Rattle.rows.specs.BuiltIns.{BuiltIns}
use Rattle.pending.specs.Rows.{PendingRows}
use Rattle.canonical.specs.Named.{list_qual, bound}
use Rattle.settle.specs.Answers.{ReadySettle, Asked, OwnRow}
use Rattle.generalize.specs.Naming.{Unnamed, GivesNamed}
use Rattle.generalize.specs.Named.{Named}
use Rattle.generalize.specs.Generalized.{Generalized}
use Rattle.generalize.specs.Generalized.{Done as Generalized-Done, Refused as Generalized-Refused}
use Rattle.generalize.specs.Finalized.{Finalized}
use Rattle.generalize.specs.Finalized.{Done as Finalized-Done, Refused as Finalized-Refused}

-- What is asked to settle pending rows, and names that begin with the built-in ones.
pub record ReadyGeneralize (ns w il ev od bs : List ℕ) (top left sp n t e : ℕ) : Type 0 where
  pub settle : ReadySettle ns w il ev od bs top left sp n t e
  pub built : BuiltIns ns

-- A class environment that the words stand for, with what only the meaning knows: the pending names rise and the term binds
-- others, and all variables were made.
pub record Known (ns cl w : List ℕ) (top : ℕ) (il : List ℕ) (ps : Pending) (t : Ty) (e : Core) (env : Env) (ce : ClassEnv) : Type 0 where
  pub asked : Asked ns cl w top il (names_of ps) e ce
  pub type : MadeTy t
  pub pending : MadePending ps
  pub schemes : MadeEnv env

-- ## The second half: what is left is tested and named

-- The type of each predicate is a variable.
abbrev pub AllVariable : List Pred → Type 0
AllVariable [] = Unit {0}
AllVariable (p ∷ ps) = (is_head_normal p.ty ≡ true) × AllVariable ps

-- What only the meaning knows of the binders that are left and the type.
pub record LeftOver (ns : List ℕ) (env : Env) (ty : Ty) (kept : List Binder) : Type 0 where
  pub variables : AllVariable (preds_of kept)
  pub unnamed : Unnamed ns (qual (preds_of kept) ty) env

-- What the meaning says of them and of the term: the test, then canonical names.
abbrev pub concluded_for : Env → Ty → List Binder → Core → ℕ → Out (Scheme × Core)
concluded_for env ty kept c left =
    after (unless_ambiguous (first (is_ambiguous (ftv_type ty []) (env_ftv env)) (preds_of kept)) left)
    (λ _ k. canonical_scheme_and_core (bound (qual (preds_of kept) ty) env) (qual (preds_of kept) ty) (abstracted kept c) k)

-- That of the first n rows and the type t.
abbrev pub Left : List ℕ → List ℕ → List ℕ → List ℕ → List ℕ → ℕ → ℕ → Type 0
Left ns w ev od bs n t = LeftOver ns (env_of ns w ev od) (tree ns w t) (binders_in ns w bs 0 n)

-- And of the term e.
abbrev pub concluded_out : List ℕ → List ℕ → List ℕ → List ℕ → List ℕ → ℕ → ℕ → ℕ → ℕ → Out (Scheme × Core)
concluded_out ns w ev od bs n t e left = concluded_for (env_of ns w ev od) (tree ns w t) (binders_in ns w bs 0 n) (core ns w e) left

-- The words became w': table and stack stand.
abbrev pub GivesConcluded : List ℕ → List ℕ → List ℕ → List ℕ → List ℕ → List ℕ → ℕ → ℕ → ℕ → ℕ → ℕ → ℕ → Named → Type 0
GivesConcluded ns w w' ev od bs top left sp n t e r = GivesNamed (Left ns w ev od bs n t) ns w w' top left sp (concluded_out ns w ev od bs n t e left) r

-- An environment, rows of which those from number nd up to number n are of one's own, and a type t.
pub record ReadyFrom (ns w ev od bs : List ℕ) (top left sp nd n t : ℕ) : Type 0 where
  pub names : Names ns
  pub scope : Scope ns w ev od top
  pub most : nd ≤ n
  pub there : 3 * n ≤ length bs
  pub own : (i : ℕ) → nd ≤ i → i < n → OwnRow w top (row_at bs i)
  pub type : Node w top t
  pub room : 4 * top + 8 * left ≤ sp
  pub fits : sp ≤ length w

-- The same of the rows from number nd up to number n; those before them stand.
pub record GivesFrom (ns w w' ev od bs bs' : List ℕ) (top left sp nd n t e : ℕ) (r : Named) : Type 0 where
  pub before : (j : ℕ) → j < nd → row_at bs' j ≡ row_at bs j
  pub gives : GivesNamed (LeftOver ns (env_of ns w ev od) (tree ns w t) (binders_in ns w bs nd n)) ns w w' top left sp
      (concluded_for (env_of ns w ev od) (tree ns w t) (binders_in ns w bs nd n) (core ns w e) left) r

-- ## `generalize_binding`

-- What the meaning says.
abbrev pub generalized_out : List ℕ → List ℕ → List ℕ → List ℕ → List ℕ → ℕ → ℕ → ℕ → ℕ → ClassEnv → Out (Scheme × Core × Pending)
generalized_out ns w ev od bs n t e left ce = generalize_binding ce (env_of ns w ev od) (tree ns w t) (binders_in ns w bs 0 n) (core ns w e) left

-- The scheme of the words vs, ps and t' and the term e'; the first nd rows are deferred.
pub record Generalizes (ns cl w w' il ev od bs bs' : List ℕ) (top left n t e vs ps t' e' nd top' left' : ℕ) : Type 0 where
  pub held : Held ns w' top' vs ps t'
  pub term : Node w' top' e'
  pub most : nd ≤ n
  pub late : PendingRows w' bs' top' nd
  pub more : top ≤ top'
  pub spent : 4 * top' + 8 * left' ≤ 4 * top + 8 * left
  pub down : left' ≤ left
  pub is : (ce : ClassEnv) → Known ns cl w top il (binders_in ns w bs 0 n) (tree ns w t) (core ns w e) (env_of ns w ev od) ce
      → generalized_out ns w ev od bs n t e left ce ≡ done (scheme_of_word ns w' vs ps t', core ns w' e', binders_in ns w' bs' 0 nd) left'

-- The code's answer. After a refusal nothing is said of the rows.
abbrev pub GeneralizedAs : List ℕ → List ℕ → List ℕ → List ℕ → List ℕ → List ℕ → List ℕ → List ℕ → List ℕ → ℕ → ℕ → ℕ → ℕ → ℕ → Generalized → Type 0
GeneralizedAs ns cl w w' il ev od bs bs' top left n t e (Generalized-Done vs ps t' e' nd top' left') =
    Generalizes ns cl w w' il ev od bs bs' top left n t e vs ps t' e' nd top' left'
GeneralizedAs ns cl w w' il ev od bs bs' top left n t e (Generalized-Refused x top' left') = (ce : ClassEnv)
    → Known ns cl w top il (binders_in ns w bs 0 n) (tree ns w t) (core ns w e) (env_of ns w ev od) ce
    → Refuses ns w' top left (generalized_out ns w ev od bs n t e left ce) x top' left'

-- The words became w' and the rows bs': table and stack stand, and there are as many rows.
pub record GivesGeneralized (ns cl w w' il ev od bs bs' : List ℕ) (top left sp n t e : ℕ) (r : Generalized) : Type 0 where
  pub stands : Stands w w' top sp
  pub long : length bs' ≡ length bs
  pub answer : GeneralizedAs ns cl w w' il ev od bs bs' top left n t e r

-- ## `finalize_expr`

-- Canonical names of the rows from number nd up to number n.
pub record GivesNamesFrom (ns w w' ev od bs : List ℕ) (top left sp nd n t e : ℕ) (r : Named) : Type 0 where
  pub gives : GivesNamed (Unnamed ns (qual (preds_of (binders_in ns w bs nd n)) (tree ns w t)) (env_of ns w ev od)) ns w w' top left sp
      (canonical_scheme_and_core (bound (qual (preds_of (binders_in ns w bs nd n)) (tree ns w t)) (env_of ns w ev od)) (qual (preds_of (binders_in ns w bs nd n)) (tree ns w t))
      (abstracted (binders_in ns w bs nd n) (core ns w e)) left) r

-- What the meaning says.
abbrev pub finalized_out : List ℕ → List ℕ → List ℕ → ℕ → ℕ → ℕ → ℕ → ClassEnv → Out (Qual × Core)
finalized_out ns w bs n t e left ce = finalize_expr ce (tree ns w t) (binders_in ns w bs 0 n) (core ns w e) left

-- The qualified type of the words ps and t', and the term e'.
pub record Finalizes (ns cl w w' il bs : List ℕ) (top left n t e ps t' e' top' left' : ℕ) : Type 0 where
  pub preds : Node w' top' ps
  pub type : Node w' top' t'
  pub term : Node w' top' e'
  pub small : Smalls ns (preds_of_word ns w' ps)
  pub more : top ≤ top'
  pub spent : 4 * top' + 8 * left' ≤ 4 * top + 8 * left
  pub down : left' ≤ left
  pub is : (ce : ClassEnv) → Known ns cl w top il (binders_in ns w bs 0 n) (tree ns w t) (core ns w e) [] ce
      → finalized_out ns w bs n t e left ce ≡ done (list_qual ns w' ps t', core ns w' e') left'

-- The code's answer.
abbrev pub FinalizedAs : List ℕ → List ℕ → List ℕ → List ℕ → List ℕ → List ℕ → ℕ → ℕ → ℕ → ℕ → ℕ → Finalized → Type 0
FinalizedAs ns cl w w' il bs top left n t e (Finalized-Done ps t' e' top' left') = Finalizes ns cl w w' il bs top left n t e ps t' e' top' left'
FinalizedAs ns cl w w' il bs top left n t e (Finalized-Refused x top' left') = (ce : ClassEnv)
    → Known ns cl w top il (binders_in ns w bs 0 n) (tree ns w t) (core ns w e) [] ce → Refuses ns w' top left (finalized_out ns w bs n t e left ce) x top' left'

-- The words became w' and the rows bs': table and stack stand, and there are as many rows.
pub record GivesFinalized (ns cl w w' il bs bs' : List ℕ) (top left sp n t e : ℕ) (r : Finalized) : Type 0 where
  pub stands : Stands w w' top sp
  pub long : length bs' ≡ length bs
  pub answer : FinalizedAs ns cl w w' il bs top left n t e r
