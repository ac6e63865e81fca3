-- What giving a binding its canonical names asks of the words and gives.
use Rattle.std.specs.Prelude.{◌≡◌, List, ℕ, ◌+◌, ◌*◌, ◌<◌, ◌≤◌, length}
use Rattle.meaning.specs.Ast.{TyVar, var, Qual, Scheme, Core}
use Rattle.meaning.specs.Budget.{Out, done}
use Rattle.meaning.specs.Subst.{Subst, look, apply_qual}
use Rattle.meaning.specs.Cores.{canonical_renamer, as_subst, apply_subst_to_core, canonical_scheme_and_core}
use Rattle.meaning.specs.Generalize.{Env, abstracted}
use Rattle.theorems.proofs.Made.{MadeQual, MadeEnv}
use Rattle.names.specs.Names.{Names}
use Rattle.ast.specs.Table.{tree, Node}
use Rattle.errors.specs.Refusals.{Refuses}
use Rattle.pairs.specs.Pairs.{Stands}
use Rattle.subst.specs.Preds.{preds_of_word}
use Rattle.subst.specs.Schemes.{scheme_of_word}
use Rattle.subst.specs.AppliedQual.{AppliedQual}
use Rattle.subst.specs.AppliedQual.{Done, Refused}
use Rattle.scope.specs.Scope.{env_of, Scope, Smalls, Held}
use Rattle.cores.specs.Terms.{core}
use Rattle.supers.specs.Rows.{row_at, binders_in}
use Rattle.rows.specs.BuiltIns.{BuiltIns}
use Rattle.rename.specs.Renaming.{leaves}
use Rattle.canonical.specs.Named.{rows_qual, list_qual, bound}
use Rattle.canonical.specs.Rows.{leaves_preds, Letters}
use Rattle.settle.specs.Answers.{OwnRow}
use Rattle.generalize.specs.Named.{Named}
use Rattle.generalize.specs.Named.{Done as Named-Done, Refused as Named-Refused}

-- ## What is asked

-- The first n rows: those that are pending have their words in their bounds.
pub record OwnRows (w bs : List ℕ) (top n : ℕ) : Type 0 where
  pub fits : 3 * n ≤ length bs
  pub each : (i : ℕ) → i < n → OwnRow w top (row_at bs i)

-- An environment, n rows and a type t; the stack ends at sp, and between table and stack is room for 8 words a step.
pub record ReadyNames (ns w ev od bs : List ℕ) (top left sp n t : ℕ) : Type 0 where
  pub names : Names ns
  pub scope : Scope ns w ev od top
  pub rows : OwnRows w bs top n
  pub type : Node w top t
  pub room : 4 * top + 8 * left ≤ sp
  pub fits : sp ≤ length w

-- What only the meaning knows: the names begin with the built-in ones, and all variables were made.
pub record Unnamed (ns : List ℕ) (q : Qual) (env : Env) : Type 0 where
  pub built : BuiltIns ns
  pub type : MadeQual q
  pub schemes : MadeEnv env

-- ## Predicates and type

-- The variable becomes one that stays.
pub record Stays (s : Subst) (x : TyVar) : Type 0 where
  pub name : TyVar
  pub is : look s x ≡ var name
  pub stays : look s name ≡ var name

-- At most 26 words ls, n rows and a type t.
pub record ReadyLetters (ns w ls bs : List ℕ) (top left sp n t : ℕ) : Type 0 where
  pub names : Names ns
  pub letters : length ls ≤ 26
  pub rows : OwnRows w bs top n
  pub type : Node w top t
  pub room : 4 * top + 8 * left ≤ sp
  pub fits : sp ≤ length w

-- The words ls became letters: the predicates are those of the list ps, the type is t', and the rows were renamed too. Where new
-- names stay, to rename a term over them is to rename it over those of before. For each variable 4 words were not used.
pub record NamesQual (ns w w' ls bs bs' : List ℕ) (top left n t ps t' top' left' : ℕ) : Type 0 where
  pub preds : Node w' top' ps
  pub type : Node w' top' t'
  pub rows : OwnRows w' bs' top' n
  pub small : Smalls ns (preds_of_word ns w' ps)
  pub more : top ≤ top'
  pub spent : 4 * top' + 8 * left' + 4 * (leaves_preds (preds_of_word ns w' ps) + leaves (tree ns w' t')) ≤ 4 * top + 8 * left
  pub down : left' ≤ left
  pub again : (s : Subst) → Letters ns w ls s → ((x : TyVar) → Stays s x) → (c : Core) (m : ℕ)
      → apply_subst_to_core s (abstracted (binders_in ns w' bs' 0 n) c) m ≡ apply_subst_to_core s (abstracted (binders_in ns w bs 0 n) c) m
  pub is : (s : Subst) → Letters ns w ls s → apply_qual s (rows_qual ns w bs n t) left ≡ done (list_qual ns w' ps t') left'

-- The code's answer.
abbrev pub LetteredAs : List ℕ → List ℕ → List ℕ → List ℕ → List ℕ → List ℕ → ℕ → ℕ → ℕ → ℕ → AppliedQual → Type 0
LetteredAs ns w w' ls bs bs' top left n t (Done ps t' top' left') = NamesQual ns w w' ls bs bs' top left n t ps t' top' left'
LetteredAs ns w w' ls bs bs' top left n t (Refused x top' left') =
    (s : Subst) → Letters ns w ls s → Refuses ns w' top left (apply_qual s (rows_qual ns w bs n t) left) x top' left'

-- The words became w' and the rows bs': table and stack stand.
pub record GivesLettered (ns w w' ls bs bs' : List ℕ) (top left sp n t : ℕ) (r : AppliedQual) : Type 0 where
  pub stands : Stands w w' top sp
  pub answer : LetteredAs ns w w' ls bs bs' top left n t r

-- The renaming of the variables that a scheme binds.
abbrev pub canonical : Qual → Env → Subst
canonical q env = as_subst (canonical_renamer (bound q env))

-- The words ls are those that get the letters by it.
pub record Chosen (ns w ls : List ℕ) (q : Qual) (env : Env) : Type 0 where
  pub few : length ls ≤ 26
  pub renames : BuiltIns ns → MadeQual q → Letters ns w ls (canonical q env)

-- ## A scheme and a term

-- What the meaning says of the first n rows, the type t and the term e.
abbrev pub named_out : List ℕ → List ℕ → List ℕ → List ℕ → List ℕ → ℕ → ℕ → ℕ → ℕ → Out (Scheme × Core)
named_out ns w ev od bs n t e left =
    canonical_scheme_and_core (bound (rows_qual ns w bs n t) (env_of ns w ev od)) (rows_qual ns w bs n t) (abstracted (binders_in ns w bs 0 n) (core ns w e)) left

-- The scheme of the words vs, ps and t', and the term e'; under the premise P they are what o says.
pub record NamesAll (P : Type 0) (ns w' : List ℕ) (top left : ℕ) (o : Out (Scheme × Core)) (vs ps t' e' top' left' : ℕ) : Type 0 where
  pub held : Held ns w' top' vs ps t'
  pub term : Node w' top' e'
  pub more : top ≤ top'
  pub spent : 4 * top' + 8 * left' ≤ 4 * top + 8 * left
  pub down : left' ≤ left
  pub is : P → o ≡ done (scheme_of_word ns w' vs ps t', core ns w' e') left'

-- The code's answer.
abbrev pub NamedAs : Type 0 → List ℕ → List ℕ → ℕ → ℕ → Out (Scheme × Core) → Named → Type 0
NamedAs P ns w' top left o (Named-Done vs ps t' e' top' left') = NamesAll P ns w' top left o vs ps t' e' top' left'
NamedAs P ns w' top left o (Named-Refused x top' left') = P → Refuses ns w' top left o x top' left'

-- The words became w': table and stack stand, and under the premise P the answer is the outcome o.
pub record GivesNamed (P : Type 0) (ns w w' : List ℕ) (top left sp : ℕ) (o : Out (Scheme × Core)) (r : Named) : Type 0 where
  pub stands : Stands w w' top sp
  pub answer : NamedAs P ns w' top left o r

-- That of canonical names.
abbrev pub GivesNames : List ℕ → List ℕ → List ℕ → List ℕ → List ℕ → List ℕ → ℕ → ℕ → ℕ → ℕ → ℕ → ℕ → Named → Type 0
GivesNames ns w w' ev od bs top left sp n t e r = GivesNamed (Unnamed ns (rows_qual ns w bs n t) (env_of ns w ev od)) ns w w' top left sp (named_out ns w ev od bs n t e left) r
