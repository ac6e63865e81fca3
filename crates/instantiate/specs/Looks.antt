-- What looking a name up asks of the words and gives: its instance, and its term over the rows' dictionaries.
use Rattle.std.specs.Prelude.{◌≡◌, List, ℕ, ◌+◌, ◌*◌, ◌<◌, ◌≤◌, length, get_or}
use Rattle.std.proofs.Math.Option.{some}
use Rattle.meaning.specs.Ast.{Name, Scheme}
use Rattle.meaning.specs.Errors as E
use Rattle.meaning.specs.Budget.{done, refused}
use Rattle.meaning.specs.Map.{names, get}
use Rattle.meaning.specs.Subst.{empty}
use Rattle.meaning.specs.Generalize.{Env}
use Rattle.meaning.specs.Classes.{ClassEnv, ClassInfo, class_of, lookup_method}
use Rattle.meaning.specs.Infer.{args_of, var_core, infer_var}
use Rattle.names.specs.Names.{Names, first_fresh, name_of}
use Rattle.ast.specs.Table.{tree, Table, Node}
use Rattle.errors.specs.Refusals.{Refuses}
use Rattle.pairs.specs.Pairs.{Stands}
use Rattle.cores.specs.Terms.{core, cores}
use Rattle.supers.specs.Rows.{binders_in}
use Rattle.classes.specs.Method.{Methods}
use Rattle.scope.specs.Scope.{Scope}
use Rattle.instantiate.specs.Instance.{state, Rows}
use Rattle.std.specs.Prelude.{Option, Some, None}
use Rattle.instantiate.specs.Cored.{Cored}
use Rattle.instantiate.specs.Cored.{Made, Unmade}
use Rattle.instantiate.specs.Looked.{Looked}
use Rattle.instantiate.specs.Looked.{Done, Refused}

-- ## The first row of a class

-- None of the rows before number n is of the class c.
pub record NoneOf (bs : List ℕ) (c n : ℕ) : Type 0 where
  pub none : (i : ℕ) → i < n → get_or bs (3 * i + 1) 0 ≡ c → ⊥

-- The first row of the class c waits for the dictionary of number d.
pub record FirstIs (bs : List ℕ) (m c d : ℕ) : Type 0 where
  pub at : ℕ
  pub below : at < m
  pub class : get_or bs (3 * at + 1) 0 ≡ c
  pub dict : d ≡ get_or bs (3 * at) 0
  pub before : NoneOf bs c at

-- What is found in m rows.
abbrev pub FirstAs : List ℕ → ℕ → ℕ → Option ℕ → Type 0
FirstAs bs m c (Some d) = FirstIs bs m c d
FirstAs bs m c None = NoneOf bs c m

-- The same as a record.
pub record FindsFirst (bs : List ℕ) (m c : ℕ) (r : Option ℕ) : Type 0 where
  pub says : FirstAs bs m c r

-- ## Terms

-- m rows that wait, and room for a node for each and one more.
pub record ReadyCore (ns w bs : List ℕ) (top dv m x : ℕ) : Type 0 where
  pub names : Names ns
  pub table : Table w top
  pub rows : Rows w bs top dv m
  pub fits : 3 * m ≤ length bs
  pub named : dv + m ≤ 17_592_186_044_416
  pub room : 4 * top + 4 * m + 4 ≤ length w
  pub big : length w ≤ 2_305_843_009_213_693_952
  pub name : x < first_fresh

-- l is the list of the rows' dictionaries, m nodes above the table.
pub record Lists (w w' bs : List ℕ) (top m l : ℕ) : Type 0 where
  pub stands : Stands w w' top (4 * top + 4 * m)
  pub node : Node w' (top + m) l
  pub is : (ns : List ℕ) → cores ns w' l ≡ args_of (binders_in ns w bs 0 m)

-- Each class is kept under its own name: a fact about class environments.
pub record NamesRight (ce : ClassEnv) : Type 0 where
  pub is : (c : Name) (ci : ClassInfo) → class_of ce c ≡ some ci → ci.name ≡ c

-- The term of name x, for every class environment of which the method table says the methods.
pub record Builds (ns w w' bs mt : List ℕ) (top m x e top' : ℕ) : Type 0 where
  pub node : Node w' top' e
  pub more : top ≤ top'
  pub most : top' ≤ top + m + 1
  pub is : (v : List ℕ) (n : ℕ) (ce : ClassEnv) → Methods ns v n mt ce → NamesRight ce → (l : ℕ)
      → var_core (name_of ns x) (binders_in ns w bs 0 m) (lookup_method ce (name_of ns x)) l ≡ done (core ns w' e) l

-- Or there is no row of the method's class.
abbrev pub CoredAs : List ℕ → List ℕ → List ℕ → List ℕ → List ℕ → ℕ → ℕ → ℕ → Cored → Type 0
CoredAs ns w w' bs mt top m x (Made e top') = Builds ns w w' bs mt top m x e top'
CoredAs ns w w' bs mt top m x Unmade = (v : List ℕ) (n : ℕ) (ce : ClassEnv) → Methods ns v n mt ce → NamesRight ce → (l : ℕ)
    → var_core (name_of ns x) (binders_in ns w bs 0 m) (lookup_method ce (name_of ns x)) l ≡ refused (E.unknown_method (name_of ns x)) l

-- Nodes are written only where there was room asked.
pub record GivesCored (ns w w' bs mt : List ℕ) (top m x : ℕ) (r : Cored) : Type 0 where
  pub stands : Stands w w' top (4 * top + 4 * m + 4)
  pub answer : CoredAs ns w w' bs mt top m x r

-- ## The whole

-- An environment and the name of a row of it; the rest is as in `ReadyInstance`.
pub record ReadyLook (ns w ev od bs : List ℕ) (top left sp tv dv x : ℕ) : Type 0 where
  pub names : Names ns
  pub table : Table w top
  pub scope : Scope ns w ev od top
  pub there : x < length od
  pub name : x < first_fresh
  pub room : 4 * top + 8 * left ≤ sp
  pub fits : sp ≤ length w
  pub big : length w ≤ 2_305_843_009_213_693_952
  pub rows : 3 * left ≤ length bs
  pub made : tv + left ≤ 1_152_921_504_606_846_976
  pub named : dv + left ≤ 17_592_186_044_416

-- The environment is that one.
pub record Same (env₀ env : Env) : Type 0 where
  pub is : env ≡ env₀

-- The environment has that scheme for the name.
pub record HasScheme (x : Name) (c : Scheme) (env : Env) : Type 0 where
  pub is : get names x env ≡ some c

-- A type u, a term e and m rows. For every environment of which `Of` holds and every class environment they are what
-- `infer_var` gives.
pub record Looks (Of : Env → Type 0) (ns w w' bs' mt : List ℕ) (top left tv dv x u e m top' left' tv' dv' : ℕ) : Type 0 where
  pub node : Node w' top' u
  pub term : Node w' top' e
  pub more : top ≤ top'
  pub rows : Rows w' bs' top' dv m
  pub dicts : dv' ≡ dv + m
  pub made : tv' + left' ≤ tv + left
  pub named : dv' + left' ≤ dv + left
  pub steps : m + left' < left
  pub spent : 4 * top' + 8 * left' ≤ 4 * top + 8 * left
  pub is : (env : Env) → Of env → (ce : ClassEnv) → Methods ns w top mt ce → NamesRight ce
      → infer_var ce (name_of ns x) (state env tv dv) left ≡ done ((empty, tree ns w' u, binders_in ns w' bs' 0 m, core ns w' e), state env tv' dv') left'

-- The code's answer for a name.
abbrev pub LookedAs : (Env → Type 0) → List ℕ → List ℕ → List ℕ → List ℕ → List ℕ → ℕ → ℕ → ℕ → ℕ → ℕ → Looked → Type 0
LookedAs Of ns w w' bs' mt top left tv dv x (Done u e m top' left' tv' dv') = Looks Of ns w w' bs' mt top left tv dv x u e m top' left' tv' dv'
LookedAs Of ns w w' bs' mt top left tv dv x (Refused q top' left') = (env : Env) → Of env → (ce : ClassEnv) → Methods ns w top mt ce → NamesRight ce
    → Refuses ns w' top left (infer_var ce (name_of ns x) (state env tv dv) left) q top' left'

-- The words became w' and the rows bs': table and stack stand, and the answer is what `infer_var` gives.
pub record GivesLooked (Of : Env → Type 0) (ns w w' bs' mt : List ℕ) (top left sp tv dv x : ℕ) (r : Looked) : Type 0 where
  pub stands : Stands w w' top sp
  pub answer : LookedAs Of ns w w' bs' mt top left tv dv x r
