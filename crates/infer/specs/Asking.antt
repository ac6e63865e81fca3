-- What the members of inference are asked: which expressions the numbers stand for, in which environment, and what they ask of
-- the words.
use Rattle.std.specs.Prelude.{◌≡◌, List, ℕ, ◌+◌, ◌*◌, ◌<◌, length, get_or, drop}
use Rattle.meaning.specs.Ast.{Scheme, Expr}
use Rattle.meaning.specs.Budget.{Out}
use Rattle.meaning.specs.Subst.{Subst}
use Rattle.meaning.specs.Classes.{ClassEnv}
use Rattle.meaning.specs.Infer as M
use Rattle.theorems.proofs.Made.{MadeSubst, MadeScheme, MadeEnv}
use Rattle.names.specs.Names.{first_nullary}
use Rattle.ast.specs.Table.{Node}
use Rattle.scope.specs.Scope.{EntryIn, Held, Scope, env_of}
use Rattle.scope.specs.declared.Entry.{Entry}
use Rattle.pending.specs.Rows.{PendingRows}
use Rattle.exprs.specs.Exprs.{Written}
use Rattle.instantiate.specs.Looks.{NamesRight}
use Rattle.inferred.specs.Closing.{Region, Answered, ReadyAbs, ReadyApp, ReadyLet}
use Rattle.inferred.specs.Inferring.{Still, ReadyI, GivesI}
use Rattle.inferred.specs.Inferred.{Inferred}
use Rattle.binding.specs.General.{Fit}

-- ## Expressions

-- The class environment p .0 is what the words stand for, p.1 is expression i of the file, and the schemes of the environment
-- have made variables alone.
pub record Asked (bytes ns ix w cl mt il ev od : List ℕ) (top i : ℕ) (p : ClassEnv × Expr) : Type 0 where
  pub still : Still ns w cl mt il top p.0
  pub right : NamesRight p.0
  pub written : Written bytes ns ix i p.1
  pub made : MadeEnv (env_of ns w ev od)

-- The same beside a name of the file.
pub record AskedNamed (bytes ns ix w cl mt il ev od : List ℕ) (top r i : ℕ) (p : ClassEnv × Expr) : Type 0 where
  pub asked : Asked bytes ns ix w cl mt il ev od top i p
  pub small : r < 1_059

-- A name of the file alone.
pub record AskedName (ns w cl mt il : List ℕ) (top r : ℕ) (ce : ClassEnv) : Type 0 where
  pub still : Still ns w cl mt il top ce
  pub right : NamesRight ce
  pub small : r < 1_059

-- Two expressions.
pub record AskedTwo (bytes ns ix w cl mt il ev od : List ℕ) (top i j : ℕ) (p : ClassEnv × Expr × Expr) : Type 0 where
  pub first : Asked bytes ns ix w cl mt il ev od top i (p.0, p.1)
  pub second : Written bytes ns ix j p.2

-- The same beside a name of the file.
pub record AskedLet (bytes ns ix w cl mt il ev od : List ℕ) (top r i j : ℕ) (p : ClassEnv × Expr × Expr) : Type 0 where
  pub two : AskedTwo bytes ns ix w cl mt il ev od top i j p
  pub small : r < 1_059

-- An expression after a part that gave the substitution s.
pub record AskedAfter (bytes ns ix w cl mt il ev od : List ℕ) (top i : ℕ) (s : Subst) (p : ClassEnv × Expr) : Type 0 where
  pub asked : Asked bytes ns ix w cl mt il ev od top i p
  pub sub : MadeSubst s

-- A let's body after its binding gave q, in the state st.
pub record AskedMid (bytes ns ix w cl mt il ev od : List ℕ) (top r i : ℕ) (q : M.Inferred) (st : M.State) (p : ClassEnv × Expr) : Type 0 where
  pub asked : Asked bytes ns ix w cl mt il ev od top i p
  pub small : r < 1_059
  pub fit : Fit q st

-- A let's body after its binding was generalized to the scheme c.
pub record AskedBody (bytes ns ix w cl mt il ev od : List ℕ) (top r i : ℕ) (c : Scheme) (p : ClassEnv × Expr) : Type 0 where
  pub asked : Asked bytes ns ix w cl mt il ev od top i p
  pub small : r < 1_059
  pub scheme : MadeScheme c

-- ## Words

-- The row of number r is hidden, and old is what it said.
pub record Hidden (ns w od : List ℕ) (top r : ℕ) (old : Entry) : Type 0 where
  pub there : r < length od
  pub entry : EntryIn ns w top old

-- An application's function was inferred; a is the word of the result's variable.
pub record ReadyArg (ns w ev od il bs : List ℕ) (top left sp tv dv tf f k m a : ℕ) : Type 0 where
  pub ready : ReadyI (2 * k + 8) 0 m ns w ev od il bs top left sp tv dv
  pub words : Answered ns w bs top sp tf f k m
  pub variable : a < first_nullary

-- An abstraction's body was inferred.
pub record ReadyAbsEnd (ns w ev od bs : List ℕ) (top left sp t e k m a r : ℕ) (old : Entry) : Type 0 where
  pub close : ReadyAbs ns w bs top left sp t e k m a
  pub scope : Scope ns w ev od top
  pub hidden : Hidden ns w od top r old

-- Both parts of an application were inferred.
pub record ReadyAppEnd (ns w ev od bs : List ℕ) (top left sp tf f k₁ tx e k₂ m₁ m a : ℕ) : Type 0 where
  pub close : ReadyApp ns w bs top left sp tf f k₁ tx e k₂ m₁ m a
  pub scope : Scope ns w ev od top

-- A let's body was inferred.
pub record ReadyLetEnd (ns w ev od bs : List ℕ) (top left sp k₁ c t e k₂ nd m r : ℕ) (old : Entry) : Type 0 where
  pub close : ReadyLet ns w bs top left sp k₁ c t e k₂ nd m
  pub scope : Scope ns w ev od top
  pub hidden : Hidden ns w od top r old

-- A let's binding was generalized to the scheme of the words vs, ps and u, with the term c and nd deferred rows; its k pairs end
-- at sp.
pub record ReadyBody (ns w ev od il bs : List ℕ) (top left sp tv dv k vs ps u c nd : ℕ) : Type 0 where
  pub ready : ReadyI (2 * k + 4) 0 nd ns w ev od il bs top left sp tv dv
  pub region : Region ns w top sp k
  pub rows : PendingRows w bs top nd
  pub scheme : Held ns w top vs ps u
  pub bound : Node w top c

-- ## Rows from number m on

-- As `GivesI` for the rows from number m on; the rows before them stand.
pub record GivesO {E : Type 0} (Of : E → Type 0) (o : E → Out (M.Inferred × M.State)) (ns w w' ev' od bs bs' : List ℕ) (top left sp tv dv m : ℕ) (r : Inferred) : Type 0 where
  pub gives : GivesI Of o 0 0 0 ns w w' ev' od (drop (3 * m) bs) (drop (3 * m) bs') top left sp tv dv r
  pub before : (i : ℕ) → i < 3 * m → get_or bs' i 0 ≡ get_or bs i 0
  pub wide : length bs' ≡ length bs
