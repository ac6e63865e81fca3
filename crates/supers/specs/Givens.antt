-- The dictionaries that givens name, which stand in a list of the table or in rows.
use Rattle.std.specs.Prelude.{◌≡◌, Option, Some, None, false, List, [], ◌∷◌, ℕ, suc, ◌+◌, ◌-◌, ◌<◌, ◌≤◌}
use Rattle.meaning.specs.Base.{count}
use Rattle.meaning.specs.Ast.{pred}
use Rattle.meaning.specs.Classes.{Given}
use Rattle.meaning.specs.Reduce.{roots, not_root}
use Rattle.meaning.specs.Declare.{context_binders}
use Rattle.names.specs.Names.{name_of, first_node}
use Rattle.ast.specs.Table.{tree, Node}
use Rattle.subst.specs.Preds.{preds_of_word}
use Rattle.cores.specs.Binders.{binders_of_word}
use Rattle.cores.specs.Terms.{core}
use Rattle.supers.specs.Rows.{binders_in, Binders}
use Rattle.supers.specs.declared.Root.{Root}
use Rattle.supers.specs.declared.Root.TheVariants.{Context, Binder}
use Rattle.supers.specs.declared.Source.{Source}
use Rattle.supers.specs.declared.Source.TheVariants.{Listed, Rows}
use Rattle.supers.specs.declared.Given.{Given as A-Given}

-- A list's word stands for an instance's context from number i on (`context_givens`), or for binders (`roots`).
abbrev pub givens_of : List ℕ → List ℕ → Root → ℕ → ℕ → List Given
givens_of ns w (Context h) i l = roots (context_binders (name_of ns h) i (preds_of_word ns w l))
givens_of ns w Binder i l = roots (binders_of_word ns w l)

-- The names of a context's dictionaries are words: a name's number is below 65536, and a context has at most 64 predicates.
abbrev pub Few : List ℕ → List ℕ → Root → ℕ → ℕ → Type 0
Few ns w (Context h) i l = (h < 65536) × (i + count (preds_of_word ns w l) ≤ 64)
Few ns w Binder i l = Unit {0}

-- The same of a source: the rows are those from number l on.
abbrev pub givens_in : List ℕ → List ℕ → List ℕ → Source → ℕ → ℕ → List Given
givens_in ns w bs (Listed root) i l = givens_of ns w root i l
givens_in ns w bs (Rows n) i l = roots (binders_in ns w bs l n)

-- How much of it lies ahead at most.
abbrev pub ahead : Source → ℕ → ℕ
ahead (Listed root) l = l
ahead (Rows n) l = n - l

-- The words of the givens are there.
abbrev pub GivensReady : List ℕ → List ℕ → List ℕ → ℕ → Source → ℕ → ℕ → Type 0
GivensReady ns w bs top (Listed root) i l = Node w top l × Few ns w root i l
GivensReady ns w bs top (Rows n) i l = Binders w bs top n

-- The first given: its dictionary's word e, its class's name c, its type u, and where the rest begins.
pub record First (ns w bs : List ℕ) (top : ℕ) (src : Source) (i l e c u rest : ℕ) : Type 0 where
  pub less : ahead src rest < ahead src l
  pub ty : Node w top u
  pub low : e < first_node
  pub named : not_root (core ns w e) ≡ false
  pub others : GivensReady ns w bs top src (suc i) rest
  pub is : givens_in ns w bs src i l ≡ (core ns w e, pred (name_of ns c) (tree ns w u)) ∷ givens_in ns w bs src (suc i) rest

-- What the view of givens says.
abbrev pub GivenAs : List ℕ → List ℕ → List ℕ → ℕ → Source → ℕ → ℕ → Option A-Given → Type 0
GivenAs ns w bs top src i l (Some q) = First ns w bs top src i l q.dict q.class q.ty q.rest
GivenAs ns w bs top src i l None = givens_in ns w bs src i l ≡ []

pub record GivenAt (ns w bs : List ℕ) (top : ℕ) (src : Source) (i l : ℕ) (r : Option A-Given) : Type 0 where
  pub says : GivenAs ns w bs top src i l r

-- The same of a list, whatever rows there are beside it.
pub record ListedAt (ns w : List ℕ) (top : ℕ) (root : Root) (i l : ℕ) (r : Option A-Given) : Type 0 where
  pub says : (bs : List ℕ) → GivenAs ns w bs top (Listed root) i l r
