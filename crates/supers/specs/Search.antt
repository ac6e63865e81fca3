-- What the search over givens asks of the words and gives.
use Rattle.std.specs.Prelude.{◌≡◌, Bool, true, false, ◌&&◌, List, ℕ, ◌+◌, ◌*◌, ◌<◌, ◌≤◌, length}
use Rattle.std.proofs.Math.Option.{Option, none, some}
use Rattle.meaning.specs.Base.{is_yes}
use Rattle.meaning.specs.Ast.{Pred, same_pred, Core}
use Rattle.meaning.specs.Budget.{Out, done}
use Rattle.meaning.specs.Classes.{ClassEnv}
use Rattle.meaning.specs.Reduce.{not_root}
use Rattle.names.specs.Names.{Names}
use Rattle.ast.specs.Table.{Node}
use Rattle.errors.specs.Refusals.{Refuses}
use Rattle.pairs.specs.Pairs.{Stands}
use Rattle.cores.specs.Terms.{core}
use Rattle.supers.specs.ClassTable.{Supers}
use Rattle.supers.specs.Givens.{Few, GivensReady}
use Rattle.supers.specs.declared.Root.{Root}
use Rattle.supers.specs.declared.Source.{Source}
use Rattle.supers.specs.Searched.{Searched}
use Rattle.supers.specs.Searched.{Found, Nothing, Refused}

-- Which entries are taken: those equal to the goal; of these the projections alone, where it must be proper.
abbrev pub hits : Bool → Pred → Core → Pred → Bool
hits true goal = λ e q. is_yes (same_pred q goal) && not_root e
hits false goal = λ e q. is_yes (same_pred q goal)

-- A list l of givens, a goal's type t, and the stack that ends at sp; between table and stack is room for 8 words a step.
pub record ReadySearch (ns w : List ℕ) (top left sp : ℕ) (root : Root) (i l t : ℕ) : Type 0 where
  pub names : Names ns
  pub givens : Node w top l
  pub few : Few ns w root i l
  pub ty : Node w top t
  pub room : 4 * top + 8 * left ≤ sp
  pub fits : sp ≤ length w

-- The same of a source's givens from l on.
pub record ReadyIn (ns w bs : List ℕ) (top left sp : ℕ) (src : Source) (i l t : ℕ) : Type 0 where
  pub names : Names ns
  pub givens : GivensReady ns w bs top src i l
  pub ty : Node w top t
  pub room : 4 * top + 8 * left ≤ sp
  pub fits : sp ≤ length w

-- A dictionary's word e of the grown table, with 4 words to spare, is what the search finds in every class environment that
-- the class table cl says.
pub record Finds (ns cl w' : List ℕ) (top left : ℕ) (o : ClassEnv → Out (Option Core)) (e top' left' : ℕ) : Type 0 where
  pub node : Node w' top' e
  pub more : top ≤ top'
  pub spent : 4 * top' + 8 * left' + 4 ≤ 4 * top + 8 * left
  pub down : left' < left
  pub is : (ce : ClassEnv) → Supers ns cl ce → o ce ≡ done (some (core ns w' e)) left'

-- There is no such entry.
pub record FindsNone (ns cl : List ℕ) (left : ℕ) (o : ClassEnv → Out (Option Core)) (left' : ℕ) : Type 0 where
  pub down : left' ≤ left
  pub is : (ce : ClassEnv) → Supers ns cl ce → o ce ≡ done none left'

-- The code's answer for the outcome o of the search.
abbrev pub FoundAs : List ℕ → List ℕ → List ℕ → ℕ → ℕ → (ClassEnv → Out (Option Core)) → Searched → Type 0
FoundAs ns cl w' top left o (Found e top' left') = Finds ns cl w' top left o e top' left'
FoundAs ns cl w' top left o (Nothing left') = FindsNone ns cl left o left'
FoundAs ns cl w' top left o (Refused e top' left') = (ce : ClassEnv) → Supers ns cl ce → Refuses ns w' top left (o ce) e top' left'

-- The words became w': table and stack stand, and the answer is the outcome o.
pub record GivesFound (ns cl w w' : List ℕ) (top left sp : ℕ) (o : ClassEnv → Out (Option Core)) (r : Searched) : Type 0 where
  pub stands : Stands w w' top sp
  pub answer : FoundAs ns cl w' top left o r
