-- What resolution asks of the words and gives.
use Rattle.std.specs.Prelude.{◌≡◌, List, ℕ, ◌+◌, ◌*◌, ◌-◌, ◌<◌, ◌≤◌, length}
use Rattle.std.proofs.Math.Option.{some}
use Rattle.meaning.specs.Base.{nth}
use Rattle.meaning.specs.Budget.{Out, done}
use Rattle.meaning.specs.Classes.{ClassEnv, InstanceInfo, applied}
use Rattle.names.specs.Names.{Names}
use Rattle.ast.specs.Table.{Node}
use Rattle.errors.specs.Refusals.{Refuses}
use Rattle.pairs.specs.Pairs.{sub_at, Sub, Stands}
use Rattle.subst.specs.Preds.{preds_of_word}
use Rattle.instances.specs.Accepted.{Instances, Heads}
use Rattle.cores.specs.Terms.{core, cores}
use Rattle.supers.specs.ClassTable.{Supers}
use Rattle.supers.specs.Givens.{Few}
use Rattle.supers.specs.declared.Root.{Root}
use Rattle.resolve.specs.Ways.{Way, at_hand, by}
use Rattle.resolve.specs.Resolved.{Resolved}
use Rattle.resolve.specs.Resolved.{Done, Refused}
use Rattle.resolve.specs.Choice.{Choice}
use Rattle.resolve.specs.Choice.{Given, By, Refused as Choice-Refused}

-- ## What is asked

-- The class table cl and the words il of the instances say what the class environment has.
pub record Declared (ns cl w : List ℕ) (top : ℕ) (il : List ℕ) (ce : ClassEnv) : Type 0 where
  pub supers : Supers ns cl ce
  pub instances : Instances ns w top il ce.instances

-- A list l of givens, the words il of the instances, the type t of a goal or a list t of goals, and the stack that ends at
-- sp; between table and stack is room for 8 words a step.
pub record ReadyResolve (ns w il : List ℕ) (top left sp : ℕ) (root : Root) (l t : ℕ) : Type 0 where
  pub names : Names ns
  pub givens : Node w top l
  pub few : Few ns w root 0 l
  pub goal : Node w top t
  pub heads : Heads w top il
  pub room : 4 * top + 8 * left ≤ sp
  pub fits : sp ≤ length w

-- Instance number i, the k pairs from at, where the stack ends, and the list es of its subgoals' dictionaries. There is
-- room for one node more than 8 words a step.
pub record ReadyBuild (ns w il : List ℕ) (top left at k i es : ℕ) : Type 0 where
  pub names : Names ns
  pub heads : Heads w top il
  pub there : i < length il
  pub args : Node w top es
  pub room : 4 * top + 8 * left + 4 ≤ at
  pub sub : Sub w top at k

-- ## What is given, for each environment x of which `Of` holds: class environments, or instances

-- e is a word of the grown table and `read` decodes the answer from it. At most b words are spoken for, the table's and 8
-- for each step left, and at least s steps were spent.
pub record Makes {E A : Type 0} (Of : E → Type 0) (read : ℕ → A) (b s : ℕ) (w' : List ℕ) (top left : ℕ) (o : E → Out A) (e top' left' : ℕ) : Type 0 where
  pub node : Node w' top' e
  pub more : top ≤ top'
  pub spent : 4 * top' + 8 * left' ≤ b
  pub down : left' + s ≤ left
  pub is : (x : E) → Of x → o x ≡ done (read e) left'

-- The code's answer for the outcome o.
abbrev pub CoreAs : {E A : Type 0} → (E → Type 0) → (ℕ → A) → ℕ → ℕ → List ℕ → List ℕ → ℕ → ℕ → (E → Out A) → Resolved → Type 0
CoreAs Of read b s ns w' top left o (Done e top' left') = Makes Of read b s w' top left o e top' left'
CoreAs {E} Of read b s ns w' top left o (Refused e top' left') = (x : E) → Of x → Refuses ns w' top left (o x) e top' left'

-- The words became w': table and stack stand, and the answer is the outcome o.
pub record GivesCore {E A : Type 0} (Of : E → Type 0) (read : ℕ → A) (b s : ℕ) (ns w w' : List ℕ) (top left sp : ℕ) (o : E → Out A) (r : Resolved) : Type 0 where
  pub stands : Stands w w' top sp
  pub answer : CoreAs Of read b s ns w' top left o r

-- The way is by instance number i, whose match is the k pairs that end at sp and whose subgoals are the list g.
pub record WayIs (ns w' : List ℕ) (sp i k g left' : ℕ) (ce : ClassEnv) (o : Out Way) : Type 0 where
  pub inst : InstanceInfo
  pub there : nth ce.instances i ≡ some inst
  pub is : o ≡ done (by (record { index = i; inst = inst; fills = sub_at ns w' (sp - 2 * k) k }) (preds_of_word ns w' g)) left'

-- The same with what is known of the words, whatever the environment. Of the step of the match 6 words are not used.
pub record Chooses (Of : ClassEnv → Type 0) (ns w' il : List ℕ) (top left sp : ℕ) (o : ClassEnv → Out Way) (i k g top' left' : ℕ) : Type 0 where
  pub there : i < length il
  pub goals : Node w' top' g
  pub sub : Sub w' top' (sp - 2 * k) k
  pub more : top ≤ top'
  pub spent : 4 * top' + 8 * left' + 2 * k + 6 ≤ 4 * top + 8 * left
  pub down : left' < left
  pub is : (ce : ClassEnv) → Of ce → WayIs ns w' sp i k g left' ce (o ce)

-- A dictionary at hand, an instance, or a refusal.
abbrev pub WayAs : (ClassEnv → Type 0) → List ℕ → List ℕ → List ℕ → ℕ → ℕ → ℕ → (ClassEnv → Out Way) → Choice → Type 0
WayAs Of ns w' il top left sp o (Given e top' left') = Makes Of (λ u. at_hand (core ns w' u)) (4 * top + 8 * left - 4) 1 w' top left o e top' left'
WayAs Of ns w' il top left sp o (By i k g top' left') = Chooses Of ns w' il top left sp o i k g top' left'
WayAs Of ns w' il top left sp o (Choice-Refused e top' left') = (ce : ClassEnv) → Of ce → Refuses ns w' top left (o ce) e top' left'

-- The words became w': table and stack stand, and the answer is the outcome o.
pub record GivesWay (Of : ClassEnv → Type 0) (ns w w' il : List ℕ) (top left sp : ℕ) (o : ClassEnv → Out Way) (r : Choice) : Type 0 where
  pub stands : Stands w w' top sp
  pub answer : WayAs Of ns w' il top left sp o r

-- The word e is the term f, applied to the terms of the list es if there are any; at most one node was made for it.
pub record Wraps (w w' : List ℕ) (top f es e top' : ℕ) : Type 0 where
  pub stands : Stands w w' top (4 * top + 4)
  pub node : Node w' top' e
  pub more : top ≤ top'
  pub most : top' ≤ top + 1
  pub is : (ns : List ℕ) → core ns w' e ≡ applied (core ns w f) (cores ns w es)
