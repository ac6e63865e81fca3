-- What applying a substitution on the stack asks of the words and gives.
use Rattle.std.specs.Prelude.{◌≡◌, List, ℕ, ◌+◌, ◌*◌, ◌≤◌}
use Rattle.meaning.specs.Base.{if}
use Rattle.meaning.specs.Map.{tyvars, elem}
use Rattle.meaning.specs.Subst.{Subst, filtered}
use Rattle.meaning.specs.Budget.{Out, done}
use Rattle.names.specs.Names.{Names, tyvar_of}
use Rattle.ast.specs.Table.{Node}
use Rattle.errors.specs.Refusals.{Refuses}
use Rattle.vars.specs.Vars.{vars_of_word}
use Rattle.pairs.specs.Pairs.{sub_at, find_at, Sub, Stands}
use Rattle.apply.specs.Applied.{Applied}
use Rattle.apply.specs.Applied.{Done, Refused}
use Rattle.std.specs.Prelude.{Option, None}

-- A type t, and the k pairs from at, where the stack ends; between table and stack is room for 8 words a step.
pub record Ready (ns w : List ℕ) (top left at k t : ℕ) : Type 0 where
  pub names : Names ns
  pub node : Node w top t
  pub room : 4 * top + 8 * left ≤ at
  pub sub : Sub w top at k

-- The k pairs from at without those of the variables of the list vs.
abbrev pub sub_but : List ℕ → List ℕ → ℕ → ℕ → ℕ → Subst
sub_but ns w vs at k = filtered (vars_of_word ns w vs) (sub_at ns w at k)

-- The type's word that these have for the variable's word x.
unfoldable pub find_but : List ℕ → List ℕ → ℕ → ℕ → ℕ → ℕ → Option ℕ
find_but ns w vs at k x = if (elem tyvars (tyvar_of ns x) (vars_of_word ns w vs)) None (find_at w at k x)

-- The same as `Ready`, and a list vs of variables that stay.
pub record ReadyBut (ns w : List ℕ) (top left at k vs t : ℕ) : Type 0 where
  pub ty : Ready ns w top left at k t
  pub vars : Node w top vs

-- t is a word of the grown table, and at most b words are spoken for: the table's, and 8 for each step left.
pub record Grown (b : ℕ) (w' : List ℕ) (top left top' left' t : ℕ) : Type 0 where
  pub node : Node w' top' t
  pub more : top ≤ top'
  pub spent : 4 * top' + 8 * left' ≤ b
  pub down : left' ≤ left

-- The code's answer for an outcome o that `read` decodes.
abbrev pub Answer : {A : Type 0} → (ℕ → A) → ℕ → List ℕ → List ℕ → ℕ → ℕ → Out A → Applied → Type 0
Answer read b ns w' top left o (Done t top' left') = (o ≡ done (read t) left') × Grown b w' top left top' left' t
Answer read b ns w' top left o (Refused e top' left') = Refuses ns w' top left o e top' left'

-- The words became w': what is older stands, and the answer is the outcome o.
pub record Gives {A : Type 0} (read : ℕ → A) (b : ℕ) (ns w w' : List ℕ) (top left : ℕ) (o : Out A) (r : Applied) : Type 0 where
  pub stands : Stands w w' top (4 * top + 8 * left)
  pub answer : Answer read b ns w' top left o r
