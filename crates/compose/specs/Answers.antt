-- What unification and matching ask of the words and give: a substitution as pairs below where the stack ended.
use Rattle.std.specs.Prelude.{◌≡◌, List, ℕ, ◌+◌, ◌*◌, ◌-◌, ◌≤◌, length}
use Rattle.meaning.specs.Budget.{Out, done}
use Rattle.meaning.specs.Map.{tyvars}
use Rattle.meaning.specs.Subst.{Subst}
use Rattle.theorems.proofs.Ordered.{Sorted}
use Rattle.names.specs.Names.{Names}
use Rattle.ast.specs.Table.{Table, Node}
use Rattle.errors.specs.Refusals.{Refuses}
use Rattle.pairs.specs.Pairs.{sub_at, Sub, Stands}
use Rattle.apply.specs.Applied.{Applied}
use Rattle.apply.specs.Applied.{Done, Refused}

-- The k pairs that end at hi, in order. At least slack steps were spent. Of the table's words, 8 for each step left and x
-- more, there are used the table's, the region's and 8 for each step left; of each of the slack steps 6 are not used.
pub record GrownU (slack x : ℕ) (ns w' : List ℕ) (top left hi top' left' k : ℕ) : Type 0 where
  pub table : Table w' top'
  pub sub : Sub w' top' (hi - 2 * k) k
  pub sorted : Sorted tyvars (sub_at ns w' (hi - 2 * k) k)
  pub more : top ≤ top'
  pub spent : 4 * top' + 8 * left' + 2 * k + 6 * slack ≤ 4 * top + 8 * left + x
  pub down : left' + slack ≤ left

abbrev pub AnswerU : ℕ → ℕ → List ℕ → List ℕ → ℕ → ℕ → ℕ → Out Subst → Applied → Type 0
AnswerU slack x ns w' top left hi o (Done k top' left') = (o ≡ done (sub_at ns w' (hi - 2 * k) k) left') × GrownU slack x ns w' top left hi top' left' k
AnswerU slack x ns w' top left hi o (Refused e top' left') = Refuses ns w' top left o e top' left'

-- The words became w': table and stack stand, and the answer is the outcome o.
pub record GivesU (slack x : ℕ) (ns w w' : List ℕ) (top left hi : ℕ) (o : Out Subst) (r : Applied) : Type 0 where
  pub stands : Stands w w' top hi
  pub answer : AnswerU slack x ns w' top left hi o r

-- Two types, and the stack that ends at sp.
pub record ReadyU (ns w : List ℕ) (top left sp s t : ℕ) : Type 0 where
  pub names : Names ns
  pub first : Node w top s
  pub second : Node w top t
  pub room : 4 * top + 8 * left ≤ sp
  pub fits : sp ≤ length w

-- Two types, and the k pairs in order that end at hi.
pub record ReadyOne (ns w : List ℕ) (top left hi k x y : ℕ) : Type 0 where
  pub names : Names ns
  pub first : Node w top x
  pub second : Node w top y
  pub room : 4 * top + 8 * left + 2 * k ≤ hi
  pub sub : Sub w top (hi - 2 * k) k
  pub sorted : Sorted tyvars (sub_at ns w (hi - 2 * k) k)
  pub fits : hi ≤ length w

-- Two arrows' sides.
pub record ReadyArrow (ns w : List ℕ) (top left sp a b c d : ℕ) : Type 0 where
  pub lefts : ReadyU ns w top left sp a c
  pub rights : ReadyU ns w top left sp b d

-- k₂ new pairs just below the k pairs that end at hi, both in order.
pub record ReadyJoin (ns w : List ℕ) (top left hi k₂ k : ℕ) : Type 0 where
  pub names : Names ns
  pub table : Table w top
  pub room : 4 * top + 8 * left + 2 * k₂ + 2 * k ≤ hi
  pub self : Sub w top (hi - 2 * k - 2 * k₂) k₂
  pub other : Sub w top (hi - 2 * k) k
  pub self_sorted : Sorted tyvars (sub_at ns w (hi - 2 * k - 2 * k₂) k₂)
  pub other_sorted : Sorted tyvars (sub_at ns w (hi - 2 * k) k)
