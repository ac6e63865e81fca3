-- What unification's functions ask of the words and give: the substitution as pairs below where the stack ended.
use Rattle.std.specs.Prelude.{◌≡◌, List, ℕ, ◌+◌, ◌*◌, ◌≤◌, length}
use Rattle.meaning.specs.Ast.{Ty}
use Rattle.meaning.specs.Budget.{Out, done, Steps, ◌>>=◌, pure}
use Rattle.meaning.specs.Subst.{Subst, apply_type, compose}
use Rattle.names.specs.Names.{Names}
use Rattle.ast.specs.Table.{tree, Node}
use Rattle.errors.specs.Refusals.{Refuses}
use Rattle.pairs.specs.Pairs.{Stands}
use Rattle.unify.specs.Two.{Two}
use Rattle.unify.specs.Two.{Done as Two-Done, Refused as Two-Refused}

-- A substitution applied to two types, the left one first.
unfoldable pub apply_two : Subst → Ty → Ty → Steps (Ty × Ty)
apply_two s x y = do
  a ← apply_type s x
  b ← apply_type s y
  pure (a, b)

-- One pair of types after s: what `unify_zip` does at each turn, and `unify` at an arrow's right sides.
unfoldable pub unify_one : (Ty → Ty → Steps Subst) → Subst → Ty → Ty → Steps Subst
unify_one u s x y = do
  p ← apply_two s x y
  s₁ ← u p.0 p.1
  compose s₁ s

-- A variable is to be bound to the type t.
pub record Binds (ns w : List ℕ) (top left sp t : ℕ) : Type 0 where
  pub names : Names ns
  pub node : Node w top t
  pub room : 4 * top + 8 * left + 2 ≤ sp
  pub fits : sp ≤ length w

-- Both are words of the grown table; of the words spoken for at least eight came free, and at least two steps are spent.
pub record GrownTwo (w' : List ℕ) (top left top' left' a b : ℕ) : Type 0 where
  pub first : Node w' top' a
  pub second : Node w' top' b
  pub more : top ≤ top'
  pub spent : 4 * top' + 8 * left' + 8 ≤ 4 * top + 8 * left
  pub down : left' + 2 ≤ left

-- The code's answer for an outcome o.
abbrev pub AnswerTwo : List ℕ → List ℕ → ℕ → ℕ → Out (Ty × Ty) → Two → Type 0
AnswerTwo ns w' top left o (Two-Done a b top' left') = (o ≡ done (tree ns w' a, tree ns w' b) left') × GrownTwo w' top left top' left' a b
AnswerTwo ns w' top left o (Two-Refused e top' left') = Refuses ns w' top left o e top' left'

-- The words became w': what is older stands, and the answer is the outcome o.
pub record GivesTwo (ns w w' : List ℕ) (top left : ℕ) (o : Out (Ty × Ty)) (r : Two) : Type 0 where
  pub stands : Stands w w' top (4 * top + 8 * left)
  pub answer : AnswerTwo ns w' top left o r
