-- What a walk over core terms gives, for each x of which `Of` holds: under any names, or for any substitution that words
-- stand for.
use Rattle.std.specs.Prelude.{◌≡◌, List, ℕ, ◌+◌, ◌*◌, ◌≤◌}
use Rattle.meaning.specs.Ast.{Core}
use Rattle.meaning.specs.Budget.{Out, done}
use Rattle.ast.specs.Table.{Node}
use Rattle.errors.specs.Refusals.{Refuses}
use Rattle.pairs.specs.Pairs.{Stands}
use Rattle.apply.specs.Applied.{Applied}
use Rattle.apply.specs.Applied.{Done, Refused}
use Rattle.terms.specs.Plain.{plain_node, plain_in}
use Rattle.terms.specs.Rows.{replaced_in}

-- t is a word of the grown table, and `read` decodes the answer from it under the names of x. Of the words below hi, s are
-- not spoken for: neither the table has them, nor are they for a step left.
pub record MakesFor {E A : Type 0} (Of : E → Type 0) (nm : E → List ℕ) (read : List ℕ → List ℕ → ℕ → A) (s hi : ℕ) (w' : List ℕ) (top left : ℕ) (o : E → Out A) (t top' left' : ℕ) : Type 0 where
  pub node : Node w' top' t
  pub more : top ≤ top'
  pub spent : 4 * top' + 8 * left' + s ≤ hi
  pub down : left' ≤ left
  pub is : (x : E) → Of x → o x ≡ done (read (nm x) w' t) left'

-- The code's answer for the outcome o.
abbrev pub AnswerFor : {E A : Type 0} → (E → Type 0) → (E → List ℕ) → (List ℕ → List ℕ → ℕ → A) → ℕ → ℕ → List ℕ → ℕ → ℕ → (E → Out A) → Applied → Type 0
AnswerFor Of nm read s hi w' top left o (Done t top' left') = MakesFor Of nm read s hi w' top left o t top' left'
AnswerFor {E} Of nm read s hi w' top left o (Refused e top' left') = (x : E) → Of x → Refuses (nm x) w' top left (o x) e top' left'

-- The words became w': the table and the words from hi on stand, and the answer is the outcome o.
pub record GivesFor {E A : Type 0} (Of : E → Type 0) (nm : E → List ℕ) (read : List ℕ → List ℕ → ℕ → A) (s hi : ℕ) (w w' : List ℕ) (top left : ℕ) (o : E → Out A) (r : Applied) : Type 0 where
  pub stands : Stands w w' top hi
  pub answer : AnswerFor Of nm read s hi w' top left o r

-- The same under any names.
abbrev pub GivesTerm : {A : Type 0} → (List ℕ → List ℕ → ℕ → A) → ℕ → List ℕ → List ℕ → ℕ → ℕ → (List ℕ → Out A) → Applied → Type 0
GivesTerm read s w w' top left o r = GivesFor {E = List ℕ} (λ ns. Unit {0}) (λ ns. ns) read s (4 * top + 8 * left) w w' top left o r

-- The walk at a node c with so much depth and so many steps left, where the first n rows replace.
abbrev pub node_out : List ℕ → List ℕ → List ℕ → ℕ → ℕ → ℕ → Core → Out Core
node_out ns w bs n depth left c = plain_node (plain_in depth (replaced_in ns w bs n)) (replaced_in ns w bs n) c left
