-- What renaming the type variables of a core term asks of the words and gives.
use Rattle.std.specs.Prelude.{List, [], ℕ, ◌+◌, ◌*◌, ◌≤◌, length}
use Rattle.meaning.specs.Ast.{Core}
use Rattle.meaning.specs.Budget.{Out}
use Rattle.meaning.specs.Subst.{Subst}
use Rattle.meaning.specs.Cores.{apply_core_node, apply_core_in}
use Rattle.names.specs.Names.{Names}
use Rattle.ast.specs.Table.{Node}
use Rattle.rename.specs.Renaming.{Renames}
use Rattle.apply.specs.Applied.{Applied}
use Rattle.terms.specs.Answers.{GivesFor}

-- The substitution makes the i-th of the words ls the i-th letter, and nothing else. No list is asked, so that the words do
-- not matter: over any words this is `Renames` with no list.
abbrev pub Lettered : List ℕ → List ℕ → Subst → Type 0
Lettered ns ls = Renames ns [] 0 0 ls

-- A term e or a list e, and at most 26 words ls; above the table is room for 8 words a step.
pub record ReadyLetters (ns w ls : List ℕ) (top left e : ℕ) : Type 0 where
  pub names : Names ns
  pub node : Node w top e
  pub few : length ls ≤ 26
  pub room : 4 * top + 8 * left ≤ length w

-- The answer for every substitution that does so; of the words, s are not used.
abbrev pub GivesLettered : {A : Type 0} → (List ℕ → List ℕ → ℕ → A) → ℕ → List ℕ → List ℕ → List ℕ → List ℕ → ℕ → ℕ → (Subst → Out A) → Applied → Type 0
GivesLettered read s ns ls w w' top left o r = GivesFor {E = Subst} (Lettered ns ls) (λ s. ns) read s (4 * top + 8 * left) w w' top left o r

-- The walk at a node c with so much depth and so many steps left.
abbrev pub node_out : ℕ → ℕ → Subst → Core → Out Core
node_out depth left s c = apply_core_node (apply_core_in depth s) s c left
