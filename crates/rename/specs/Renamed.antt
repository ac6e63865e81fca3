-- What renaming the variables of a type asks of the words and gives.
use Rattle.std.specs.Prelude.{◌≡◌, List, ℕ, ◌+◌, ◌*◌, ◌<◌, ◌≤◌, length}
use Rattle.meaning.specs.Ast.{size, sizes}
use Rattle.meaning.specs.Budget.{Out, done}
use Rattle.meaning.specs.Subst.{Subst, each, apply_in}
use Rattle.names.specs.Names.{Names, first_nullary, first_node}
use Rattle.ast.specs.Table.{tree, list, Node}
use Rattle.errors.specs.Refusals.{Refuses}
use Rattle.pairs.specs.Pairs.{Stands}
use Rattle.apply.specs.Applied.{Applied}
use Rattle.apply.specs.Applied.{Done, Refused}
use Rattle.rename.specs.Renaming.{Renames, leaves, leaves_list}

-- A list vs of variables that become the words from to on, each of them a variable's word, and words ls that become letters.
pub record Renaming (w ls : List ℕ) (top vs to : ℕ) : Type 0 where
  pub vars : Node w top vs
  pub words : to + vs < first_nullary + first_node
  pub letters : length ls ≤ 26

-- The same with a type or a list of types t; there is room for 8 words a step.
pub record ReadyRename (ns w ls : List ℕ) (top left vs to t : ℕ) : Type 0 where
  pub names : Names ns
  pub node : Node w top t
  pub by : Renaming w ls top vs to
  pub room : 4 * top + 8 * left ≤ length w

-- t is a word of the grown table. Each type node, of sz, cost a step, and for each of the lv variables 4 words were not
-- used, and so many more. For every substitution of which `Of` holds it is what `read` decodes.
pub record Renews {A : Type 0} (Of : Subst → Type 0) (read : ℕ → A) (more-words lv sz : ℕ) (w' : List ℕ) (top left : ℕ) (o : Subst → Out A) (t top' left' : ℕ) : Type 0 where
  pub node : Node w' top' t
  pub more : top ≤ top'
  pub spent : 4 * top' + 8 * left' + 4 * lv + more-words ≤ 4 * top + 8 * left
  pub steps : left' + sz ≡ left
  pub few : lv ≤ sz
  pub is : (s : Subst) → Of s → o s ≡ done (read t) left'

-- The code's answer for the outcome o.
abbrev pub RenamedAs : {A : Type 0} → (Subst → Type 0) → (ℕ → A) → ℕ → ℕ → ℕ → List ℕ → List ℕ → ℕ → ℕ → (Subst → Out A) → Applied → Type 0
RenamedAs Of read c lv sz ns w' top left o (Done t top' left') = Renews Of read c lv sz w' top left o t top' left'
RenamedAs Of read c lv sz ns w' top left o (Refused e top' left') = (s : Subst) → Of s → Refuses ns w' top left (o s) e top' left'

-- The words became w': what is older stands, and the answer is the outcome o.
pub record GivesRenamed {A : Type 0} (Of : Subst → Type 0) (read : ℕ → A) (c lv sz : ℕ) (ns w w' : List ℕ) (top left : ℕ) (o : Subst → Out A) (r : Applied) : Type 0 where
  pub stands : Stands w w' top (4 * top + 8 * left)
  pub answer : RenamedAs Of read c lv sz ns w' top left o r

-- That of a type.
abbrev pub TypeRenamed : List ℕ → List ℕ → List ℕ → List ℕ → ℕ → ℕ → ℕ → ℕ → ℕ → ℕ → Applied → Type 0
TypeRenamed ns w w' ls top left depth vs to t r =
    GivesRenamed (Renames ns w vs to ls) (tree ns w') 4 (leaves (tree ns w t)) (size (tree ns w t)) ns w w' top left (λ s. apply_in depth s (tree ns w t) left) r

-- That of a list of types.
abbrev pub ListRenamed : List ℕ → List ℕ → List ℕ → List ℕ → ℕ → ℕ → ℕ → ℕ → ℕ → ℕ → Applied → Type 0
ListRenamed ns w w' ls top left depth vs to n r =
    GivesRenamed (Renames ns w vs to ls) (list ns w') 0 (leaves_list (list ns w n)) (sizes (list ns w n)) ns w w' top left (λ s. each (apply_in depth s) (list ns w n) left) r
