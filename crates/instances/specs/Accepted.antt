-- Accepted instances as words: one for each, in the order of their acceptance, that stands for a list of predicates; its
-- first one is the head, the others are the context.
use Rattle.std.specs.Prelude.{◌≡◌, List, ◌∷◌, ℕ, ◌+◌, ◌*◌, ◌<◌, ◌≤◌, length, get_or}
use Rattle.std.proofs.Math.Option.{some}
use Rattle.meaning.specs.Base.{count, nth}
use Rattle.meaning.specs.Ast.{Pred, pred}
use Rattle.meaning.specs.Classes.{InstanceInfo}
use Rattle.names.specs.Names.{first_node, name_of}
use Rattle.ast.specs.Table.{cell_of, tree, Node}
use Rattle.ast.specs.declared.Cell.{Cell}
use Rattle.ast.specs.declared.Cell.TheVariants.{Nil, Cons}
use Rattle.subst.specs.Preds.{class_at, preds_of_word}

-- The word l of the table stands for an instance's head and context. The fields of its dictionary have no words here.
pub record Stored (ns w : List ℕ) (top l : ℕ) (inst : InstanceInfo) : Type 0 where
  pub node : Node w top l
  pub says : preds_of_word ns w l ≡ inst.head ∷ inst.context

-- The words il stand for the instances, in their order.
pub record Instances (ns w : List ℕ) (top : ℕ) (il : List ℕ) (insts : List InstanceInfo) : Type 0 where
  pub many : length il ≡ count insts
  pub each : (i : ℕ) (inst : InstanceInfo) → nth insts i ≡ some inst → Stored ns w top (get_or il i 0) inst

-- A list with a first element.
abbrev pub NotNil : Cell → Type 0
NotNil Nil = ⊥
NotNil (Cons a b) = Unit {0}

-- What the words alone must be: lists of the table, each with a first predicate. So they are of any instances.
pub record Heads (w : List ℕ) (top : ℕ) (il : List ℕ) : Type 0 where
  pub node : (i : ℕ) → i < length il → Node w top (get_or il i 0)
  pub cell : (i : ℕ) → i < length il → NotNil (cell_of w (get_or il i 0))

-- The word l is a list with a first element, and may be read.
pub record Openable (w : List ℕ) (l : ℕ) : Type 0 where
  pub room : 4 * l + 4 ≤ 4 * first_node + length w
  pub cell : NotNil (cell_of w l)

-- A class, a type and a context are those of the instance of word l.
pub record Opened (w : List ℕ) (l c a b : ℕ) : Type 0 where
  pub class : c ≡ class_at w l
  pub cell : cell_of w l ≡ Cons a b

-- The type at the front of a list.
abbrev pub front_of : Cell → ℕ
front_of Nil = 0
front_of (Cons a b) = a

-- The head of the instance of word l.
unfoldable pub head_of : List ℕ → List ℕ → ℕ → Pred
head_of ns w l = pred (name_of ns (class_at w l)) (tree ns w (front_of (cell_of w l)))
