-- The path of a walk as frames below sp: frame j, the root's is 0, holds a class and how many of its superclasses were taken.
use Rattle.std.specs.Prelude.{◌≡◌, Bool, true, false, List, ℕ, zero, suc, ◌+◌, ◌*◌, ◌-◌, ◌<◌, ◌≤◌, get_or, set}
use Rattle.meaning.specs.Ast.{super, Core, dict_proj}
use Rattle.names.specs.Names.{name_of}
use Rattle.ast.specs.Table.{Node}
use Rattle.pairs.specs.Pairs.{Stands}
use Rattle.cores.specs.Terms.{core}
use Rattle.supers.specs.ClassTable.{super_at}
use Rattle.supers.specs.declared.path.Entered.{Entered}
use Rattle.supers.specs.declared.path.Entered.TheVariants.{Up, Deep, Spent, Hit, Miss}
use Rattle.std.specs.Prelude.{Some, None}

-- The class of frame j.
unfoldable pub class_in : List ℕ → ℕ → ℕ → ℕ
class_in w sp j = get_or w (sp - 2 * suc j) 0

-- How many of its superclasses were taken.
unfoldable pub taken_in : List ℕ → ℕ → ℕ → ℕ
taken_in w sp j = get_or w (sp - 2 * suc j + 1) 0

-- w with frame d: the class s, none of whose superclasses was taken.
unfoldable pub framed : List ℕ → ℕ → ℕ → ℕ → List ℕ
framed w sp d s = set (set w (sp - 2 * suc d) s) (sp - 2 * suc d + 1) 0

-- w with one more superclass of frame j taken.
unfoldable pub taken : List ℕ → ℕ → ℕ → List ℕ
taken w sp j = set w (sp - 2 * suc j + 1) (taken_in w sp j + 1)

-- The dictionary of frame j: projections along the frames before it, from the dictionary e.
unfoldable pub path_core : List ℕ → List ℕ → ℕ → Core → ℕ → Core
path_core ns w sp e zero = e
path_core ns w sp e (suc j) = dict_proj (path_core ns w sp e j) (super (name_of ns (class_in w sp j)) (name_of ns (class_in w sp (suc j))))

-- What comes of an entry of class s below d others, with so many steps left: depth is tested before the step.
abbrev pub EntersAs : List ℕ → List ℕ → ℕ → ℕ → ℕ → ℕ → ℕ → Bool → Bool → Entered → Type 0
EntersAs w w' sp d left s goal same barred Up = ⊥
EntersAs w w' sp d left s goal same barred Deep = (w' ≡ w) × (256 ≤ d)
EntersAs w w' sp d left s goal same barred Spent = (w' ≡ w) × ((d < 256) × (left ≡ 0))
EntersAs w w' sp d left s goal same barred Hit = (w' ≡ framed w sp d s) × ((d < 256) × ((0 < left) × ((s ≡ goal) × ((same ≡ true) × (barred ≡ false)))))
EntersAs w w' sp d left s goal same barred Miss = (w' ≡ framed w sp d s) × ((d < 256) × ((0 < left) × (s ≡ goal → same ≡ true → barred ≡ false → ⊥)))

pub record Enters (w w' : List ℕ) (sp d left s goal : ℕ) (same barred : Bool) (r : Entered) : Type 0 where
  pub says : EntersAs w w' sp d left s goal same barred r

-- The next superclass s of frame j was taken and entered.
pub record Took (cl w w' : List ℕ) (sp j left goal : ℕ) (same : Bool) (r : Entered) : Type 0 where
  pub s : ℕ
  pub next : super_at cl (class_in w sp j) (taken_in w sp j) ≡ Some s
  pub entered : EntersAs (taken w sp j) w' sp (suc j) left s goal same false r

-- What comes of the next superclass of frame j: there is none, or it was entered.
abbrev pub TurnsAs : List ℕ → List ℕ → List ℕ → ℕ → ℕ → ℕ → ℕ → Bool → Entered → Type 0
TurnsAs cl w w' sp j left goal same Up = (w' ≡ w) × (super_at cl (class_in w sp j) (taken_in w sp j) ≡ None)
TurnsAs cl w w' sp j left goal same Deep = Took cl w w' sp j left goal same Deep
TurnsAs cl w w' sp j left goal same Spent = Took cl w w' sp j left goal same Spent
TurnsAs cl w w' sp j left goal same Hit = Took cl w w' sp j left goal same Hit
TurnsAs cl w w' sp j left goal same Miss = Took cl w w' sp j left goal same Miss

-- The same of the last of d frames.
pub record Turns (cl w w' : List ℕ) (sp d left goal : ℕ) (same : Bool) (r : Entered) : Type 0 where
  pub says : (j : ℕ) → d ≡ suc j → TurnsAs cl w w' sp j left goal same r

-- r is the dictionary of frame d, where frame 0 has the dictionary e; d nodes were made for it.
pub record Built (w w' : List ℕ) (top sp d e r : ℕ) : Type 0 where
  pub stands : Stands w w' top (sp - 2 * suc d)
  pub node : Node w' (top + d) r
  pub is : (ns : List ℕ) → core ns w' r ≡ path_core ns w sp (core ns w e) d
