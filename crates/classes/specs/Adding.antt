-- `add_class` and `add_instance`: what the code asks of the words and gives.
use Rattle.std.specs.Prelude.{◌≡◌, true, false, List, map, ℕ, ◌+◌, ◌*◌, ◌<◌, ◌≤◌, length, get_or, Result, Ok, Err}
use Rattle.meaning.specs.Ast.{Name, Pred}
use Rattle.meaning.specs.Errors.{missing_superclass}
use Rattle.meaning.specs.Budget.{Out, done, refused}
use Rattle.meaning.specs.Classes.{ClassEnv, ClassInfo, InstanceInfo, supers_known, with_class, add_class, with_instance, add_instance}
use Rattle.names.specs.Names.{name_of, Names}
use Rattle.errors.specs.Refusals.{Refuses}
use Rattle.pairs.specs.Pairs.{Stands}
use Rattle.instances.specs.Accepted.{Instances}
use Rattle.instances.specs.Apart.{Apart}
use Rattle.instances.specs.Apart.{All as Apart-All, Refused as Apart-Refused}
use Rattle.supers.specs.ClassTable.{declared_at, Supers}
use Rattle.classes.specs.Growing.{Declared, ClassTable}
use Rattle.classes.specs.declared.NotAdded.{NotAdded}
use Rattle.classes.specs.declared.NotAdded.TheVariants.{Refused, Full}

-- ## Superclasses

-- For an outcome of `supers_known` for the class c: all are known, or this one is missing. It costs no step.
abbrev pub KnownAs : List ℕ → Name → ℕ → Out (Unit {0}) → Result (Unit {0}) ℕ → Type 0
KnownAs ns c left o (Ok u) = o ≡ done tt left
KnownAs ns c left o (Err s) = o ≡ refused (missing_superclass c (name_of ns s)) left

-- Where all are known, each has its row.
abbrev pub RowsOf : List ℕ → List ℕ → Result (Unit {0}) ℕ → Type 0
RowsOf cl ss (Ok u) = (i : ℕ) → i < length ss → declared_at cl (get_or ss i 0) ≡ true
RowsOf cl ss (Err s) = Unit {0}

-- The answer for the superclasses ss, of every class in every class environment that the table has.
pub record Knows (cl ss : List ℕ) (r : Result (Unit {0}) ℕ) : Type 0 where
  pub rows : RowsOf cl ss r
  pub answer : (ns : List ℕ) (ce : ClassEnv) → Declared ns cl ce → (c : Name) (left : ℕ) → KnownAs ns c left (supers_known ce c (map (name_of ns) ss) left) r

-- ## A new class

-- The class of name c has a row and is not declared (else the declaration was refused before), and the table is that of a
-- class environment.
pub record ReadyClass (ns cl : List ℕ) (rows used c : ℕ) (ce : ClassEnv) : Type 0 where
  pub names : Names ns
  pub table : ClassTable cl rows used
  pub row : c < rows
  pub new : declared_at cl c ≡ false
  pub supers : Supers ns cl ce
  pub declared : Declared ns cl ce

-- The class has this name and these superclasses. Its signatures and defaults have no words here.
pub record IsClass (ns : List ℕ) (c : ℕ) (ss : List ℕ) (ci : ClassInfo) : Type 0 where
  pub name : ci.name ≡ name_of ns c
  pub supers : ci.supers ≡ map (name_of ns) ss

-- The row of c and its superclasses are written, after the words in use, and nothing else.
pub record PutClass (cl cl' : List ℕ) (used c : ℕ) (ss : List ℕ) (used' : ℕ) : Type 0 where
  pub is : used' ≡ used + length ss
  pub fits : used' ≤ length cl
  pub long : length cl' ≡ length cl
  pub place : get_or cl' (2 * c) 0 ≡ used
  pub count : get_or cl' (2 * c + 1) 0 ≡ length ss
  pub list : 2 * c + 1 < used → (j : ℕ) → j < length ss → get_or cl' (used + j) 0 ≡ get_or ss j 0
  pub low : (j : ℕ) → (j ≡ 2 * c → ⊥) → (j ≡ 2 * c + 1 → ⊥) → j < used → get_or cl' j 0 ≡ get_or cl j 0
  pub high : (j : ℕ) → (j ≡ 2 * c → ⊥) → (j ≡ 2 * c + 1 → ⊥) → used' ≤ j → get_or cl' j 0 ≡ get_or cl j 0

-- It is written, or there is no room for it.
abbrev pub PutAs : List ℕ → List ℕ → ℕ → ℕ → List ℕ → Result ℕ NotAdded → Type 0
PutAs cl cl' used c ss (Ok used') = PutClass cl cl' used c ss used'
PutAs cl cl' used c ss (Err (Refused e)) = ⊥
PutAs cl cl' used c ss (Err Full) = (cl' ≡ cl) × (2 * c + 1 < length cl → length cl < used + length ss)

pub record Puts (cl cl' : List ℕ) (used c : ℕ) (ss : List ℕ) (r : Result ℕ NotAdded) : Type 0 where
  pub is : PutAs cl cl' used c ss r

-- The class is added: the table is that of the class environment with it, and a class table again.
pub record AddedClass (ns cl' : List ℕ) (rows used : ℕ) (ss : List ℕ) (ce : ClassEnv) (ci : ClassInfo) (left used' : ℕ) : Type 0 where
  pub is : add_class ce ci left ≡ done (with_class ci ce) left
  pub more : used' ≡ used + length ss
  pub table : ClassTable cl' rows used'
  pub supers : Supers ns cl' (with_class ci ce)
  pub declared : Declared ns cl' (with_class ci ce)

-- The class would be added, but its superclasses have no room.
pub record NoRoom (cl : List ℕ) (used : ℕ) (ss : List ℕ) (ce : ClassEnv) (ci : ClassInfo) (left : ℕ) : Type 0 where
  pub is : add_class ce ci left ≡ done (with_class ci ce) left
  pub short : length cl < used + length ss

-- For the outcome of `add_class`: the class is added; or it is refused, for no step; or there is no room.
abbrev pub AddedAs : List ℕ → List ℕ → List ℕ → ℕ → ℕ → List ℕ → ClassEnv → ClassInfo → ℕ → Result ℕ NotAdded → Type 0
AddedAs ns cl cl' rows used ss ce ci left (Ok used') = AddedClass ns cl' rows used ss ce ci left used'
AddedAs ns cl cl' rows used ss ce ci left (Err (Refused e)) = (w : List ℕ) (top : ℕ) → Refuses ns w top left (add_class ce ci left) e top left
AddedAs ns cl cl' rows used ss ce ci left (Err Full) = NoRoom cl used ss ce ci left

-- The table is as it was, unless the class was added.
abbrev pub Unless : List ℕ → List ℕ → Result ℕ NotAdded → Type 0
Unless cl cl' (Ok used') = Unit {0}
Unless cl cl' (Err (Refused e)) = cl' ≡ cl
Unless cl cl' (Err Full) = cl' ≡ cl

-- The answer, for every class of this name and these superclasses, in every class environment that the table has.
pub record AddsClass (cl cl' : List ℕ) (used c : ℕ) (ss : List ℕ) (r : Result ℕ NotAdded) : Type 0 where
  pub stands : Unless cl cl' r
  pub answer : (ns : List ℕ) (rows left : ℕ) (ce : ClassEnv) (ci : ClassInfo) → ReadyClass ns cl rows used c ce → IsClass ns c ss ci → AddedAs ns cl cl' rows used ss ce ci left r

-- ## A new instance

-- For the outcome of `add_instance` of i: it is added, or a refusal.
abbrev pub AcceptedAs : List ℕ → List ℕ → ℕ → ℕ → ClassEnv → InstanceInfo → Apart → Type 0
AcceptedAs ns w' top left ce i (Apart-All left') = (add_instance ce i left ≡ done (with_instance i ce) left') × (left' ≤ left)
AcceptedAs ns w' top left ce i (Apart-Refused e top' left') = Refuses ns w' top left (add_instance ce i left) e top' left'

-- The words became w': table and stack stand, and the answer is that of every instance with this head, in every class
-- environment with the classes of the class table and the instances of the words il.
pub record GivesInstance (ns cl w w' il : List ℕ) (top left sp : ℕ) (head : Pred) (r : Apart) : Type 0 where
  pub stands : Stands w w' top sp
  pub answer : (ce : ClassEnv) (i : InstanceInfo) → Declared ns cl ce → Instances ns w top il ce.instances → i.head ≡ head → AcceptedAs ns w' top left ce i r
