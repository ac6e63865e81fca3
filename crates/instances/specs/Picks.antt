-- Looking an instance up by its head, and the test of overlap: what the code asks of the words and gives.
use Rattle.std.specs.Prelude.{◌≡◌, Bool, true, false, List, ℕ, ◌+◌, ◌*◌, ◌-◌, ◌≤◌, length}
use Rattle.std.proofs.Math.Option.{Option, none, some}
use Rattle.meaning.specs.Base.{is_yes, if, nth}
use Rattle.meaning.specs.Ast.{same_name, Pred}
use Rattle.meaning.specs.Budget.{Out, done, Steps, pure, attempt}
use Rattle.meaning.specs.Subst.{Subst}
use Rattle.meaning.specs.Unify.{match_pred}
use Rattle.meaning.specs.Classes.{InstanceInfo, Chosen, by_inst, overlaps, none_overlaps}
use Rattle.names.specs.Names.{Names}
use Rattle.ast.specs.Table.{Node}
use Rattle.errors.specs.Refusals.{Refuses}
use Rattle.pairs.specs.Pairs.{sub_at, Stands}
use Rattle.compose.specs.Answers.{GrownU}
use Rattle.instances.specs.Accepted.{Instances, Heads}
use Rattle.instances.specs.Tried.{Tried}
use Rattle.instances.specs.Tried.{Got, Failed, Limit}
use Rattle.instances.specs.Picked.{Picked}
use Rattle.instances.specs.Picked.{At, Nothing, Refused as Pick-Refused}
use Rattle.instances.specs.Truth.{Truth}
use Rattle.instances.specs.Truth.{Yes, No, Refused as Truth-Refused}
use Rattle.instances.specs.Apart.{Apart}
use Rattle.instances.specs.Apart.{All, Refused as Apart-Refused}

-- ## The meaning's loops, one instance at a time

-- An instance's head against a goal. One of another class has no match, and costs nothing.
unfoldable pub tried : Pred → Pred → Steps (Option Subst)
tried h p = if (is_yes (same_name h.class p.class)) (attempt (match_pred h p)) (pure none)

-- Whether an instance's head overlaps a new one. One of another class does not.
unfoldable pub clash : Pred → Pred → Steps Bool
clash h p = if (is_yes (same_name h.class p.class)) (overlaps h.ty p.ty) (pure false)

-- ## What is asked

-- The type t of a goal or of a new head, the words il of the instances, and the stack that ends at sp.
pub record ReadyPick (ns w il : List ℕ) (top left sp t : ℕ) : Type 0 where
  pub names : Names ns
  pub node : Node w top t
  pub heads : Heads w top il
  pub room : 4 * top + 8 * left ≤ sp
  pub fits : sp ≤ length w

-- ## What is given. Where a match is answered its pairs are over a table of top' nodes. Otherwise the caller goes on with
-- its own: the top nodes stand, whatever an attempt wrote after them

-- A match, as k pairs that end at sp over a table of top' nodes; or none; or a refusal that stays one.
abbrev pub TriedAs : List ℕ → List ℕ → ℕ → ℕ → ℕ → Out (Option Subst) → Tried → Type 0
TriedAs ns w' top left sp o (Got k top' left') = (o ≡ done (some (sub_at ns w' (sp - 2 * k) k)) left') × GrownU 1 0 ns w' top left sp top' left' k
TriedAs ns w' top left sp o (Failed left') = (o ≡ done none left') × (left' ≤ left)
TriedAs ns w' top left sp o (Limit e top' left') = Refuses ns w' top left o e top' left'

-- The words became w': table and stack stand, and the answer is the outcome o.
pub record Tries (ns w w' : List ℕ) (top left sp : ℕ) (o : Out (Option Subst)) (r : Tried) : Type 0 where
  pub stands : Stands w w' top sp
  pub answer : TriedAs ns w' top left sp o r

-- Instance number i was chosen: the match is the k pairs that end at sp, over a table of top' nodes.
pub record PickedAt (ns w' : List ℕ) (insts : List InstanceInfo) (top left sp : ℕ) (o : Out (Option Chosen)) (i k top' left' : ℕ) : Type 0 where
  pub inst : InstanceInfo
  pub there : nth insts i ≡ some inst
  pub is : o ≡ done (some (record { index = i; inst = inst; fills = sub_at ns w' (sp - 2 * k) k })) left'
  pub grown : GrownU 1 0 ns w' top left sp top' left' k

-- An instance, or none, or a refusal.
abbrev pub PickedAs : List ℕ → List ℕ → List InstanceInfo → ℕ → ℕ → ℕ → Out (Option Chosen) → Picked → Type 0
PickedAs ns w' insts top left sp o (At i k top' left') = PickedAt ns w' insts top left sp o i k top' left'
PickedAs ns w' insts top left sp o (Nothing left') = (o ≡ done none left') × (left' ≤ left)
PickedAs ns w' insts top left sp o (Pick-Refused e top' left') = Refuses ns w' top left o e top' left'

-- The same as `Tries`, for all instances that the words il stand for, and a goal.
pub record GivesPick (ns w w' il : List ℕ) (top left sp : ℕ) (goal : Pred) (r : Picked) : Type 0 where
  pub stands : Stands w w' top sp
  pub answer : (insts : List InstanceInfo) → Instances ns w top il insts → PickedAs ns w' insts top left sp (by_inst 0 insts goal left) r

-- Yes or no, or a refusal.
abbrev pub TruthAs : List ℕ → List ℕ → ℕ → ℕ → Out Bool → Truth → Type 0
TruthAs ns w' top left o (Yes left') = (o ≡ done true left') × (left' ≤ left)
TruthAs ns w' top left o (No left') = (o ≡ done false left') × (left' ≤ left)
TruthAs ns w' top left o (Truth-Refused e top' left') = Refuses ns w' top left o e top' left'

-- The words became w': table and stack stand, and the answer is the outcome o.
pub record Tests (ns w w' : List ℕ) (top left sp : ℕ) (o : Out Bool) (r : Truth) : Type 0 where
  pub stands : Stands w w' top sp
  pub answer : TruthAs ns w' top left o r

-- All older heads leave room for a new one, or a refusal.
abbrev pub ApartAs : List ℕ → List ℕ → ℕ → ℕ → Out (Unit {0}) → Apart → Type 0
ApartAs ns w' top left o (All left') = (o ≡ done tt left') × (left' ≤ left)
ApartAs ns w' top left o (Apart-Refused e top' left') = Refuses ns w' top left o e top' left'

-- The same for all instances that the words il stand for, and a new head.
pub record GivesApart (ns w w' il : List ℕ) (top left sp : ℕ) (new : Pred) (r : Apart) : Type 0 where
  pub stands : Stands w w' top sp
  pub answer : (insts : List InstanceInfo) → Instances ns w top il insts → ApartAs ns w' top left (none_overlaps insts new left) r
