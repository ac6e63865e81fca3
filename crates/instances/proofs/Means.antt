-- What the code's search means: the pairs fill the head of a chosen instance to the goal; where none is chosen, no head can
-- be filled to it; and it refuses only with 6 and 7.
use mathlib.Core.Path.{◌≡◌, refl, sym, ◌∙◌, subst}
use mathlib.Core.List.{List}
use mathlib.Core.Logic.{◌⊎◌, inl, inr}
use mathlib.Core.Option.{some}
use Prim.Native.Nat.{ℕ, ◌*◌, ◌-◌}
use Rattle.meaning.specs.Base.{nth}
use Rattle.meaning.specs.Ast.{Pred}
use Rattle.meaning.specs.Errors as E
use Rattle.meaning.specs.Subst.{look}
use Rattle.meaning.specs.Classes.{InstanceInfo}
use Rattle.meaning.specs.Derives.{Takes}
use Rattle.theorems.proofs.Tests.{some_inj}
use Rattle.theorems.proofs.Instances as T
use Rattle.errors.specs.Refusals.{refusal_of}
use Rattle.pairs.specs.Pairs.{sub_at}
use Rattle.instances.specs.Accepted.{Instances}
use Rattle.instances.specs.Picks.{GivesPick}
use Rattle.instances.specs.Picked.{Picked}
use Rattle.instances.specs.Picked.{At, Nothing, Refused}

-- A refusal is 6 or 7.
abbrev pub SixOrSeven : E.Refusal → Type 0
SixOrSeven r = (r ≡ E.out_of_steps) ⊎ (r ≡ E.too_deep)

-- What the answer says of derivations.
abbrev pub Finds : List ℕ → List ℕ → List InstanceInfo → Pred → ℕ → Picked → Type 0
Finds ns w' insts p sp (At i k top left) = (inst : InstanceInfo) → nth insts i ≡ some inst → Takes inst p (look (sub_at ns w' (sp - 2 * k) k))
Finds ns w' insts p sp (Nothing left) = T.NoneTakes insts p
Finds ns w' insts p sp (Refused e top left) = SixOrSeven (refusal_of ns w' e)

pub pick_means : (ns w w' il : List ℕ) (top left sp : ℕ) (p : Pred) (insts : List InstanceInfo) → Instances ns w top il insts → (r : Picked)
    → GivesPick ns w w' il top left sp p r → Finds ns w' insts p sp r
pick_means ns w w' il top left sp p insts I (At i k top' left') G =
    let a = G.answer insts I in
    let s = rw a.is at (T.inst_ends SixOrSeven (inl refl) (inr refl) 0 insts p left) in
    λ inst e. subst (λ (x : InstanceInfo). Takes x p (look (sub_at ns w' (sp - 2 * k) k))) (some_inj _ _ (sym a.there ∙ e)) (T.chosen_takes s)
pick_means ns w w' il top left sp p insts I (Nothing left') G = rw (G.answer insts I).0 at (T.inst_ends SixOrSeven (inl refl) (inr refl) 0 insts p left)
pick_means ns w w' il top left sp p insts I (Refused e top' left') G = rw (G.answer insts I).is at (T.inst_ends SixOrSeven (inl refl) (inr refl) 0 insts p left)
