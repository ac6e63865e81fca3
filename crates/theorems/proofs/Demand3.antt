-- Demand 3: what resolution gives is derived, reached environments are sound, and so every path finds its field.
use mathlib.Core.List.{[]}
use Rattle.meaning.specs.Ast.{pred}
use Rattle.meaning.specs.Budget.{depth}
use Rattle.meaning.specs.Classes.{resolve}
use Rattle.meaning.specs.Derives.{Derives}
use Rattle.meaning.specs.Select.{Demand3}
use Rattle.theorems.proofs.Says.{Any, of_done}
use Rattle.theorems.proofs.Resolved.{resolve_says}
use Rattle.theorems.proofs.Reaches.{sound_reached}
use Rattle.theorems.proofs.Good.{way_found}
use Rattle.theorems.proofs.Selected.{derived_good}

pub demand3 : Demand3
demand3 ck r c a n left e given =
    let ce = ck.class_env in
    let d = of_done (Derives ce [] (pred c a)) Any (resolve ce [] (pred c a) n) e left (resolve_says depth ce [] (pred c a) n) given in
    let g = derived_good ce (sound_reached ck r) (pred c a) e d in
    (g.0, g.1, λ z p ci m known has. way_found g.2 p ci m known has)
