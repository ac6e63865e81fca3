-- The case of no variables that are passed over.
use mathlib.Core.Path.{refl, sym}
use Rattle.free.proofs.Arms.{whole_preds}
use Rattle.free.proofs.Ways.{wants_as, collects_as}
use Rattle.free.proofs.ftv_preds.Goals as goal

pub free_types-requires-clause-wants : goal.free_types-requires-clause-wants
free_types-requires-clause-wants c = wants_as refl (sym (whole_preds _ _ _ c.requires.node_2)) c.requires.wants

pub returns-clause-collects : goal.returns-clause-collects
returns-clause-collects c = collects_as refl (whole_preds _ _ _ c.requires.node_2) c.free_types.ensures.collects
