-- The case of no variables that are passed over.
use mathlib.Core.Path.{refl, sym}
use Rattle.free.proofs.Arms.{whole_type}
use Rattle.free.proofs.Ways.{wants_as, collects_as}
use Rattle.free.proofs.ftv_type.Goals as goal

pub free_type-requires-clause-wants : goal.free_type-requires-clause-wants
free_type-requires-clause-wants c = wants_as refl (sym (whole_type _ _ _ _)) c.requires.wants

pub returns-clause-collects : goal.returns-clause-collects
returns-clause-collects c = collects_as refl (whole_type _ _ _ _) c.free_type.ensures.collects
