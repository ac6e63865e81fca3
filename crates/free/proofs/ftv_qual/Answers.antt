-- The case of no variables that are passed over.
use mathlib.Core.Path.{refl, sym}
use Rattle.free.proofs.Arms.{qual_is}
use Rattle.free.proofs.Ways.{wants_as, collects_as}
use Rattle.free.proofs.ftv_qual.Goals as goal

pub ftv_scheme-requires-clause-wants : goal.ftv_scheme-requires-clause-wants
ftv_scheme-requires-clause-wants c = wants_as refl (sym (qual_is _ _ _ _)) c.requires.wants

pub returns-clause-collects : goal.returns-clause-collects
returns-clause-collects c = collects_as refl (qual_is _ _ _ _) c.ftv_scheme.ensures.collects
