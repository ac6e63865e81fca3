-- The node of a number.
use native.Mathlib.Omega.{arith}
use Rattle.ast.proofs.Join.{both_fit}
use Rattle.inferred.proofs.Literals.{int_closed}
use Rattle.inferred.proofs.int_literal.Goals as goal

pub returns : goal.returns
returns c = let z = c.push_int-term.ensures in rw (z.word, z.top, z.left) (int_closed c.requires.ready_literal c.args.v (both_fit c.args.base.now.words.now c.args.work.now (omega arith) c.well_formed.1.0.0) z.is)
