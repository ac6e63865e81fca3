-- The word is the constructor's.
use Rattle.ast.proofs.Stands.{stands_int}
use Rattle.ast.proofs.Type.int.Goals as goal

pub returns : goal.returns
returns c = stands_int
