-- The word is the constructor's.
use Rattle.ast.proofs.Stands.{stands_bool}
use Rattle.ast.proofs.Type.bool.Goals as goal

pub returns : goal.returns
returns c = stands_bool
