-- Four words are written.
use mathlib.Core.Path.{refl}
use Rattle.scope.specs.Scope.{written}
use Rattle.scope.proofs.write.Goals as goal

pub returns : goal.returns
unfolding written
returns c = refl
