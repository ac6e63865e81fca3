-- Three words are written.
use native.Mathlib.Omega.{arith}
use mathlib.Core.Path.{refl}
use lib.ListN.{length-set}
use Rattle.instantiate.specs.Instance.{with_words}
use Rattle.instantiate.proofs.put_row.Goals as goal

pub bounds-binders-i-2 : goal.bounds-binders-i-2
bounds-binders-i-2 c = simp length-set (omega arith)

pub bounds-binders-i-3 : goal.bounds-binders-i-3
bounds-binders-i-3 c = simp length-set (omega arith)

pub returns : goal.returns
unfolding with_words
returns c = refl
