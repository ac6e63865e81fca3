-- `names::push` meets its contract: each word is shifted with what fell out of the one before. Assumes nothing.
use mathlib.Core.Path.{refl}
use Prim.Native.Nat.{◌%◌}
use native.Mathlib.Omega.{arith}
use Rattle.names.specs.Keys.{bytes_of}
use Rattle.names.proofs.Words.{shifted_four}
use Rattle.names.proofs.push.Goals as goal

pub returns : goal.returns
unfolding bytes_of
returns c = record { out = c.args.k.d % 256; small = omega arith; alone = refl; shifted = shifted_four c.args.byte _ _ _ _ _ _ _ _ _ _ _ _ c.shift-a.ensures c.shift-b.ensures c.shift-c.ensures c.shift-d.ensures }
