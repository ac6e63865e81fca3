-- `spelling::key_of` meets its contract. The loop's invariant: the bytes after those left are packed. Assumes nothing.
use mathlib.Core.Path.{refl}
use Rattle.names.specs.Keys.{bytes_of, four}
use Rattle.spelling.proofs.Loops.{none_packed, one_packed, all_packed}
use Rattle.spelling.proofs.key_of.Goals as goal

pub loop-b-init : goal.loop-b-init
unfolding bytes_of four
loop-b-init c = none_packed _ _ _ (cc (c.iter.ensures.rest, c.rev-b-items.ensures.source, c.into_iter-b-iterator.ensures.into_iter_gives)) refl refl

pub loop-b-preserved : goal.loop-b-preserved
loop-b-preserved c = one_packed c.loop-b.invariant c.in-Some.ensures.steps c.requires (rw c.from.ensures at c.push-k.ensures)

pub returns : goal.returns
returns c = let h = c.in-None.ensures.steps in all_packed c.loop-b.invariant h.0
