-- The loop's invariant: what was found comes last of all. The measure is how many are not found yet.
use mathlib.Core.Path.{refl, ◌∙◌}
use native.Mathlib.Omega.{arith}
use Rattle.ast.proofs.Join.{joined, small_top}
use Rattle.canonical.proofs.Sorting.{sorting, sorts_end, sorts_room, sorts_on}
use Rattle.canonical.proofs.sorted.sorted_vars.Goals as goal

pub loop-x-init : goal.loop-x-init
loop-x-init c = (sorting c.requires.ready_vars, refl)

pub last_before-requires : goal.last_before-requires
last_before-requires c = record { ready_type = c.loop-x.invariant.0.ready; node = c.loop-x.invariant.0.preds }

pub shape_of-work : goal.shape_of-work
shape_of-work c = let x = joined c.args.base.now.words.now c.args.work.now in let y = joined c.args.base.now.words.now c.loop-x.work in let l = c.loop-x.invariant.0.long in omega arith

pub returns : goal.returns
returns c = record { sorted = sorts_end c.loop-x.invariant.0 c.last_before.ensures c.in_default.is; left = c.loop-x.invariant.1 }

pub add-l-requires : goal.add-l-requires
add-l-requires c = let r = sorts_room c.loop-x.invariant.0 c.last_before.ensures c.in-Some.is in let a = c.requires.base_len_bound in let b = c.loop-x.invariant.0.more in record { base_len_bound = omega arith; top_in_bounds = r.0 }

pub loop-x-smaller : goal.loop-x-smaller
loop-x-smaller c = let r = (sorts_room c.loop-x.invariant.0 c.last_before.ensures c.in-Some.is).1.1 in omega arith

pub loop-x-preserved : goal.loop-x-preserved
loop-x-preserved c = let r = sorts_room c.loop-x.invariant.0 c.last_before.ensures c.in-Some.is in (rw (c.add-l.ensures.word, c.add-l.ensures.top) (sorts_on c.loop-x.invariant.0 c.last_before.ensures c.in-Some.is (small_top c.args.base.now.words.now c.args.work.now _ (omega arith) c.well_formed.1.0.0 r.1.0) c.add-l.ensures.is), c.add-l.ensures.left ∙ c.loop-x.invariant.1)
