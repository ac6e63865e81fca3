-- The loop's invariant: r is the dictionary of frame j, and j nodes were made.
use native.Mathlib.Omega.{arith}
use Rattle.supers.proofs.Building.{building, building_on}
use Rattle.supers.proofs.path.build.Goals as goal

pub loop-j-init : goal.loop-j-init
loop-j-init c = (omega arith, omega arith, building c.args.sp c.args.d c.requires.node)

pub loop-j-preserved : goal.loop-j-preserved
loop-j-preserved c = let x = c.loop-j.invariant.0 in let y = c.loop-j.invariant.1 in let z = c.push_proj-r.ensures.top in let u = c.push_proj-r.ensures.left in let p = rw x at c.push_proj-r.ensures.is in (omega arith, omega arith, rw (c.push_proj-r.ensures.word, x) (building_on c.loop-j.invariant.2 c.loop-j-test.true c.requires.d_bound c.requires.sp_in_bounds (let q = c.requires.d_bound in omega arith) c.index-s.ensures c.index-c.ensures p))
