-- The outer loop's invariant: what all givens give is what those from g on give now; its measure is how much lies ahead. The
use mathlib.Core.Path.{◌∙◌}
use native.Mathlib.Omega.{arith}
use Rattle.supers.proofs.Walk.{on_miss, on_up, turned}
use Rattle.supers.proofs.Seen.{same_top, same_left}
use Rattle.supers.proofs.Sought.{none_left, walk_room, too_far, no_step, is_goal, build_ready, asks_on}
use Rattle.supers.proofs.search_in.Goals as goal
use Rattle.supers.proofs.search_in.Goals.{in-Miss, in-Up}

pub build-requires : goal.build-requires
build-requires c = let y = build_ready c.givens.invariant.1 c.given_in-q.ensures c.in-Some.is c.same-same.ensures c.enter-r.ensures c.walk.invariant.1 c.in-Hit.is in rw c.walk.invariant.0 (record { base_len_bound = c.requires.base_len_bound; d_bound = y.0; sp_in_bounds = y.1.0; node = y.1.1 })

pub walk-preserved : goal.walk-preserved
walk-preserved c = (elim c.match-r.branch [ in-Miss w ↦ same_top w.room-is ∙ c.walk.invariant.0 | in-Up w ↦ same_top w.room-is ∙ c.walk.invariant.0 ], turned (elim c.match-r.branch [ in-Miss w ↦ on_miss c.walk.invariant.1 w.in-Miss.is (same_left w.room-is) w.d-is | in-Up w ↦ on_up c.walk.invariant.1 w.in-Up.is (same_left w.room-is) w.d-is ]) (walk_room c.givens.invariant.1 c.given_in-q.ensures c.in-Some.is c.same-same.ensures c.enter-r.ensures).0 (walk_room c.givens.invariant.1 c.given_in-q.ensures c.in-Some.is c.same-same.ensures c.enter-r.ensures).1 (omega arith) c.turn-r.ensures)

pub givens-preserved : goal.givens-preserved
givens-preserved c = (elim c.match-r.branch [ in-Miss w ↦ same_top w.room-is ∙ c.walk.invariant.0 | in-Up w ↦ same_top w.room-is ∙ c.walk.invariant.0 ], asks_on c.givens.invariant.1 c.given_in-q.ensures c.in-Some.is c.same-same.ensures c.enter-r.ensures (elim c.match-r.branch [ in-Miss w ↦ on_miss c.walk.invariant.1 w.in-Miss.is (same_left w.room-is) w.d-is | in-Up w ↦ on_up c.walk.invariant.1 w.in-Up.is (same_left w.room-is) w.d-is ]) c.if-d-eq0.true)

pub returns-in_default-clause-gives : goal.returns-in_default-clause-gives
returns-in_default-clause-gives c = none_left c.givens.invariant.1 c.given_in-q.ensures c.in_default.is

pub returns-in-Deep-clause-gives : goal.returns-in-Deep-clause-gives
returns-in-Deep-clause-gives c = rw c.walk.invariant.0 (too_far c.givens.invariant.1 c.given_in-q.ensures c.in-Some.is c.same-same.ensures c.enter-r.ensures c.walk.invariant.1 c.in-Deep.is)

pub returns-in-Spent-clause-gives : goal.returns-in-Spent-clause-gives
returns-in-Spent-clause-gives c = rw c.walk.invariant.0 (no_step c.givens.invariant.1 c.given_in-q.ensures c.in-Some.is c.same-same.ensures c.enter-r.ensures c.walk.invariant.1 c.in-Spent.is)

pub returns-in-Hit-clause-gives : goal.returns-in-Hit-clause-gives
returns-in-Hit-clause-gives c = let b = rw c.walk.invariant.0 at c.build.ensures.built in rw (c.build.ensures.top, c.build.ensures.left, c.walk.invariant.0) (is_goal c.givens.invariant.1 c.given_in-q.ensures c.in-Some.is c.same-same.ensures c.enter-r.ensures c.walk.invariant.1 c.in-Hit.is b)
