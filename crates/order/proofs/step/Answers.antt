-- A row that is taken is one number more.
use native.Mathlib.Omega.{arith}
use Rattle.order.proofs.Gathering.{step_room, step_on, step_over}
use Rattle.order.proofs.step.Goals as goal

pub returns-then-is_due : goal.returns-then-is_due
returns-then-is_due c = step_on _ c.requires.gathered c.requires.r_bound c.is_due.ensures c.requires.names c.if-is_due.true c.insert.ensures

pub returns : goal.returns
returns c = step_over _ c.requires.gathered c.requires.r_bound c.is_due.ensures c.if-is_due.false

pub insert-requires : goal.insert-requires
insert-requires c = let l = c.requires.order_len in let b = step_room _ c.requires.gathered c.requires.r_bound c.is_due.ensures c.if-is_due.true in record { r_bound = c.requires.r_bound; k_in_bounds = omega arith; low = c.requires.gathered.low }

pub overflow_add-result : goal.overflow_add-result
overflow_add-result c = let b = step_room _ c.requires.gathered c.requires.r_bound c.is_due.ensures c.if-is_due.true in omega arith
