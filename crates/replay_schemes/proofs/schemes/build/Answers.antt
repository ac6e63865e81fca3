-- The words keep their length over each call.
use native.Mathlib.Omega.{arith}
use lib.ListN.{length-append}
use Rattle.replay_schemes.proofs.schemes.build.Goals as goal

pub push_pred-requires : goal.push_pred-requires
push_pred-requires c = record { base_len_bound = omega arith; top_in_bounds = simp length-append (omega arith) }

pub push-requires : goal.push-requires
push-requires c = let h = c.requires.in_bounds in let a = c.push_pred.auto.work in record { base_len_bound = omega arith; top_in_bounds = simp length-append (omega arith) }

pub push-requires-2 : goal.push-requires-2
push-requires-2 c = let h = c.requires.in_bounds in let a = c.push_pred.auto.work in let b = c.push.auto.work in record { base_len_bound = omega arith; top_in_bounds = simp length-append (omega arith) }

pub push_pred-requires-2 : goal.push_pred-requires-2
push_pred-requires-2 c = let h = c.requires.in_bounds in let a = c.push_pred.auto.work in let b = c.push.auto.work in let d = c.push-2.auto.work in record { base_len_bound = omega arith; top_in_bounds = simp length-append (omega arith) }

pub push-requires-3 : goal.push-requires-3
push-requires-3 c = let h = c.requires.in_bounds in let a = c.push_pred.auto.work in let b = c.push.auto.work in let d = c.push-2.auto.work in let e = c.push_pred-2.auto.work in record { base_len_bound = omega arith; top_in_bounds = simp length-append (omega arith) }

pub push-requires-4 : goal.push-requires-4
push-requires-4 c = let h = c.requires.in_bounds in let a = c.push_pred.auto.work in let b = c.push.auto.work in let d = c.push-2.auto.work in let e = c.push_pred-2.auto.work in let f = c.push-3.auto.work in record { base_len_bound = omega arith; top_in_bounds = simp length-append (omega arith) }
