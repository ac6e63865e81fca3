-- The ways out by their laws of `Looking`.
use native.Mathlib.Omega.{arith}
use Rattle.errors.proofs.Thrown.{thrown}
use Rattle.instantiate.proofs.Seen.{ok_instance, err_instance, some_core, none_core}
use Rattle.pairs.proofs.Frames.{long}
use Rattle.instantiate.proofs.Looking.{inst_refused, core_ready, core_refused, look_done}
use Rattle.instantiate.proofs.of_scheme.Goals as goal

pub var_core-q-requires : goal.var_core-q-requires
var_core-q-requires c = let z = core_ready c.requires.ready_instance c.requires.x_lt_first_fresh c.instantiate.ensures (ok_instance c.in_ok-o.was) (long c.args.base.now.words.now c.instantiate.new.work c.args.work.now c.instantiate.auto.work) c.instantiate.auto.binders in let m = z.0 in let cl = c.requires.base_len_bound in record { base_len_bound = omega arith; ready_core = z.1 }

pub returns-in-Some : goal.returns-in-Some
returns-in-Some c = rw c.var_core-q.ensures.left (look_done c.requires.ready_instance c.requires.x_lt_first_fresh c.instantiate.ensures (ok_instance c.in_ok-o.was) c.var_core-q.ensures.gives (some_core c.in-Some.is))

pub returns-in-None : goal.returns-in-None
returns-in-None c = rw (c.var_core-q.ensures.none_stays c.in-None.is, c.var_core-q.ensures.left) (core_refused c.requires.ready_instance c.requires.x_lt_first_fresh c.instantiate.ensures (ok_instance c.in_ok-o.was) c.var_core-q.ensures.gives (none_core _ c.in-None.is))

pub returns-in_err-o : goal.returns-in_err-o
returns-in_err-o c = rw (thrown _ c.from_residual.ensures.1) (inst_refused c.requires.ready_instance c.requires.x_lt_first_fresh c.instantiate.ensures (err_instance c.in_err-o.was))
