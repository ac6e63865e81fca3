-- The environment, then the rest.
use native.Mathlib.Omega.{arith}
use Rattle.errors.proofs.Thrown.{thrown}
use Rattle.scope.proofs.Seen.{ok_is, err_is}
use Rattle.pairs.proofs.Frames.{long}
use Rattle.binding.proofs.AfterEnv.{env_asks, env_lost, env_more, env_ready, env_gives}
use Rattle.binding.proofs.general.Goals as goal

pub apply_env-requires : goal.apply_env-requires
apply_env-requires c = record { base_len_bound = c.requires.base_len_bound; ready_env = env_asks c.requires.ready_mid }

pub rest-requires : goal.rest-requires
rest-requires c = let b = c.requires.base_len_bound in let m = env_more c.requires.ready_mid c.args.rules.classes.now c.apply_env.ensures (ok_is c.in_ok-apply_env.was) (long c.args.base.now.words.now c.apply_env.new.work c.args.work.now c.apply_env.auto.work) in record { base_len_bound = omega arith; ready_mid = env_ready c.requires.ready_mid c.args.rules.classes.now c.apply_env.ensures (ok_is c.in_ok-apply_env.was) (long c.args.base.now.words.now c.apply_env.new.work c.args.work.now c.apply_env.auto.work) }

pub returns : goal.returns
returns c = env_gives c.requires.ready_mid c.args.rules.classes.now c.apply_env.ensures (ok_is c.in_ok-apply_env.was) (long c.args.base.now.words.now c.apply_env.new.work c.args.work.now c.apply_env.auto.work) c.rest.ensures

pub returns-in_err-apply_env : goal.returns-in_err-apply_env
returns-in_err-apply_env c = rw (thrown _ c.from_residual.ensures.1) (env_lost c.requires.ready_mid c.args.rules.classes.now c.apply_env.ensures (err_is c.in_err-apply_env.was))
