-- What looking the name up gave.
use native.Mathlib.Omega.{arith}
use Rattle.errors.proofs.Thrown.{thrown}
use Rattle.instantiate.proofs.Seen.{ok_is, err_is}
use Rattle.pairs.proofs.Frames.{long}
use Rattle.infer.proofs.Handing.{refused_here}
use Rattle.infer.proofs.Plainly.{name_there, name_asks, name_lost, name_gives}
use Rattle.infer.proofs.leaves.name.Goals as goal

pub returns-then-x-env : goal.returns-then-x-env
returns-then-x-env c = refused_here tt (omega arith) (λ ce z. absurd (name_there c.requires.ready_i c.args.rules.classes.now c.args.methods.now c.args.x c.if-x-env.true ce z))

pub infer_var-requires : goal.infer_var-requires
infer_var-requires c = record { base_len_bound = c.requires.base_len_bound; ready_look = name_asks c.requires.ready_i c.args.rules.classes.now c.args.methods.now c.args.x c.if-x-env.false }

pub returns : goal.returns
returns c = name_gives c.requires.ready_i c.args.rules.classes.now c.args.methods.now c.args.x c.if-x-env.false c.infer_var.ensures (long c.args.base.now.words.now c.infer_var.new.work c.args.work.now c.infer_var.auto.work) c.infer_var.auto.binders (ok_is c.in_ok-u.was)

pub returns-in_err-u : goal.returns-in_err-u
returns-in_err-u c = rw (thrown _ c.from_residual.ensures.1) (name_lost c.requires.ready_i c.args.rules.classes.now c.args.methods.now c.args.x c.if-x-env.false c.infer_var.ensures (long c.args.base.now.words.now c.infer_var.new.work c.args.work.now c.infer_var.auto.work) c.infer_var.auto.binders (err_is c.in_err-u.was))
