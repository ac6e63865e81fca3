-- `finalize` is all.
use Rattle.errors.proofs.Thrown.{thrown}
use Rattle.toplevel.proofs.Seen.{final_is, final_refused}
use Rattle.toplevel.proofs.Lasts.{last_asks, last_lost, last_gives}
use Rattle.toplevel.proofs.checks.check_end.Goals as goal

pub finalize-requires : goal.finalize-requires
finalize-requires c = record { base_len_bound = c.requires.base_len_bound; ready_generalize = last_asks c.requires.ready_rest c.args.rules.classes.now }

pub returns : goal.returns
returns c = last_gives c.requires.ready_rest c.args.rules.classes.now c.finalize.ensures (final_is c.in_ok-f.was)

pub returns-in_err-f : goal.returns-in_err-f
returns-in_err-f c = rw (thrown _ c.from_residual.ensures.1) (last_lost c.requires.ready_rest c.args.rules.classes.now c.finalize.ensures (final_refused c.in_err-f.was))
