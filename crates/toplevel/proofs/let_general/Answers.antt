-- `generalize`, then the end.
use Rattle.errors.proofs.Thrown.{thrown}
use Rattle.binding.proofs.Seen.{general_is, general_refused}
use Rattle.toplevel.proofs.Ways.{general_asks, general_lost, general_ends, general_gives}
use Rattle.toplevel.proofs.let_general.Goals as goal

pub generalize-requires : goal.generalize-requires
generalize-requires c = record { base_len_bound = c.requires.base_len_bound; ready_generalize = general_asks c.requires.ready_rest _ c.requires.x_in_bounds c.args.rules.classes.now }

pub let_end-requires : goal.let_end-requires
let_end-requires c = general_ends c.requires.ready_rest _ c.requires.x_in_bounds c.args.rules.classes.now c.generalize.ensures (general_is c.in_ok-g.was)

pub returns : goal.returns
returns c = general_gives c.requires.ready_rest _ c.requires.x_in_bounds c.args.rules.classes.now c.generalize.ensures (general_is c.in_ok-g.was) c.let_end.ensures

pub returns-in_err-g : goal.returns-in_err-g
returns-in_err-g c = rw (thrown _ c.from_residual.ensures.1) (general_lost c.requires.ready_rest _ c.requires.x_in_bounds c.args.rules.classes.now c.generalize.ensures (general_refused c.in_err-g.was))
