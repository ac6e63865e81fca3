-- Two classes are told apart by their numbers; of one class the types decide.
use Rattle.instances.proofs.Attempts.{instance_ready, clash_other, clash_same}
use Rattle.instances.proofs.overlaps_instance.Goals as goal

pub returns-then-x-c-clause-gives : goal.returns-then-x-c-clause-gives
returns-then-x-c-clause-gives c = clash_other c.requires.ready_pick c.instance_at-x.ensures c.args.c c.if-x-c.true

pub overlaps-requires : goal.overlaps-requires
overlaps-requires c = record { base_len_bound = c.requires.base_len_bound; ready_u = instance_ready c.requires.ready_pick c.requires.i_in_bounds c.instance_at-x.ensures }

pub returns-clause-gives : goal.returns-clause-gives
returns-clause-gives c = clash_same c.requires.ready_pick c.instance_at-x.ensures c.args.c c.if-x-c.false c.overlaps.ensures.gives
