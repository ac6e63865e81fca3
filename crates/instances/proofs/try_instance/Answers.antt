-- Two classes are told apart by their numbers; of one class the types decide.
use Rattle.instances.proofs.Attempts.{instance_ready, instance_other, instance_same}
use Rattle.instances.proofs.try_instance.Goals as goal

pub returns-then-x-c-clause-gives : goal.returns-then-x-c-clause-gives
returns-then-x-c-clause-gives c = instance_other c.requires.ready_pick c.instance_at-x.ensures c.args.c c.if-x-c.true

pub try_match-requires : goal.try_match-requires
try_match-requires c = record { base_len_bound = c.requires.base_len_bound; ready_u = instance_ready c.requires.ready_pick c.requires.i_in_bounds c.instance_at-x.ensures }

pub returns-clause-gives : goal.returns-clause-gives
returns-clause-gives c = instance_same c.requires.ready_pick c.instance_at-x.ensures c.args.c c.if-x-c.false c.try_match.ensures.gives
