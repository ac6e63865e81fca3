-- The ways out by their laws of `Looking`.
use Rattle.instantiate.proofs.Looking.{unbound, bound_ready, bound_done}
use Rattle.instantiate.proofs.infer_var.Goals as goal

pub of_scheme-requires : goal.of_scheme-requires
of_scheme-requires c = record { base_len_bound = c.requires.base_len_bound; ready_instance = bound_ready c.requires.ready_look c.row_at-e.ensures c.in-Closed.is; x_lt_first_fresh = c.requires.ready_look.name }

pub returns-in-Nothing : goal.returns-in-Nothing
returns-in-Nothing c = unbound c.requires.ready_look c.row_at-e.ensures c.in-Nothing.is

pub returns-in-Closed : goal.returns-in-Closed
returns-in-Closed c = bound_done c.requires.ready_look c.row_at-e.ensures c.of_scheme.ensures c.in-Closed.is
