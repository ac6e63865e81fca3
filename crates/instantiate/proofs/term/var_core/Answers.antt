-- The ways out by their laws of `Coring`.
use native.Mathlib.Omega.{arith}
use Rattle.pairs.proofs.Frames.{long}
use Rattle.instantiate.proofs.Coring.{found_small, method_done, method_none, name_done, app_room, app_done}
use Rattle.instantiate.proofs.term.var_core.Goals as goal

pub overflow_add-d : goal.overflow_add-d
overflow_add-d c = let z = found_small c.requires.ready_core c.lookup_method-k.ensures c.in-Some.is c.first_of.ensures c.in_ok-d-in-Some.was in omega arith

pub returns-then-m-eq0-clause-gives : goal.returns-then-m-eq0-clause-gives
returns-then-m-eq0-clause-gives c = name_done c.requires.ready_core c.lookup_method-k.ensures c.in-None.is c.if-m-eq0.true

pub push_app-requires : goal.push_app-requires
push_app-requires c = let cl = c.requires.base_len_bound in let n = c.rows_list-l.ensures.top in record { base_len_bound = omega arith; top_in_bounds = rw c.rows_list-l.ensures.top (app_room c.requires.ready_core c.lookup_method-k.ensures c.in-None.is c.if-m-eq0.false c.rows_list-l.ensures.lists (long c.args.base.now.words.now c.rows_list-l.new.work c.args.work.now c.rows_list-l.auto.work)) }

pub returns-in_ok-d-in-Some-clause-gives : goal.returns-in_ok-d-in-Some-clause-gives
returns-in_ok-d-in-Some-clause-gives c = rw (c.push_method.ensures.word, c.push_method.ensures.top) (method_done c.requires.ready_core c.lookup_method-k.ensures c.in-Some.is c.first_of.ensures c.in_ok-d-in-Some.was c.push_method.ensures.is)

pub returns-in_err-d-in-Some-clause-gives : goal.returns-in_err-d-in-Some-clause-gives
returns-in_err-d-in-Some-clause-gives c = rw c.from_residual.ensures (method_none c.requires.ready_core c.lookup_method-k.ensures c.in-Some.is c.first_of.ensures c.in_err-d-in-Some.was)

pub returns-else-m-eq0-clause-gives : goal.returns-else-m-eq0-clause-gives
returns-else-m-eq0-clause-gives c = rw (c.push_app.ensures.word, c.push_app.ensures.top, c.rows_list-l.ensures.top) (app_done c.requires.ready_core c.lookup_method-k.ensures c.in-None.is c.if-m-eq0.false c.rows_list-l.ensures.lists (long c.args.base.now.words.now c.rows_list-l.new.work c.args.work.now c.rows_list-l.auto.work) (rw c.rows_list-l.ensures.top at c.push_app.ensures.is))
