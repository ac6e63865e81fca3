-- The cycle of taking: each way out by its law of `Rooms`, or of `Growing` where a node is written. The measure is the type's number.
use mathlib.Core.Path.{ap, ◌∙◌}
use Rattle.std.specs.Prelude.{Some}
use Rattle.ast.proofs.Join.{both_fit}
use Rattle.pairs.proofs.Frames.{long}
use Rattle.types.proofs.Decode.{row_fits}
use Rattle.types.proofs.Counting.{con_small}
use Rattle.types.proofs.Rooms.{takes_none, takes_no_part, part_room, takes_part, first_room, takes_var, takes_nothing, takes_nullary, args_room, left_room}
use Rattle.types.proofs.Growing.{con_fits, takes_con, right_room, arrow_fits, takes_arrow, rest_room, cell_fits, takes_cell}
use native.Mathlib.Omega.{arith}
use Rattle.types.proofs.+take_part_take_parts_take_type.Goals as goal

pub take_part-take_type-requires : goal.take_part-take_type-requires
take_part-take_type-requires t c = let h = c.if-j-i.true in (omega arith, (c.requires.base_len_bound, part_room _ _ _ _ c.requires.fits h))

pub take_part-returns-then-j-i-clause-takes : goal.take_part-returns-then-j-i-clause-takes
take_part-returns-then-j-i-clause-takes t c = takes_part _ _ _ _ c.if-j-i.true c.take_type.ensures.takes

pub take_part-returns-clause-takes : goal.take_part-returns-clause-takes
take_part-returns-clause-takes t c = takes_no_part _ _ _ _ c.requires.fits (let h = c.if-j-i.false in omega arith)

pub take_parts-returns-then-k-eq0-clause-takes : goal.take_parts-returns-then-k-eq0-clause-takes
take_parts-returns-then-k-eq0-clause-takes t c = takes_none _ _ _ _ _ c.requires.fits c.if-k-eq0.true

pub take_parts-take_part-first-requires : goal.take_parts-take_part-first-requires
take_parts-take_part-first-requires t c = (omega arith, (c.requires.base_len_bound, first_room _ _ _ _ _ _ c.requires.fits c.if-k-eq0.false c.number_at-j.ensures))

pub take_parts-take_parts-rest-requires : goal.take_parts-take_parts-rest-requires
take_parts-take_parts-rest-requires t c = let m = c.take_part-first.ensures.takes.more in let b = c.requires.base_len_bound in let h = c.requires.k_in_bounds in let z = c.if-k-eq0.false in (omega arith, (omega arith, (omega arith, rest_room _ _ _ _ _ _ c.if-k-eq0.false c.number_at-j.ensures c.requires.fits c.take_part-first.ensures.takes (long c.args.base.now.words.now c.take_part-first.new.work c.args.work.now c.take_part-first.auto.work))))

pub take_parts-add-requires-clause-top_in_bounds : goal.take_parts-add-requires-clause-top_in_bounds
take_parts-add-requires-clause-top_in_bounds t c = (cell_fits _ _ _ _ _ _ c.if-k-eq0.false c.number_at-j.ensures c.requires.fits c.take_part-first.ensures.takes c.take_parts-rest.ensures.takes (long c.args.base.now.words.now c.take_parts-rest.new.work c.args.work.now (c.take_parts-rest.auto.work ∙ c.take_part-first.auto.work)) (both_fit c.args.base.now.words.now c.args.work.now (omega arith) c.well_formed.1.0.0)).room

pub take_parts-returns-clause-takes : goal.take_parts-returns-clause-takes
take_parts-returns-clause-takes t c = rw (c.add.ensures.word, c.add.ensures.top) (takes_cell _ _ _ _ _ _ c.if-k-eq0.false c.number_at-j.ensures c.requires.fits c.take_part-first.ensures.takes c.take_parts-rest.ensures.takes (long c.args.base.now.words.now c.take_parts-rest.new.work c.args.work.now (c.take_parts-rest.auto.work ∙ c.take_part-first.auto.work)) (both_fit c.args.base.now.words.now c.args.work.now (omega arith) c.well_formed.1.0.0) c.add.ensures.is)

pub take_type-overflow_add-result : goal.take_type-overflow_add-result
take_type-overflow_add-result t c = let s = row_fits _ _ _ c.row_of-n.ensures in omega arith

pub take_type-returns-then-k-eq0-clause-takes : goal.take_type-returns-then-k-eq0-clause-takes
take_type-returns-then-k-eq0-clause-takes t c = takes_nullary c.type_at.ensures c.requires.fits (c.in-Some.is ∙ ap Some c.in-Con.is) c.if-k-eq0.true c.row_of-n.ensures

pub take_type-take_parts-arguments-requires : goal.take_type-take_parts-arguments-requires
take_type-take_parts-arguments-requires t c = let s = con_small c.type_at.ensures (c.in-Some.is ∙ ap Some c.in-Con.is) in (omega arith, (c.requires.base_len_bound, (omega arith, args_room c.type_at.ensures c.requires.fits (c.in-Some.is ∙ ap Some c.in-Con.is))))

pub take_type-add-requires-clause-top_in_bounds : goal.take_type-add-requires-clause-top_in_bounds
take_type-add-requires-clause-top_in_bounds t c = (con_fits c.type_at.ensures c.requires.fits (c.in-Some.is ∙ ap Some c.in-Con.is) c.take_parts-arguments.ensures.takes (long c.args.base.now.words.now c.take_parts-arguments.new.work c.args.work.now c.take_parts-arguments.auto.work) (both_fit c.args.base.now.words.now c.args.work.now (omega arith) c.well_formed.1.0.0)).room

pub take_type-take_part-from-requires : goal.take_type-take_part-from-requires
take_type-take_part-from-requires t c = (omega arith, (c.requires.base_len_bound, left_room c.type_at.ensures c.requires.fits (c.in-Some.is ∙ ap Some c.in-Arrow.is)))

pub take_type-take_part-to-requires : goal.take_type-take_part-to-requires
take_type-take_part-to-requires t c = let m = c.take_part-from.ensures.takes.more in let b = c.requires.base_len_bound in (omega arith, (omega arith, right_room c.type_at.ensures c.requires.fits (c.in-Some.is ∙ ap Some c.in-Arrow.is) c.take_part-from.ensures.takes (long c.args.base.now.words.now c.take_part-from.new.work c.args.work.now c.take_part-from.auto.work)))

pub take_type-add-requires-in-Arrow-clause-top_in_bounds : goal.take_type-add-requires-in-Arrow-clause-top_in_bounds
take_type-add-requires-in-Arrow-clause-top_in_bounds t c = (arrow_fits c.type_at.ensures c.requires.fits (c.in-Some.is ∙ ap Some c.in-Arrow.is) c.take_part-from.ensures.takes c.take_part-to.ensures.takes (long c.args.base.now.words.now c.take_part-to.new.work c.args.work.now (c.take_part-to.auto.work ∙ c.take_part-from.auto.work)) (both_fit c.args.base.now.words.now c.args.work.now (omega arith) c.well_formed.1.0.0)).room

pub take_type-returns-in-Var-clause-takes : goal.take_type-returns-in-Var-clause-takes
take_type-returns-in-Var-clause-takes t c = takes_var c.type_at.ensures c.requires.fits (c.in-Some.is ∙ ap Some c.in-Var.is) c.row_of.ensures

pub take_type-returns-else-k-eq0-clause-takes : goal.take_type-returns-else-k-eq0-clause-takes
take_type-returns-else-k-eq0-clause-takes t c = rw (c.add.ensures.word, c.add.ensures.top) (takes_con c.type_at.ensures c.requires.fits (c.in-Some.is ∙ ap Some c.in-Con.is) c.take_parts-arguments.ensures.takes (long c.args.base.now.words.now c.take_parts-arguments.new.work c.args.work.now c.take_parts-arguments.auto.work) (both_fit c.args.base.now.words.now c.args.work.now (omega arith) c.well_formed.1.0.0) c.row_of-n.ensures c.add.ensures.is)

pub take_type-returns-in-Arrow-clause-takes : goal.take_type-returns-in-Arrow-clause-takes
take_type-returns-in-Arrow-clause-takes t c = rw (c.add-in-Arrow.ensures.word, c.add-in-Arrow.ensures.top) (takes_arrow c.type_at.ensures c.requires.fits (c.in-Some.is ∙ ap Some c.in-Arrow.is) c.take_part-from.ensures.takes c.take_part-to.ensures.takes (long c.args.base.now.words.now c.take_part-to.new.work c.args.work.now (c.take_part-to.auto.work ∙ c.take_part-from.auto.work)) (both_fit c.args.base.now.words.now c.args.work.now (omega arith) c.well_formed.1.0.0) c.add-in-Arrow.ensures.is)

pub take_type-returns-in_default-clause-takes : goal.take_type-returns-in_default-clause-takes
take_type-returns-in_default-clause-takes t c = takes_nothing c.type_at.ensures c.requires.fits c.in_default.is
