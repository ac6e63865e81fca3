-- By the two answers of `has_var`.
use native.Mathlib.Omega.{arith}
use Rattle.ast.proofs.Join.{both_fit}
use Rattle.free.proofs.Ways.{var_passed, var_there, var_room, var_new}
use Rattle.free.proofs.add_but.Goals as goal

pub returns-then-has_var-clause-collects : goal.returns-then-has_var-clause-collects
returns-then-has_var-clause-collects c = var_passed c.requires.node c.requires.node_2 c.requires.node_3 c.requires.wants c.has_var.ensures c.if-has_var.true

pub returns-then-has_var-2-clause-collects : goal.returns-then-has_var-2-clause-collects
returns-then-has_var-2-clause-collects c = var_there c.requires.node c.requires.node_2 c.requires.node_3 c.requires.wants c.has_var.ensures c.if-has_var.false c.has_var-2.ensures c.if-has_var-2.true

pub add-requires-clause-top_in_bounds : goal.add-requires-clause-top_in_bounds
add-requires-clause-top_in_bounds c = (var_room c.requires.node c.requires.node_2 c.requires.node_3 c.requires.wants c.has_var.ensures c.if-has_var.false c.has_var-2.ensures c.if-has_var-2.false (both_fit c.args.base.now.words.now c.args.work.now (omega arith) c.well_formed.1.0.0)).0

pub returns-clause-collects : goal.returns-clause-collects
returns-clause-collects c = rw (c.add.ensures.word, c.add.ensures.top) (var_new c.requires.node c.requires.node_2 c.requires.node_3 c.requires.wants c.has_var.ensures c.if-has_var.false c.has_var-2.ensures c.if-has_var-2.false (both_fit c.args.base.now.words.now c.args.work.now (omega arith) c.well_formed.1.0.0) c.add.ensures.is)
