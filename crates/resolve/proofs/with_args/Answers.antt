-- A term alone, or a node that applies it.
use native.Mathlib.Omega.{arith}
use Rattle.ast.proofs.Join.{both_fit}
use Rattle.resolve.proofs.Dictionaries.{wraps_none, wraps_some}
use Rattle.resolve.proofs.with_args.Goals as goal

pub returns-in-Nil-clause-wraps : goal.returns-in-Nil-clause-wraps
returns-in-Nil-clause-wraps c = wraps_none c.requires.node c.requires.node_2 c.cell_at-c.ensures c.in-Nil.is

pub returns-in-Cons-clause-wraps : goal.returns-in-Cons-clause-wraps
returns-in-Cons-clause-wraps c = rw (c.push_app.ensures.word, c.push_app.ensures.top) (wraps_some c.requires.node c.requires.node_2 c.cell_at-c.ensures c.in-Cons.is c.requires.top_in_bounds (both_fit c.args.base.now.words.now c.args.work.now (omega arith) c.well_formed.1.0.0) c.push_app.ensures.is)
