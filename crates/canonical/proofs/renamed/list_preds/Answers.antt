-- The loop's invariant: the list has the predicates of the rows from row i on.
use mathlib.Core.Path.{refl, ◌∙◌}
use native.Mathlib.Omega.{arith}
use Rattle.ast.proofs.Join.{joined, small_top}
use Rattle.canonical.proofs.Listing.{listing, list_row, listed, list_past, list_room, list_on}
use Rattle.canonical.proofs.renamed.list_preds.Goals as goal

pub loop-i-init : goal.loop-i-init
loop-i-init c = (listing c.requires.ready_list, refl)

pub row_at-q-requires : goal.row_at-q-requires
row_at-q-requires c = list_row c.loop-i.invariant.0 c.loop-i-test.true

pub add_pred-l-requires : goal.add_pred-l-requires
add_pred-l-requires c = let r = list_room c.loop-i.invariant.0 c.loop-i-test.true c.row_at-q.ensures c.in-Pending.is in let a = c.requires.base_len_bound in let b = c.loop-i.invariant.0.more in record { base_len_bound = omega arith; top_in_bounds = r.0 }

pub loop-i-preserved-in-Pending : goal.loop-i-preserved-in-Pending
loop-i-preserved-in-Pending c = (rw (c.add_pred-l.ensures.word, c.add_pred-l.ensures.top) (list_on c.loop-i.invariant.0 c.loop-i-test.true c.row_at-q.ensures c.in-Pending.is (small_top c.args.base.now.words.now c.args.work.now _ (omega arith) c.well_formed.1.0.0 (list_room c.loop-i.invariant.0 c.loop-i-test.true c.row_at-q.ensures c.in-Pending.is).1) c.add_pred-l.ensures.is), c.add_pred-l.ensures.left ∙ c.loop-i.invariant.1)

pub loop-i-preserved : goal.loop-i-preserved
loop-i-preserved c = (list_past c.loop-i.invariant.0 c.loop-i-test.true c.row_at-q.ensures c.in-Replaced.is, c.loop-i.invariant.1)

pub shape_of-work : goal.shape_of-work
shape_of-work c = let x = joined c.args.base.now.words.now c.args.work.now in let y = joined c.args.base.now.words.now c.loop-i.work in let l = c.loop-i.invariant.0.long in omega arith

pub returns : goal.returns
returns c = record { preds = listed c.loop-i.invariant.0 (let l = c.loop-i-test.false in omega arith); left = c.loop-i.invariant.1 }
