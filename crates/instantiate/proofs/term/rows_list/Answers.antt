-- The loop's invariant: the rows from number j on are in the list. The measure is how many are left.
use native.Mathlib.Omega.{arith}
use mathlib.Core.Path.{refl}
use borrow.Author.Rules.{rules}
use Rattle.compose.proofs.Pieces.{same_short}
use Rattle.instantiate.proofs.Listing.{listing, listed, dict_small, list_room, lists_on}
use Rattle.instantiate.proofs.term.rows_list.Goals as goal

pub loop-j-init : goal.loop-j-init
loop-j-init c = (listing c.requires.ready_core, refl)

pub overflow_mul-d : goal.overflow_mul-d
overflow_mul-d c = let z = (list_room c.requires.ready_core c.loop-j.invariant.0 c.loop-j-test.true).0 in search rules

pub offset_bounds-binders-j : goal.offset_bounds-binders-j
offset_bounds-binders-j c = let z = (list_room c.requires.ready_core c.loop-j.invariant.0 c.loop-j-test.true).0 in search rules

pub bounds-binders-j : goal.bounds-binders-j
bounds-binders-j c = (list_room c.requires.ready_core c.loop-j.invariant.0 c.loop-j-test.true).0

pub overflow_add-d : goal.overflow_add-d
overflow_add-d c = let z = dict_small c.requires.ready_core c.loop-j.invariant.0 c.loop-j-test.true in omega arith

pub add-l-requires : goal.add-l-requires
add-l-requires c = let r = list_room c.requires.ready_core c.loop-j.invariant.0 c.loop-j-test.true in let m = r.1.0 in let cl = c.requires.base_len_bound in record { base_len_bound = omega arith; top_in_bounds = r.1.1.0 }

pub loop-j-preserved : goal.loop-j-preserved
loop-j-preserved c = rw (c.add-l.ensures.word, c.add-l.ensures.top, c.add-l.ensures.left) (lists_on c.requires.ready_core c.loop-j.invariant.0 c.loop-j-test.true c.add-l.ensures.is, c.loop-j.invariant.1)

pub shape_of-work : goal.shape_of-work
shape_of-work c = same_short c.args.base.now.words.now c.args.work.now c.loop-j.work c.loop-j.invariant.0.long

pub returns : goal.returns
returns c = let n = c.loop-j.invariant.0.count in record { lists = listed c.requires.ready_core c.loop-j.invariant.0 (omega arith); top = omega arith; left = c.loop-j.invariant.1 }
