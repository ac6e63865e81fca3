-- The loop's invariant: so many rows were written, and what is left of the list gives what all of it gives. The measure is the list's word.
use native.Mathlib.Omega.{arith}
use Rattle.ast.proofs.Laws.{node_room}
use Rattle.errors.proofs.Thrown.{thrown}
use Rattle.apply.proofs.Seen.{ok_is, err_is}
use Rattle.pairs.proofs.Frames.{long}
use Rattle.compose.proofs.Pieces.{same_short}
use Rattle.subst.proofs.PredWays.{class_room}
use Rattle.instantiate.proofs.Taking.{taking, take_end, take_ready, take_refused, take_room, take_on}
use Rattle.instantiate.proofs.take_preds.Goals as goal

pub overflow_add-to : goal.overflow_add-to
overflow_add-to c = let z = c.requires.ready_preds.made in omega arith

pub loop-a-init : goal.loop-a-init
loop-a-init c = taking c.requires.ready_preds

pub cell_at-requires : goal.cell_at-requires
cell_at-requires c = node_room c.loop-a.invariant.table

pub shape_of-work : goal.shape_of-work
shape_of-work c = same_short c.args.base.now.words.now c.args.work.now c.loop-a.work c.loop-a.invariant.long

pub shape_of-binders : goal.shape_of-binders
shape_of-binders c = c.loop-a.invariant.many

pub returns : goal.returns
returns c = take_end c.requires.ready_preds c.loop-a.invariant c.cell_at.ensures c.in_default.is

pub class_at-p-requires : goal.class_at-p-requires
class_at-p-requires c = let z = class_room c.loop-a.invariant.table c.cell_at.ensures c.in-Cons.is in record { first_node_le_l = z.0; l_bound = z.1 }

pub rename-requires : goal.rename-requires
rename-requires c = let mr = c.loop-a.invariant.more in let cl = c.requires.base_len_bound in record { base_len_bound = omega arith; ready_rename = take_ready c.requires.ready_preds c.loop-a.invariant c.cell_at.ensures c.in-Cons.is }

pub overflow_add-fresh : goal.overflow_add-fresh
overflow_add-fresh c = let z = (take_room c.requires.ready_preds c.loop-a.invariant c.cell_at.ensures c.in-Cons.is c.rename.ensures (ok_is c.in_ok-u.was)).1 in omega arith

pub put_row-requires : goal.put_row-requires
put_row-requires c = (take_room c.requires.ready_preds c.loop-a.invariant c.cell_at.ensures c.in-Cons.is c.rename.ensures (ok_is c.in_ok-u.was)).0

pub shape_of-work-in_err-u : goal.shape_of-work-in_err-u
shape_of-work-in_err-u c = let y = same_short c.args.base.now.words.now c.args.work.now c.loop-a.work c.loop-a.invariant.long in let x = c.rename.auto.work in omega arith

pub shape_of-binders-in_err-u : goal.shape_of-binders-in_err-u
shape_of-binders-in_err-u c = c.loop-a.invariant.many

pub returns-in_err-u : goal.returns-in_err-u
returns-in_err-u c = rw (thrown _ c.from_residual.ensures.1) (take_refused c.requires.ready_preds c.loop-a.invariant c.cell_at.ensures c.in-Cons.is c.rename.ensures (err_is c.in_err-u.was))

pub overflow_add-m : goal.overflow_add-m
overflow_add-m c = let z = (take_room c.requires.ready_preds c.loop-a.invariant c.cell_at.ensures c.in-Cons.is c.rename.ensures (ok_is c.in_ok-u.was)).1 in omega arith

pub loop-a-smaller : goal.loop-a-smaller
loop-a-smaller c = (take_on c.requires.ready_preds c.loop-a.invariant c.cell_at.ensures c.in-Cons.is c.rename.ensures (ok_is c.in_ok-u.was) c.class_at-p.ensures (long c.args.base.now.words.now c.rename.new.work c.loop-a.work c.rename.auto.work) c.put_row.ensures).0

pub loop-a-preserved : goal.loop-a-preserved
loop-a-preserved c = (take_on c.requires.ready_preds c.loop-a.invariant c.cell_at.ensures c.in-Cons.is c.rename.ensures (ok_is c.in_ok-u.was) c.class_at-p.ensures (long c.args.base.now.words.now c.rename.new.work c.loop-a.work c.rename.auto.work) c.put_row.ensures).1
