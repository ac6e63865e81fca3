-- Each way out is the law of its answer.
use mathlib.Core.Path.{◌≡◌, refl}
use Prim.Native.Nat.{ℕ}
use Rattle.std.specs.Prelude.{Option, Result, Ok}
use Rattle.errors.specs.declared.Refusal.{Refusal}
use Rattle.pairs.proofs.Frames.{long}
use Rattle.supers.proofs.Seen.{found_is, none_is, err_is}
use Rattle.simplify.proofs.Turns.{turn_passed, mark_ready, turn_found, turn_kept, turn_lost}
use Rattle.simplify.proofs.sift.Goals as goal

-- What an answer that was found in two steps is.
inner : {r : Result (Option ℕ) Refusal} {x y : Option ℕ} → r ≡ Ok x → x ≡ y → r ≡ Ok y
inner e f = rw (e, f)

pub returns-in_default : goal.returns-in_default
returns-in_default c = turn_passed c.requires.ready_simplify c.requires.i_lt_n c.row_at-q.ensures _ c.in_default.is

pub find_super_row-s-requires-clause-ready_in : goal.find_super_row-s-requires-clause-ready_in
find_super_row-s-requires-clause-ready_in c = mark_ready c.requires.ready_simplify c.requires.i_lt_n c.row_at-q.ensures c.in-Pending.is refl

pub returns-in-Ok-Some : goal.returns-in-Ok-Some
returns-in-Ok-Some c = turn_found c.requires.ready_simplify c.requires.i_lt_n c.row_at-q.ensures c.in-Pending.is refl (long c.args.base.now.words.now c.find_super_row-s.new.work c.args.work.now c.find_super_row-s.auto.work) c.find_super_row-s.ensures.gives (found_is (inner c.in-Ok-Some.is (rw c.in-Ok-Some.is at c.in-Ok-Some.field-0-is))) refl

pub returns-in-Ok-None : goal.returns-in-Ok-None
returns-in-Ok-None c = rw (c.find_super_row-s.ensures.stays (inner c.in-Ok-None.is (rw c.in-Ok-None.is at c.in-Ok-None.field-0-is))) (turn_kept c.requires.ready_simplify c.requires.i_lt_n c.row_at-q.ensures c.in-Pending.is refl (long c.args.base.now.words.now c.find_super_row-s.new.work c.args.work.now c.find_super_row-s.auto.work) c.find_super_row-s.ensures.gives refl (none_is _ (inner c.in-Ok-None.is (rw c.in-Ok-None.is at c.in-Ok-None.field-0-is))))

pub returns-in-Err : goal.returns-in-Err
returns-in-Err c = turn_lost c.requires.ready_simplify c.requires.i_lt_n c.row_at-q.ensures c.in-Pending.is refl (long c.args.base.now.words.now c.find_super_row-s.new.work c.args.work.now c.find_super_row-s.auto.work) c.find_super_row-s.ensures.gives refl (err_is c.in-Err.is)
