-- The frame is read, and the superclass that it has next is entered.
use mathlib.Core.Path.{sym, ◌∙◌}
use mathlib.Core.List.{◌++◌}
use native.Mathlib.Omega.{arith}
use Rattle.supers.proofs.ClassLaws.{at_inside}
use Rattle.supers.proofs.FrameLaws.{turn_up, turn_took}
use Rattle.supers.proofs.path.turn.Goals as goal

pub overflow_add-i : goal.overflow_add-i
overflow_add-i c = let h = at_inside c.args.classes.now _ _ (sym c.super_at-f.ensures ∙ c.in-Some.is) in let g = c.well_formed.1.1.0.0 in omega arith

pub returns-in-None : goal.returns-in-None
returns-in-None c = record { says = λ j q. turn_up q c.args.classes.now (c.args.base.now.words.now ++ c.args.work.now) c.args.sp c.index-c.ensures c.index-i.ensures c.super_at-f.ensures c.in-None.is }

pub returns-in-Some : goal.returns-in-Some
returns-in-Some c = record { says = λ j q. turn_took q c.args.classes.now (c.args.base.now.words.now ++ c.args.work.now) c.args.sp c.index-c.ensures c.index-i.ensures c.super_at-f.ensures _ c.in-Some.is c.put.ensures c.enter.ensures }
