-- The tests in their order, then the frame.
use native.Mathlib.Omega.{arith}
use Rattle.supers.proofs.FrameLaws.{framed_is, not_both}
use Rattle.supers.proofs.path.enter.Goals as goal

pub returns-then-barred : goal.returns-then-barred
returns-then-barred c = record { says = (framed_is _ c.args.sp c.args.d c.args.s c.put.ensures c.put-2.ensures, (omega arith, (omega arith, λ x y z. not_both c.if-barred.true z))) }

pub returns-then-s-goal : goal.returns-then-s-goal
returns-then-s-goal c = record { says = (framed_is _ c.args.sp c.args.d c.args.s c.put.ensures c.put-2.ensures, (omega arith, (omega arith, (c.if-s-goal.true, (c.if-same.true, c.if-barred.false))))) }

pub returns-else-s-goal : goal.returns-else-s-goal
returns-else-s-goal c = record { says = (framed_is _ c.args.sp c.args.d c.args.s c.put.ensures c.put-2.ensures, (omega arith, (omega arith, λ x y z. c.if-s-goal.false x))) }

pub returns-else-same : goal.returns-else-same
returns-else-same c = record { says = (framed_is _ c.args.sp c.args.d c.args.s c.put.ensures c.put-2.ensures, (omega arith, (omega arith, λ x y z. not_both y c.if-same.false))) }
