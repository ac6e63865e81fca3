-- The cycle of counting: each way out by its law of `Counting`. The measure is the type's number, which falls from a type to its parts.
use mathlib.Core.Path.{ap, ◌∙◌}
use Rattle.std.specs.Prelude.{Some}
use native.Mathlib.Omega.{arith}
use Rattle.types.proofs.Counting.{type_over, part_over, part_one, part_type, summed_none, summed_over, summed_more, summed_all, var_is, nothing_is, con_over, con_is, left_over, right_over, arrow_is}
use Rattle.types.proofs.+part_within_parts_within_size_within.Goals as goal

pub part_within-returns-then-j-i : goal.part_within-returns-then-j-i
part_within-returns-then-j-i t c = part_type _ _ _ _ _ _ c.if-j-i.true c.size_within.ensures

pub part_within-returns-then-limit-eq0 : goal.part_within-returns-then-limit-eq0
part_within-returns-then-limit-eq0 t c = part_over _ _ _ _ _ c.if-limit-eq0.true

pub part_within-returns : goal.part_within-returns
part_within-returns t c = part_one _ _ _ _ _ (let h = c.if-j-i.false in omega arith) c.if-limit-eq0.false

pub parts_within-loop-j-init : goal.parts_within-loop-j-init
parts_within-loop-j-init t c = summed_none _ _ _ _ _ _

pub parts_within-returns-in_err-n : goal.parts_within-returns-in_err-n
parts_within-returns-in_err-n t c = rw c.from_residual.ensures (summed_over c.loop-j.invariant c.loop-j-test.true c.number_at.ensures c.part_within.ensures c.in_err-n.was)

pub parts_within-loop-j-preserved : goal.parts_within-loop-j-preserved
parts_within-loop-j-preserved t c = summed_more c.loop-j.invariant c.loop-j-test.true c.number_at.ensures c.part_within.ensures c.in_ok-n.was

pub parts_within-returns : goal.parts_within-returns
parts_within-returns t c = summed_all c.loop-j.invariant c.loop-j-test.false

pub size_within-returns-in_err-left : goal.size_within-returns-in_err-left
size_within-returns-in_err-left t c = rw c.from_residual.ensures (type_over _ _ _ _ (let h = c.in_err-left.ensures in omega (arith, h)))

pub size_within-returns-in_err-n-in-Con : goal.size_within-returns-in_err-n-in-Con
size_within-returns-in_err-n-in-Con t c = rw c.from_residual-in_err-n-in-Con.ensures (con_over c.type_at.ensures _ _ (let h = c.in_ok-left.ensures in omega (arith, h)) (c.in-Some.is ∙ ap Some c.in-Con.is) c.parts_within.ensures c.in_err-n-in-Con.was)

pub size_within-returns-in_ok-n-in-Con : goal.size_within-returns-in_ok-n-in-Con
size_within-returns-in_ok-n-in-Con t c = con_is c.type_at.ensures _ _ (let h = c.in_ok-left.ensures in omega (arith, h)) (c.in-Some.is ∙ ap Some c.in-Con.is) c.parts_within.ensures c.in_ok-n-in-Con.was

pub size_within-returns-in_err-m-in-Arrow : goal.size_within-returns-in_err-m-in-Arrow
size_within-returns-in_err-m-in-Arrow t c = rw c.from_residual-in_err-m-in-Arrow.ensures (left_over c.type_at.ensures _ _ (let h = c.in_ok-left.ensures in omega (arith, h)) (c.in-Some.is ∙ ap Some c.in-Arrow.is) c.part_within.ensures c.in_err-m-in-Arrow.was)

pub size_within-returns-in_err-n-in-Arrow : goal.size_within-returns-in_err-n-in-Arrow
size_within-returns-in_err-n-in-Arrow t c = rw c.from_residual-in_err-n-in-Arrow.ensures (right_over c.type_at.ensures _ _ (let h = c.in_ok-left.ensures in omega (arith, h)) (c.in-Some.is ∙ ap Some c.in-Arrow.is) c.part_within.ensures c.in_ok-m-in-Arrow.was c.part_within-in-Arrow.ensures c.in_err-n-in-Arrow.was)

pub size_within-returns-in_ok-n-in-Arrow : goal.size_within-returns-in_ok-n-in-Arrow
size_within-returns-in_ok-n-in-Arrow t c = arrow_is c.type_at.ensures _ _ (let h = c.in_ok-left.ensures in omega (arith, h)) (c.in-Some.is ∙ ap Some c.in-Arrow.is) c.part_within.ensures c.in_ok-m-in-Arrow.was c.part_within-in-Arrow.ensures c.in_ok-n-in-Arrow.was

pub size_within-returns-in-Var : goal.size_within-returns-in-Var
size_within-returns-in-Var t c = var_is c.type_at.ensures _ c.in_ok-left.left (let h = c.in_ok-left.ensures in omega (arith, h)) (c.in-Some.is ∙ ap Some c.in-Var.is)

pub size_within-returns-in_default : goal.size_within-returns-in_default
size_within-returns-in_default t c = nothing_is c.type_at.ensures _ c.in_ok-left.left (let h = c.in_ok-left.ensures in omega (arith, h)) c.in_default.is
