-- Each way out is the law of its tests.
use mathlib.Core.Path.{refl}
use native.Mathlib.Omega.{arith}
use Rattle.supers.proofs.ClassLaws.{turned_true, turned_false, declared_row, none_class, none_count, none_place, one_place}
use Rattle.supers.proofs.super_at.Goals as goal

pub returns-then-not-known : goal.returns-then-not-known
returns-then-not-known c = none_class c.args.classes.now c.args.c c.args.i (turned_true c.is_declared-known.ensures (mathlib.Core.Path.ap mathlib.Core.Bool.not c.if-not-known.true))

pub overflow_mul-p : goal.overflow_mul-p
overflow_mul-p c = let h = (declared_row c.args.classes.now c.args.c (turned_false c.is_declared-known.ensures (mathlib.Core.Path.ap mathlib.Core.Bool.not c.if-not-known.false))).0 in let g = c.well_formed.0.0 in omega arith

pub offset_bounds-classes-c : goal.offset_bounds-classes-c
offset_bounds-classes-c c = let h = (declared_row c.args.classes.now c.args.c (turned_false c.is_declared-known.ensures (mathlib.Core.Path.ap mathlib.Core.Bool.not c.if-not-known.false))).0 in let g = c.well_formed.0.0 in omega arith

pub bounds-classes-c : goal.bounds-classes-c
bounds-classes-c c = let h = (declared_row c.args.classes.now c.args.c (turned_false c.is_declared-known.ensures (mathlib.Core.Path.ap mathlib.Core.Bool.not c.if-not-known.false))).0 in omega arith

pub overflow_mul-k : goal.overflow_mul-k
overflow_mul-k c = let h = (declared_row c.args.classes.now c.args.c (turned_false c.is_declared-known.ensures (mathlib.Core.Path.ap mathlib.Core.Bool.not c.if-not-known.false))).0 in let g = c.well_formed.0.0 in omega arith

pub overflow_add-k : goal.overflow_add-k
overflow_add-k c = let h = (declared_row c.args.classes.now c.args.c (turned_false c.is_declared-known.ensures (mathlib.Core.Path.ap mathlib.Core.Bool.not c.if-not-known.false))).0 in let g = c.well_formed.0.0 in omega arith

pub offset_bounds-classes-c-2 : goal.offset_bounds-classes-c-2
offset_bounds-classes-c-2 c = let h = (declared_row c.args.classes.now c.args.c (turned_false c.is_declared-known.ensures (mathlib.Core.Path.ap mathlib.Core.Bool.not c.if-not-known.false))).0 in let g = c.well_formed.0.0 in omega arith

pub bounds-classes-c-2 : goal.bounds-classes-c-2
bounds-classes-c-2 c = let h = (declared_row c.args.classes.now c.args.c (turned_false c.is_declared-known.ensures (mathlib.Core.Path.ap mathlib.Core.Bool.not c.if-not-known.false))).0 in omega arith

pub returns-then-i-k : goal.returns-then-i-k
returns-then-i-k c = none_count c.args.classes.now c.args.c c.args.i refl c.if-i-k.true

pub returns-then-p-n : goal.returns-then-p-n
returns-then-p-n c = none_place c.args.classes.now c.args.c c.args.i refl (omega arith)

pub returns-then-i-n : goal.returns-then-i-n
returns-then-i-n c = none_place c.args.classes.now c.args.c c.args.i refl (omega arith)

pub returns : goal.returns
returns c = one_place c.args.classes.now c.args.c c.args.i refl refl (turned_false c.is_declared-known.ensures (mathlib.Core.Path.ap mathlib.Core.Bool.not c.if-not-known.false)) c.if-i-k.false (omega arith)
