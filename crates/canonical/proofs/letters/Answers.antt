-- The loop's invariant: what is chosen from `from` on comes behind the first k words.
use mathlib.Core.List.{◌++◌}
use mathlib.Core.Path.{◌≡◌, refl, ◌∙◌}
use lib.ListN.{length-set}
use native.Mathlib.Omega.{arith}
use Rattle.canonical.proofs.Lettering.{lettering, letters_on, letters_full, letters_over}
use Rattle.canonical.proofs.letters.Goals as goal

pub loop-k-init : goal.loop-k-init
loop-k-init c = (lettering _ _ _ _ c.requires.in_bounds, refl)

pub least_above-x-requires : goal.least_above-x-requires
least_above-x-requires c = c.requires.ready_rows

pub shape_of-out-then-x-ge-NULLARY : goal.shape_of-out-then-x-ge-NULLARY
shape_of-out-then-x-ge-NULLARY c = c.loop-k.invariant.1

pub returns-then-x-ge-NULLARY : goal.returns-then-x-ge-NULLARY
returns-then-x-ge-NULLARY c = letters_over _ c.requires.ready_rows.type.env.names c.loop-k.invariant.0 c.least_above-x.ensures c.if-x-ge-NULLARY.true

pub offset_bounds-out-k : goal.offset_bounds-out-k
offset_bounds-out-k c = let l = c.loop-k-test.true in omega arith

pub bounds-out-k : goal.bounds-out-k
bounds-out-k c = let l = c.loop-k-test.true in let o = c.loop-k.invariant.0.long in omega arith

pub overflow_add-from : goal.overflow_add-from
overflow_add-from c = let l = c.if-x-ge-NULLARY.false in omega arith

pub loop-k-preserved : goal.loop-k-preserved
loop-k-preserved c = (letters_on c.loop-k.invariant.0 c.least_above-x.ensures c.loop-k-test.true (let l = c.if-x-ge-NULLARY.false in omega arith) refl, length-set c.loop-k.out _ _ ∙ c.loop-k.invariant.1)

pub shape_of-out : goal.shape_of-out
shape_of-out c = c.loop-k.invariant.1

pub returns : goal.returns
returns c = let l = c.loop-k-test.false in let m = c.loop-k.auto.k-end in let z : c.loop-k.k ≡ 26 = omega arith in rw z at (letters_full (c.args.base.now.words.now ++ c.args.work.now) c.requires.ready_rows.type.env.names c.loop-k.invariant.0 (omega arith))
