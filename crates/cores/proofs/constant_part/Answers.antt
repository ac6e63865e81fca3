-- Each way out is the test that was taken.
use borrow.Author.Tests.{eq-eqb, ne_eqb, lt-ltb, le-ltb}
use Rattle.cores.specs.Parts.{constant_part}
use Rattle.cores.proofs.constant_part.Goals as goal

pub returns-then-o-eq0 : goal.returns-then-o-eq0
unfolding constant_part
returns-then-o-eq0 c = rw (eq-eqb _ _ c.if-o-eq0.true)

pub returns-then-o-eq1 : goal.returns-then-o-eq1
unfolding constant_part
returns-then-o-eq1 c = rw (ne_eqb _ _ c.if-o-eq0.false, eq-eqb _ _ c.if-o-eq1.true)

pub returns-then-o-lt64 : goal.returns-then-o-lt64
unfolding constant_part
returns-then-o-lt64 c = rw (ne_eqb _ _ c.if-o-eq0.false, ne_eqb _ _ c.if-o-eq1.false, lt-ltb _ _ c.if-o-lt64.true)

pub returns : goal.returns
unfolding constant_part
returns c = rw (ne_eqb _ _ c.if-o-eq0.false, ne_eqb _ _ c.if-o-eq1.false, le-ltb _ _ c.if-o-lt64.false)
