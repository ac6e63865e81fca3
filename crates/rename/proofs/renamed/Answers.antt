-- The loop's invariant: so many words were passed, and what is left has the word just where all has it. The measure is the list's word.
use Rattle.rename.proofs.Places.{passed, no_cell, passes_none, passes_hit, passes_on}
use Rattle.rename.proofs.renamed.Goals as goal

pub loop-a-init : goal.loop-a-init
loop-a-init c = passed _ c.requires.vars

pub returns : goal.returns
returns c = passes_none c.requires c.loop-a.invariant c.cell_at.ensures (no_cell _ c.in_default.not-Cons) c.letter_of.ensures

pub returns-then-a-x : goal.returns-then-a-x
returns-then-a-x c = passes_hit c.requires c.loop-a.invariant c.cell_at.ensures c.in-Cons.is c.if-a-x.true

pub loop-a-smaller : goal.loop-a-smaller
loop-a-smaller c = (passes_on c.requires c.loop-a.invariant c.cell_at.ensures c.in-Cons.is c.if-a-x.false).0

pub loop-a-preserved : goal.loop-a-preserved
loop-a-preserved c = (passes_on c.requires c.loop-a.invariant c.cell_at.ensures c.in-Cons.is c.if-a-x.false).1
