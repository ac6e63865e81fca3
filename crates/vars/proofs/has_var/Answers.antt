-- The loop's invariant: what is left of the list has the variable just where all of it has. The measure is the list's word.
use Rattle.vars.proofs.VarLaws.{seeks_none, seeks_hit, seeks_on}
use Rattle.vars.proofs.has_var.Goals as goal

pub returns-in-Nil : goal.returns-in-Nil
returns-in-Nil c = seeks_none c.requires.names c.loop-a.invariant c.cell_at-c.ensures c.in-Nil.is

pub returns-then-a-x : goal.returns-then-a-x
returns-then-a-x c = seeks_hit c.requires.names c.loop-a.invariant c.cell_at-c.ensures c.in-Cons.is c.if-a-x.true

pub loop-a-smaller : goal.loop-a-smaller
loop-a-smaller c = (seeks_on c.requires.names c.loop-a.invariant c.cell_at-c.ensures c.in-Cons.is c.if-a-x.false).0

pub loop-a-preserved : goal.loop-a-preserved
loop-a-preserved c = (seeks_on c.requires.names c.loop-a.invariant c.cell_at-c.ensures c.in-Cons.is c.if-a-x.false).1
