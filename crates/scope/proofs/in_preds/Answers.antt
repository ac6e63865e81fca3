-- The loop's invariant: what is left of the list has the variable just where all of it has. The measure is the list's word.
use Rattle.scope.proofs.FreeLaws.{looking, looks_none, looks_node, looks_hit, looks_on}
use Rattle.scope.proofs.in_preds.Goals as goal

pub loop-a-init : goal.loop-a-init
loop-a-init c = looking _ _ c.requires.node

pub occurs_in-requires : goal.occurs_in-requires
occurs_in-requires c = record { names = c.requires.names; node = looks_node c.loop-a.invariant c.cell_at.ensures c.in-Cons.is }

pub returns-then-occurs_in : goal.returns-then-occurs_in
returns-then-occurs_in c = looks_hit c.loop-a.invariant c.cell_at.ensures c.in-Cons.is c.occurs_in.ensures c.if-occurs_in.true

pub loop-a-smaller : goal.loop-a-smaller
loop-a-smaller c = (looks_on c.loop-a.invariant c.cell_at.ensures c.in-Cons.is c.occurs_in.ensures c.if-occurs_in.false).0

pub loop-a-preserved : goal.loop-a-preserved
loop-a-preserved c = (looks_on c.loop-a.invariant c.cell_at.ensures c.in-Cons.is c.occurs_in.ensures c.if-occurs_in.false).1

pub returns : goal.returns
returns c = looks_none c.loop-a.invariant c.cell_at.ensures c.in_default.is
