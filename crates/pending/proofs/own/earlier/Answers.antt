-- The loop's invariant: no row before number j has the predicate.
use native.Mathlib.Omega.{arith}
use Rattle.pending.proofs.Owns.{seeking, binders_fewer, sought_all, sought_found, sought_on}
use Rattle.pending.proofs.own.earlier.Goals as goal

pub loop-j-init : goal.loop-j-init
loop-j-init c = seeking _ _ _ _ _

pub equal_row-q-requires : goal.equal_row-q-requires
equal_row-q-requires c = record { names = c.requires.names; binders = binders_fewer _ c.requires.binders (let x = c.loop-j-test.true in omega arith); node = c.requires.node }

pub returns-in-Some : goal.returns-in-Some
returns-in-Some c = sought_found c.loop-j.invariant c.loop-j-test.true c.equal_row-q.ensures c.in-Some.is

pub loop-j-preserved : goal.loop-j-preserved
loop-j-preserved c = sought_on c.loop-j.invariant c.loop-j-test.true c.equal_row-q.ensures c.in_default.is

pub returns : goal.returns
returns c = sought_all c.loop-j.invariant (let l = c.loop-j-test.false in omega arith)
