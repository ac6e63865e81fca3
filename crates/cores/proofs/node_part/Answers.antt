-- Where the tag is a numeral, the chain of tests computes.
use borrow.Author.Tests.{ne_eqb}
use Rattle.cores.specs.Parts.{node_part}
use Rattle.cores.proofs.node_part.Goals as goal

pub returns-in-4 : goal.returns-in-4
unfolding node_part
returns-in-4 c = rw c.in-4.is

pub returns-in-5 : goal.returns-in-5
unfolding node_part
returns-in-5 c = rw c.in-5.is

pub returns-in-6 : goal.returns-in-6
unfolding node_part
returns-in-6 c = rw c.in-6.is

pub returns-in-7 : goal.returns-in-7
unfolding node_part
returns-in-7 c = rw c.in-7.is

pub returns-in-8 : goal.returns-in-8
unfolding node_part
returns-in-8 c = rw c.in-8.is

pub returns-in-9 : goal.returns-in-9
unfolding node_part
returns-in-9 c = rw c.in-9.is

pub returns-in-10 : goal.returns-in-10
unfolding node_part
returns-in-10 c = rw c.in-10.is

pub returns-in-11 : goal.returns-in-11
unfolding node_part
returns-in-11 c = rw c.in-11.is

pub returns-in-12 : goal.returns-in-12
unfolding node_part
returns-in-12 c = rw c.in-12.is

pub returns-in_default : goal.returns-in_default
unfolding node_part
returns-in_default c = simp (ne_eqb _ _ c.in_default.in_default-own.rest.0.0.0.0.0.0.0.0.1, ne_eqb _ _ c.in_default.in_default-own.rest.0.0.0.0.0.0.0.1, ne_eqb _ _ c.in_default.in_default-own.rest.0.0.0.0.0.0.1, ne_eqb _ _ c.in_default.in_default-own.rest.0.0.0.0.0.1, ne_eqb _ _ c.in_default.in_default-own.rest.0.0.0.0.1, ne_eqb _ _ c.in_default.in_default-own.rest.0.0.0.1, ne_eqb _ _ c.in_default.in_default-own.rest.0.0.1, ne_eqb _ _ c.in_default.in_default-own.rest.0.1, ne_eqb _ _ c.in_default.in_default-own.rest.1)
