-- A word below all nodes, or a node whose words are there.
use native.Mathlib.Omega.{arith}
use lib.ListN.{length-append}
use borrow.Author.Tests.{ltb-true}
use Rattle.cases.proofs.say.is_there.Goals as goal

pub returns-then-t-lt-NODE : goal.returns-then-t-lt-NODE
returns-then-t-lt-NODE c = λ e. omega arith

pub returns : goal.returns
returns c = λ e. simp length-append (omega (arith, ltb-true))
