-- Each way out is what its list refers to.
use Rattle.cases.proofs.Falling.{nil_falls, cons_falls}
use Rattle.cases.proofs.ready.cell_rises.Goals as goal

pub returns-in-Nil : goal.returns-in-Nil
returns-in-Nil c = λ e. nil_falls _ _ c.in-Nil.is

pub returns-else-a-t : goal.returns-else-a-t
returns-else-a-t c = λ e. cons_falls _ _ _ _ c.in-Cons.is c.if-a-t.false e
