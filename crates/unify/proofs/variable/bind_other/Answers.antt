-- Where the variable stands in the type nothing is written; elsewhere the pair's two words are.
use mathlib.Core.Path.{sym, ◌∙◌}
use Rattle.unify.proofs.Binding.{bind_infinite, bind_done}
use Rattle.unify.proofs.variable.bind_other.Goals as goal

pub returns-then-occurs_in : goal.returns-then-occurs_in
returns-then-occurs_in c = bind_infinite c.requires.binds _ (sym c.if-occurs_in.true ∙ c.occurs_in.ensures)

pub returns : goal.returns
returns c = bind_done c.requires.binds _ (sym c.if-occurs_in.false ∙ c.occurs_in.ensures) c.put.ensures c.put-2.ensures
