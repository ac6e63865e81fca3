-- `nodes::item` meets its contract: each kind of item is one call. Assumes nothing.
use Rattle.nodes.specs.declared.Row.TheVariants.{Super, Argument, Signature, Method, Context}
use Rattle.nodes.proofs.Numbers.{sized, pred_pair}
use Rattle.nodes.proofs.Loops.{at_row}
use Rattle.nodes.proofs.item.Goals as goal

pub returns-in-Super : goal.returns-in-Super
returns-in-Super c = at_row _ Super _ _ _ _ _ c.in-Super.is (sized _ _ _ _ _ _ c.one_of.ensures)

pub returns-in-Argument : goal.returns-in-Argument
returns-in-Argument c = at_row _ Argument _ _ _ _ _ c.in-Argument.is (sized _ _ _ _ _ _ c.one_of-in-Argument.ensures)

pub returns-in-Signature : goal.returns-in-Signature
returns-in-Signature c = at_row _ Signature _ _ _ _ _ c.in-Signature.is c.worded.ensures

pub returns-in-Method : goal.returns-in-Method
returns-in-Method c = at_row _ Method _ _ _ _ _ c.in-Method.is c.worded-in-Method.ensures

pub returns-in-Context : goal.returns-in-Context
returns-in-Context c = at_row _ Context _ _ _ _ _ c.in-Context.is (sized _ _ _ _ _ _ (pred_pair _ _ _ _ c.two.ensures))
