-- Each way out is the law of its cell.
use mathlib.Core.Path.{sym, ◌∙◌}
use native.Mathlib.Omega.{arith}
use Rattle.ast.proofs.Ranges.{cons_node}
use Rattle.ast.proofs.Laws.{node_room}
use Rattle.supers.proofs.GivenLaws.{no_givens, first_context, first_binder}
use Rattle.supers.proofs.listed_at.Goals as goal

pub class_at-x-requires : goal.class_at-x-requires
class_at-x-requires c = record { first_node_le_l = cons_node _ _ (sym c.cell_at-c.ensures ∙ c.in-Cons.is); l_bound = node_room c.requires.node }

pub returns-in-Nil : goal.returns-in-Nil
returns-in-Nil c = record { says = λ bs. no_givens c.args.base.now.names.now c.args.i c.requires.node c.cell_at-c.ensures c.args.root c.in-Nil.is }

pub returns-in-Context : goal.returns-in-Context
returns-in-Context c = rw c.in-Context.is (record { says = λ bs. first_context c.args.base.now.names.now c.args.i c.requires.node c.cell_at-c.ensures c.in-Cons.is c.class_at-x.ensures (rw c.in-Context.is at c.requires.few) bs })

pub returns-in-Binder : goal.returns-in-Binder
returns-in-Binder c = rw c.in-Binder.is (record { says = λ bs. first_binder c.args.base.now.names.now c.args.i c.requires.node c.cell_at-c.ensures c.in-Cons.is c.class_at-x.ensures (omega arith) bs })
