-- `nodes::decls::class_entry` meets its contract: its parts one after the other. Assumes nothing.
use Rattle.nodes.proofs.Numbers.{pair_on, pair_bad, sized, refused}
use Rattle.nodes.proofs.Bodies.{class_on, class_bad}
use Rattle.nodes.proofs.decls.class_entry.Goals as goal

pub returns-in_err-variable : goal.returns-in_err-variable
returns-in_err-variable c = refused _ _ _ _ _ _ c.from_residual.ensures.1 (class_bad _ _ _ _ (sized _ _ _ _ _ _ c.in_err-variable.ensures))

pub returns-in_err-supers : goal.returns-in_err-supers
returns-in_err-supers c = refused _ _ _ _ _ _ c.from_residual-in_err-supers.ensures.1 (class_on _ _ _ _ _ (sized _ _ _ _ _ _ c.in_ok-variable.ensures) (pair_bad _ _ _ _ _ _ c.in_err-supers.ensures))

pub returns-in_err-signatures : goal.returns-in_err-signatures
returns-in_err-signatures c = refused _ _ _ _ _ _ c.from_residual-in_err-signatures.ensures.1 (class_on _ _ _ _ _ (sized _ _ _ _ _ _ c.in_ok-variable.ensures) (pair_on _ _ _ _ _ _ _ c.in_ok-supers.ensures (pair_bad _ _ _ _ _ _ c.in_err-signatures.ensures)))

pub returns-in_err-defaults : goal.returns-in_err-defaults
returns-in_err-defaults c = refused _ _ _ _ _ _ c.from_residual-in_err-defaults.ensures.1 (class_on _ _ _ _ _ (sized _ _ _ _ _ _ c.in_ok-variable.ensures) (pair_on _ _ _ _ _ _ _ c.in_ok-supers.ensures (pair_on _ _ _ _ _ _ _ c.in_ok-signatures.ensures (pair_bad _ _ _ _ _ _ c.in_err-defaults.ensures))))

pub returns : goal.returns
returns c = class_on _ _ _ _ _ (sized _ _ _ _ _ _ c.in_ok-variable.ensures) (pair_on _ _ _ _ _ _ _ c.in_ok-supers.ensures (pair_on _ _ _ _ _ _ _ c.in_ok-signatures.ensures (pair_on _ _ _ _ _ _ _ c.in_ok-defaults.ensures c.list-3.ensures)))
