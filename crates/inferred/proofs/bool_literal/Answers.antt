-- The words of the two truth values.
use mathlib.Core.Path.{ap, sym, ◌∙◌}
use native.Mathlib.Omega.{arith}
use Rattle.meaning.specs.Ast.{cbool}
use Rattle.inferred.proofs.Literals.{false_core, true_core, bool_closed}
use Rattle.inferred.proofs.bool_literal.Goals as goal
use Rattle.inferred.proofs.bool_literal.Goals.{then-b, else-b}

pub returns : goal.returns
returns c = elim c.if-b.branch [
  | then-b w ↦ rw w.word-is (bool_closed c.requires.ready_literal c.args.b _ (omega arith) (true_core _ _ ∙ ap cbool (sym w.if-b.true)))
  | else-b w ↦ rw w.word-is (bool_closed c.requires.ready_literal c.args.b _ (omega arith) (false_core _ _ ∙ ap cbool (sym w.if-b.false)))
]
