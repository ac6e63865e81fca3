-- `nodes::name_for` meets its contract. Assumes nothing.
use mathlib.Core.Path.{◌∙◌, sym}
use Rattle.reader.proofs.Counts.{some_was, none_was}
use Rattle.nodes.proofs.Numbers.{name_free, name_reserved, name_none, refused}
use Rattle.nodes.proofs.name_for.Goals as goal

pub returns-in_err-v : goal.returns-in_err-v
returns-in_err-v c = let q = none_was _ _ _ _ c.ok_or.ensures.value c.in_err-v.was in refused _ _ _ _ _ _ c.from_residual.ensures.1 (rw q.1 (name_none c.args.u _ _ _ _ (rw q.0 at c.pick.ensures)))

pub returns-then-file-v : goal.returns-then-file-v
returns-then-file-v c = name_reserved c.args.u _ _ _ _ _ (rw (some_was _ _ _ _ c.ok_or.ensures.value c.in_ok-v.was) at c.pick.ensures) (c.if-file-v.true ∙ c.reserved.ensures)

pub returns : goal.returns
returns c = name_free c.args.u _ _ _ _ _ (rw (some_was _ _ _ _ c.ok_or.ensures.value c.in_ok-v.was) at c.pick.ensures) (λ e. c.if-file-v.false (e ∙ sym c.reserved.ensures))
