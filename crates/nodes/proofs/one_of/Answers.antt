-- `nodes::one_of` meets its contract. Assumes nothing.
use Rattle.reader.proofs.Counts.{some_was, none_was}
use Rattle.nodes.proofs.Numbers.{one_of_at, one_of_none, refused}
use Rattle.nodes.proofs.one_of.Goals as goal

pub returns-in_err-ok_or : goal.returns-in_err-ok_or
returns-in_err-ok_or c = let q = none_was _ _ _ _ c.ok_or.ensures.value c.in_err-ok_or.was in refused _ _ _ _ _ _ c.from_residual.ensures.1 (rw q.1 (one_of_none c.args.n c.args.of _ _ _ c.many.ensures (rw q.0 at c.pick.ensures)))

pub returns : goal.returns
returns c = one_of_at c.args.n c.args.of _ _ _ _ c.many.ensures (rw (some_was _ _ _ _ c.ok_or.ensures.value c.in_ok-ok_or.was) at c.pick.ensures)
