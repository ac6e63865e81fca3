-- `nodes::int` meets its contract. Assumes nothing.
use Rattle.reader.proofs.Counts.{some_was, none_was}
use Rattle.nodes.proofs.Tags.{int_is, int_cut}
use Rattle.nodes.proofs.Numbers.{refused}
use Rattle.nodes.proofs.int.Goals as goal

pub returns-in_err-ok_or : goal.returns-in_err-ok_or
returns-in_err-ok_or c = let q = none_was _ _ _ _ c.ok_or.ensures.value c.in_err-ok_or.was in refused _ _ _ _ _ _ c.from_residual.ensures.1 (rw q.1 (int_cut _ _ (rw q.0 at c.eight.ensures)))

pub returns : goal.returns
returns c = int_is _ _ _ (rw (some_was _ _ _ _ c.ok_or.ensures.value c.in_ok-ok_or.was) at c.eight.ensures)
