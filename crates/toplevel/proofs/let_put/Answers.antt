-- The row, closed or not.
use mathlib.Core.Path.{sym, ◌∙◌}
use Rattle.toplevel.proofs.Puts.{put_closed, put_local}
use Rattle.toplevel.proofs.let_put.Goals as goal

pub returns-then-c : goal.returns-then-c
returns-then-c c = put_closed c.requires _ _ _ (sym c.if-c.true ∙ c.is_closed-c.ensures) c.put.ensures

pub returns-else-c : goal.returns-else-c
returns-else-c c = put_local c.requires _ _ _ c.put-else-c.ensures
