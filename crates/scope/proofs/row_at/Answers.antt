-- The state decides.
use Rattle.scope.specs.Scope.{entry_of}
use Rattle.scope.proofs.EntryLaws.{is_nothing, is_closed, is_local}
use Rattle.scope.proofs.row_at.Goals as goal

pub returns-then-s-eq0 : goal.returns-then-s-eq0
unfolding entry_of
returns-then-s-eq0 c = is_nothing _ _ _ _ c.if-s-eq0.true

pub returns-then-s-eq1 : goal.returns-then-s-eq1
unfolding entry_of
returns-then-s-eq1 c = is_closed _ _ _ _ c.if-s-eq1.true

pub returns : goal.returns
unfolding entry_of
returns c = is_local _ _ _ _ c.if-s-eq0.false c.if-s-eq1.false
