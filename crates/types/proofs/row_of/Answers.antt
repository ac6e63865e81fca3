-- The row's number, or 0.
use Rattle.types.proofs.Decode.{row_is, row_none}
use native.Mathlib.Omega.{arith}
use Rattle.types.proofs.row_of.Goals as goal

pub returns-then-n-lt1059 : goal.returns-then-n-lt1059
returns-then-n-lt1059 c = row_is _ _ _ c.name_number-n.ensures.word c.if-n-lt1059.true

pub returns : goal.returns
returns c = row_none _ _ _ c.name_number-n.ensures.word (let h = c.if-n-lt1059.false in omega arith)
