-- Each way out but one says no.
use native.Mathlib.Omega.{arith}
use Rattle.cases.proofs.goals.is_posed.Goals as goal

pub is_short-requires : goal.is_short-requires
is_short-requires c = (c.is_ready.ensures c.if-is_ready.true).first

pub have_heads-requires : goal.have_heads-requires
have_heads-requires c = let f = c.is_ready.ensures c.if-is_ready.true in let r = f.room in record { top_in_bounds = omega arith; table = f.first.table }

pub returns-then-is_short : goal.returns-then-is_short
returns-then-is_short c = λ e. record { fits = c.is_ready.ensures c.if-is_ready.true; heads = c.have_heads.ensures e; short = c.is_short.ensures c.if-is_short.true; named = c.if-h-ge65536.false }
