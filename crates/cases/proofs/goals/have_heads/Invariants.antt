-- The instances passed have heads.
use mathlib.Core.List.{◌++◌}
use Prim.Native.Nat.{ℕ, ◌<◌}
use lib.ListN.{get_or}
use Rattle.cases.specs.Posed.{Headed}
use Rattle.cases.proofs.goals.have_heads.Given as goal

abbrev pub invariant-loop-i : goal.invariant-loop-i
invariant-loop-i l = (k : ℕ) → k < l.i → Headed (l.base.words.now ++ l.work) l.top (get_or l.insts k 0)
