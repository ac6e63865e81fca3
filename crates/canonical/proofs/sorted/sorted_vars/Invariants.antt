-- The loop's invariant: what was found comes last of all. The measure is how many are not found yet.
use Prim.Native.Nat.{◌+◌, ◌-◌}
use mathlib.Core.List.{◌++◌}
use mathlib.Core.Path.{◌≡◌}
use Rattle.meaning.specs.Base.{count}
use Rattle.scope.specs.Scope.{env_of}
use Rattle.canonical.specs.Named.{list_qual, bound}
use Rattle.canonical.proofs.Sorting.{Sorting}
use Rattle.canonical.proofs.sorted.sorted_vars.Given as goal

abbrev pub invariant-loop-x : goal.invariant-loop-x
invariant-loop-x l = Sorting l.base.names.now (l.base.words.now ++ l.initial.work) (l.base.words.now ++ l.work) l.env.rows.now l.env.order.now l.initial.room.top l.ps l.t l.l l.room.top l.last × (l.room.left ≡ l.initial.room.left)

abbrev pub decreases-loop-x : goal.decreases-loop-x
decreases-loop-x l = l.initial.room.top + count (bound (list_qual l.base.names.now (l.base.words.now ++ l.initial.work) l.ps l.t) (env_of l.base.names.now (l.base.words.now ++ l.initial.work) l.env.rows.now l.env.order.now)) - l.room.top
