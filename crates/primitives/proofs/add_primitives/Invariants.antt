-- The loop's invariant: the first p primitives are added.
use mathlib.Core.List.{◌++◌}
use Rattle.primitives.proofs.Added.{Adding}
use Rattle.primitives.proofs.add_primitives.Given as goal

abbrev pub invariant-loop-p : goal.invariant-loop-p
invariant-loop-p l = Adding l.base.names.now (l.base.words.now ++ l.initial.work) l.initial.env l.order l.top (l.base.words.now ++ l.work) l.env l.t l.p
