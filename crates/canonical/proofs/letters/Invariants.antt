-- The loop's invariant: what is chosen from `from` on comes behind the first k words.
use mathlib.Core.List.{◌++◌}
use mathlib.Core.Path.{◌≡◌}
use lib.ListN.{length}
use Rattle.scope.specs.Scope.{env_of}
use Rattle.canonical.specs.Named.{rows_qual}
use Rattle.canonical.proofs.Lettering.{Lettering}
use Rattle.canonical.proofs.letters.Given as goal

abbrev pub invariant-loop-k : goal.invariant-loop-k
invariant-loop-k l = Lettering l.base.names.now (rows_qual l.base.names.now (l.base.words.now ++ l.work) l.binders l.n l.t) (env_of l.base.names.now (l.base.words.now ++ l.work) l.env.rows.now l.env.order.now) l.out l.from l.k × (length l.out ≡ length l.initial.out)
