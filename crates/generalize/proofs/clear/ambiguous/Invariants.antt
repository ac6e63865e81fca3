-- The loop's invariant: no row before number i is ambiguous.
use mathlib.Core.List.{[], ◌++◌}
use Rattle.meaning.specs.Subst.{ftv_type}
use Rattle.meaning.specs.Generalize.{env_ftv}
use Rattle.ast.specs.Table.{tree}
use Rattle.scope.specs.Scope.{env_of}
use Rattle.generalize.proofs.TestWays.{Testing}
use Rattle.generalize.proofs.clear.ambiguous.Given as goal

abbrev pub invariant-loop-i : goal.invariant-loop-i
invariant-loop-i l = Testing (ftv_type (tree l.base.names.now (l.base.words.now ++ l.work) l.t) []) (env_ftv (env_of l.base.names.now (l.base.words.now ++ l.work) l.env.rows.now l.env.order.now)) l.base.names.now (l.base.words.now ++ l.work) l.binders l.n l.i
