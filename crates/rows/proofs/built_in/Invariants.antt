-- `rows::built_in` meets its contract. The loop's invariant: the rows before b have other bytes. Assumes nothing.
use mathlib.Core.Path.{◌≡◌}
use Prim.Native.Nat.{ℕ, ◌<◌}
use Rattle.names.specs.Names.{row}
use Rattle.names.specs.Keys.{bytes_of}
use Rattle.rows.proofs.built_in.Given as goal

abbrev pub invariant-loop-b : goal.invariant-loop-b
invariant-loop-b l = (j : ℕ) → j < l.b → row l.names j ≡ bytes_of l.k → ⊥
