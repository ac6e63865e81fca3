-- `rows::is_known` meets its contract. The loop's invariant: the rows before r have other bytes. Assumes nothing.
use mathlib.Core.Path.{◌≡◌}
use mathlib.Core.Bool.{false}
use Prim.Native.Nat.{ℕ, ◌<◌, ◌≤◌}
use Rattle.meaning.specs.Base.{eqb}
use Rattle.names.specs.Names.{row}
use Rattle.names.specs.Keys.{bytes_of}
use Rattle.rows.proofs.is_known.Given as goal

abbrev pub invariant-loop-r : goal.invariant-loop-r
invariant-loop-r l = (j : ℕ) → 35 ≤ j → j < l.r → eqb (bytes_of l.k) (row l.names j) ≡ false
