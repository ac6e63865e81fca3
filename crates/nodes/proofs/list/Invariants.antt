-- The loop over a list's items: the definition reads the items that are left from here on.
use Prim.Native.Nat.{◌+◌}
use Rattle.nodes.specs.Known.{Known}
use Rattle.nodes.specs.Rows.{row_reader}
use Rattle.nodes.proofs.Loops.{Left}
use Rattle.nodes.proofs.list.Given as goal

abbrev pub invariant-loop : goal.invariant-loop
invariant-loop l = Left (Known l.file.index.now l.n) l.file.src.now (λ s. row_reader l.k s) (l.at + 2) l.count l.place l.counter
