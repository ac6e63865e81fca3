-- There is no room, or the superclasses are copied and two words are written.
use mathlib.Core.Path.{◌≡◌, sym}
use Prim.Native.Nat.{◌+◌, ◌-◌}
use native.Mathlib.Omega.{arith}
use lib.ListN.{length}
use Rattle.classes.proofs.Copying.{copied, put_full, put_done}
use Rattle.classes.proofs.put_class.Goals as goal

pub returns-then-c-n : goal.returns-then-c-n
returns-then-c-n c = put_full (omega arith)

pub returns-then-used-n : goal.returns-then-used-n
returns-then-used-n c = put_full (omega arith)

pub returns-then-k-n : goal.returns-then-k-n
returns-then-k-n c = put_full (omega arith)

pub returns : goal.returns
returns c = let z : c.args.used + length c.args.supers.now - c.args.used ≡ length c.args.supers.now = omega arith in rw c.copy_from_slice.ensures.after (put_done c.args.c (copied c.args.classes.now c.args.supers.now c.args.used _ (sym z) (omega arith)) (omega arith) (omega arith))
