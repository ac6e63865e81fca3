-- What the first pairs have not, those that are left have as all of them do.
use native.Mathlib.Omega.{arith}
use mathlib.Core.List.{◌++◌}
use mathlib.Core.Path.{sym, ap, ◌∙◌}
use Prim.Native.Nat.{◌+◌, ◌*◌, ◌-◌}
use Rattle.pairs.proofs.Looks.{looks_next, find_hit, find_none}
use Rattle.pairs.proofs.find.Goals as goal
use Rattle.std.specs.Prelude.{Some}

pub returns-then-index-x : goal.returns-then-index-x
returns-then-index-x c = ap (λ m. Some m) c.index-then-index-x.ensures ∙ sym (find_hit (c.args.base.now.words.now ++ c.args.work.now) (c.args.sub.at + 2 * c.loop-j.j) (c.args.sub.k - c.loop-j.j) c.args.x (let h = c.loop-j-test.true in omega arith) (sym c.index.ensures ∙ c.if-index-x.true)) ∙ c.loop-j.invariant.finds

pub loop-j-preserved : goal.loop-j-preserved
loop-j-preserved c = looks_next c.loop-j.invariant c.loop-j-test.true (λ e. c.if-index-x.false (c.index.ensures ∙ e))

pub returns : goal.returns
returns c = sym (find_none (c.args.base.now.words.now ++ c.args.work.now) (c.args.sub.at + 2 * c.loop-j.j) (c.args.sub.k - c.loop-j.j) c.args.x (let h = c.loop-j-test.false in omega arith)) ∙ c.loop-j.invariant.finds
