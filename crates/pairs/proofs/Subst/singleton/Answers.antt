-- Two words of the lent buffer, just below sp.
use native.Mathlib.Omega.{arith}
use mathlib.Core.List.{◌++◌}
use Rattle.pairs.proofs.OnePair.{one_put}
use Rattle.pairs.proofs.Start.{made_single}
use Rattle.pairs.proofs.Subst.singleton.Goals as goal

pub returns : goal.returns
returns c = let p = c.requires.base_len_bound in let q = c.requires.sp_in_bounds in made_single (one_put (c.args.base.now.words.now ++ c.args.work.now) _ _ _ (omega arith) q c.put.ensures c.put-2.ensures)
