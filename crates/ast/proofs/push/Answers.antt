-- The node's words lie in the second slice, which a type's word fits.
use Rattle.ast.proofs.Join.{push_at}
use Rattle.ast.proofs.push.Goals as goal

pub returns : goal.returns
returns c = push_at c.args.base.now.words.now c.args.work.now c.args.top c.args.tag c.args.a c.args.b c.requires.base_len_bound
