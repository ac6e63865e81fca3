-- `views::decl_at` meets its contract. Assumes nothing.
use Rattle.views.proofs.DeclLaws.{decl_placed}
use Rattle.views.proofs.decl_at.Goals as goal

pub returns : goal.returns
returns c = decl_placed _ _ _ _ _ c.word.ensures c.decl_read.ensures
