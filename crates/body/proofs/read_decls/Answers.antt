-- `body::read_decls` meets its contract. Assumes nothing.
use Rattle.errors.proofs.Thrown.{thrown}
use Rattle.body.proofs.Sequel.{decls_bad, decls_more, decls_good}
use Rattle.body.proofs.read_decls.Goals as goal

pub returns-in_err-decls : goal.returns-in_err-decls
returns-in_err-decls c = rw (thrown _ c.from_residual.ensures.1) (decls_bad _ _ _ _ _ _ c.in_err-decls.ensures)

pub returns-then-decls-src : goal.returns-then-decls-src
returns-then-decls-src c = decls_more _ _ _ _ _ _ _ c.in_ok-decls.ensures c.if-decls-src.true

pub returns : goal.returns
returns c = decls_good _ _ _ _ _ _ _ c.in_ok-decls.ensures c.if-decls-src.false
