-- Two classes are told apart by their numbers; of one class the types decide.
use Rattle.matching.proofs.Ways.{pred_differs, pred_goes}
use Rattle.matching.proofs.match_pred.Goals as goal

pub returns-then-c-d : goal.returns-then-c-d
returns-then-c-d c = pred_differs c.requires.ready_u c.requires.classes c.if-c-d.true

pub returns : goal.returns
returns c = pred_goes c.requires.ready_u c.requires.classes c.if-c-d.false c.match_ty.ensures
