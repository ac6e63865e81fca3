-- A superclass is missing, or the class is put into the table.
use Rattle.classes.proofs.AddLaws.{adds_all, adds_missing}
use Rattle.classes.proofs.add_class.Goals as goal

pub returns-in-Ok : goal.returns-in-Ok
returns-in-Ok c = adds_all c.supers_known-k.ensures c.in-Ok.is c.put_class.ensures

pub returns-in-Err : goal.returns-in-Err
returns-in-Err c = adds_missing c.supers_known-k.ensures c.in-Err.is
