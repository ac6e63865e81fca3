-- The measure is how many more there may be.
use Rattle.cases.proofs.goals.+is_short.Given as goal

abbrev pub decreases-is_short : goal.decreases-is_short
decreases-is_short l = l.most
