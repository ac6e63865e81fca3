-- The measure is how many more there may be.
use Rattle.replay_schemes.proofs.schemes.+is_few.Given as goal

abbrev pub decreases-is_few : goal.decreases-is_few
decreases-is_few l = l.most
