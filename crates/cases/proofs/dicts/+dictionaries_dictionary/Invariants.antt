-- The measure is the depth left.
use Rattle.cases.proofs.dicts.+dictionaries_dictionary.Given as goal

abbrev pub decreases-dictionaries : goal.decreases-dictionaries
decreases-dictionaries g l = l.depth

abbrev pub decreases-dictionary : goal.decreases-dictionary
decreases-dictionary g l = l.depth
