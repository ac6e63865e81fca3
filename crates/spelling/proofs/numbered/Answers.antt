-- `spelling::numbered` meets its contract. Assumes nothing.
use Rattle.spelling.proofs.Prefixes.{no_letter, that_letter, another_letter}
use Rattle.spelling.proofs.numbered.Goals as goal

pub returns-in-empty : goal.returns-in-empty
returns-in-empty c = no_letter _ _ c.in-empty.len_below

pub returns-then-first-letter : goal.returns-then-first-letter
returns-then-first-letter c = that_letter _ _ _ c.in-len1-up.len_at_least c.if-first-letter.true c.all_digits.ensures

pub returns-else-first-letter : goal.returns-else-first-letter
returns-else-first-letter c = another_letter _ _ c.in-len1-up.len_at_least c.if-first-letter.false
