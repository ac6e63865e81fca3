-- `spelling::form_of` meets its contract. Assumes nothing.
use Rattle.spelling.proofs.Made.{is_variable, is_word, is_free}
use Rattle.spelling.proofs.form_of.Goals as goal

pub returns-then-numbered : goal.returns-then-numbered
returns-then-numbered c = is_variable (record { short = c.requires.len_bound; letters = c.requires.len_value }) c.numbered.ensures c.if-numbered.true

pub returns-then-like_word : goal.returns-then-like_word
returns-then-like_word c = is_word (record { short = c.requires.len_bound; letters = c.requires.len_value }) c.numbered.ensures c.if-numbered.false c.like_word.ensures c.if-like_word.true

pub returns-else-like_word : goal.returns-else-like_word
returns-else-like_word c = is_free (record { short = c.requires.len_bound; letters = c.requires.len_value }) c.numbered.ensures c.if-numbered.false c.like_word.ensures c.if-like_word.false
