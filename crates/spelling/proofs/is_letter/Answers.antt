-- `spelling::is_letter` meets its contract. Assumes nothing.
use Rattle.spelling.proofs.Alphabet.{alphanumeric, other_letter}
use Rattle.spelling.proofs.is_letter.Goals as goal

pub returns-then-is_ascii_alphanumeric : goal.returns-then-is_ascii_alphanumeric
returns-then-is_ascii_alphanumeric c = alphanumeric _ _ c.is_ascii_alphanumeric.ensures.value c.if-is_ascii_alphanumeric.true

pub returns-else-is_ascii_alphanumeric : goal.returns-else-is_ascii_alphanumeric
returns-else-is_ascii_alphanumeric c = other_letter _ _ c.is_ascii_alphanumeric.ensures.value c.if-is_ascii_alphanumeric.false
