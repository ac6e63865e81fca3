-- `rows::built_in_key` meets its contract: the constant table holds the built-in names. Assumes nothing.
use Rattle.rows.proofs.Start.{first_words, built_key}
use Rattle.rows.proofs.built_in_key.Goals as goal

pub returns : goal.returns
unfolding first_words
returns c = built_key _ 0 c.requires
