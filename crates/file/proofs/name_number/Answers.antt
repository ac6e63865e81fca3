-- `file::name_number` meets its contract. Assumes nothing.
use Rattle.file.proofs.Once.{name_word}
use Rattle.file.proofs.name_number.Goals as goal

pub returns : goal.returns
returns c = name_word _ _ _ c.word.ensures
