-- `file::name_place` meets its contract. Assumes nothing.
use Rattle.file.proofs.Once.{place_word}
use Rattle.file.proofs.name_place.Goals as goal

pub returns : goal.returns
returns c = place_word _ _ _ c.word.ensures
