-- The rows between stand for binders as those before do.
use Rattle.settle.proofs.Parts.{sort_ready, sort_done}
use Rattle.settle.proofs.sort_out.Goals as goal

pub defer_rows-requires : goal.defer_rows-requires
defer_rows-requires c = sort_ready c.requires c.alias_rows.auto.binders c.alias_rows.ensures

pub returns : goal.returns
returns c = sort_done c.alias_rows.auto.binders c.alias_rows.ensures c.defer_rows.ensures
