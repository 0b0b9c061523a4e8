use Rattle.pf_load.proofs.Once.{tables_once}
use Rattle.pf_load.proofs.files.laws.tables_are_filled_once.Goals as goal

pub returns : goal.returns
returns c = tables_once
