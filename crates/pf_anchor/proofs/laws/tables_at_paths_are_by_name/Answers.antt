use Rattle.pf_anchor.proofs.TablesAt.{tables_at_path}
use Rattle.pf_anchor.proofs.laws.tables_at_paths_are_by_name.Goals as goal

pub returns : goal.returns
returns c = tables_at_path
