use Rattle.pf_store.proofs.Pushed.{entries_fit}
use Rattle.pf_store.proofs.encoding.tables.push_table.Goals as goal

pub returns-clause-fits : goal.returns-clause-fits
returns-clause-fits c = entries_fit c.args.table.now c.entries-entries.ensures.table
