use Rattle.pf_store.proofs.Pushed.{tables_fit}
use Rattle.pf_store.proofs.encoding.items.push_defined.Goals as goal

pub returns-clause-fits : goal.returns-clause-fits
returns-clause-fits c =
    tables_fit c.args.tables.now c.entries-entries.ensures.order c.requires (c.loop-table.invariant.fits (rw c.in-None.ensures.steps.0 tt))
