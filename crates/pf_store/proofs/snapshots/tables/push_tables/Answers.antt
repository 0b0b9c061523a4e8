use Rattle.pf_store.proofs.Durables.{tables_fit}
use Rattle.pf_store.proofs.snapshots.tables.push_tables.Goals as goal

pub returns-clause-fits : goal.returns-clause-fits
returns-clause-fits c =
    tables_fit c.args.config.now.tables c.tables_are_a_map.ensures c.requires (c.loop-placed.invariant.fits (rw c.in-None.ensures.steps.0 tt))
