use Rattle.pf_addr.specs.Path.Paths.{path_order}
use Rattle.pf_anchor.specs.Tables.{table_order}
use Rattle.pf_store.proofs.DurablesWithin.{filled}
use Rattle.pf_store.proofs.snapshots.durable.config_of.Goals as goal

pub of-requires-clause-rulesets : goal.of-requires-clause-rulesets
of-requires-clause-rulesets c = record { sorted = c.requires.rulesets; filled = filled path_order c.args.rulesets.now c.requires.rules }

pub of-requires-clause-tables : goal.of-requires-clause-tables
of-requires-clause-tables c = record { sorted = c.requires.tables; filled = filled table_order c.args.tables.now c.requires.entries }
