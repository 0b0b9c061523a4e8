use Rattle.std.proofs.Common.{◌≡◌, take}
use Rattle.pf_conf.specs.Commit.Naming.{table_paths}
use Rattle.pf_conf.proofs.commit.naming.table_paths.Given as goal

abbrev pub invariant-loop-table : goal.invariant-loop-table
invariant-loop-table l = l.paths.items ≡ table_paths (take l.table-index l.tables)
