use Rattle.std.proofs.Common.{◌≡◌, take}
use Rattle.std.specs.List.{filter_map}
use Rattle.pfd_conf.specs.Firewalls.{table_of}
use Rattle.pfd_conf.proofs.firewall.tables_of.Given as goal

abbrev pub invariant-loop-table : goal.invariant-loop-table
invariant-loop-table l = l.placed.items ≡ filter_map table_of (take l.table-index l.tables)
