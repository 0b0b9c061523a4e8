use Rattle.std.proofs.Common.{◌≡◌, ◌++◌, map, take}
use Rattle.pf_ticket.specs.Names.{table_ruleset_at}
use Rattle.pf_conf.proofs.commit.naming.add_tables.Given as goal

abbrev pub invariant-loop-path : goal.invariant-loop-path
invariant-loop-path l = l.names.items ≡ l.initial.names.items ++ map table_ruleset_at (take l.path-index l.paths)
