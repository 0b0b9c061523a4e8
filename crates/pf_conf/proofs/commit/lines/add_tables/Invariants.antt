use Rattle.std.proofs.Common.{◌≡◌, ◌++◌, take}
use Rattle.pf_conf.specs.Commit.Lines.{tables_lines}
use Rattle.pf_conf.proofs.commit.lines.add_tables.Given as goal

abbrev pub invariant-loop-table : goal.invariant-loop-table
invariant-loop-table l = l.text.items ≡ l.initial.text.items ++ tables_lines l.begun (take l.table-index l.tables)
