use Rattle.std.proofs.Common.{◌≡◌, drop}
use Rattle.pf_values.specs.Named.{rows_in, number_in}
use Rattle.pf_values.proofs.names.number_in.Given as goal

abbrev pub invariant-loop-row : goal.invariant-loop-row
invariant-loop-row l = number_in (rows_in (drop l.row-index l.table)) l.name ≡ number_in (rows_in l.table) l.name
