use Rattle.std.proofs.Common.{◌≡◌, ◌++◌}
use Rattle.pf_anchor.specs.Tables.{tables_at}
use Rattle.pf_anchor.proofs.config.Config.tables_at.Given as goal

-- what was found comes before what the others give
abbrev pub invariant-loop-placed : goal.invariant-loop-placed
invariant-loop-placed l = l.found.items ++ tables_at l.path l.placed-iterator ≡ tables_at l.path l.self.tables
