use Rattle.std.proofs.Common.{◌≡◌, ◌++◌}
use Rattle.pf_core.specs.Durable.Changes.{placed}
use Rattle.pf_core.proofs.durable.durable.push_placed.Given as goal

-- what was found, then the remaining tables, are all of them
abbrev pub invariant-loop-named : goal.invariant-loop-named
invariant-loop-named l = l.found.items ++ placed l.path l.named-iterator ≡ l.initial.found.items ++ placed l.path l.tables
