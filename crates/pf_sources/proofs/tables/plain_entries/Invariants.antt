use Rattle.std.proofs.Common.{◌≡◌, map, take}
use Rattle.pf_sources.specs.Tables.{plain}
use Rattle.pf_sources.proofs.tables.plain_entries.Given as goal

abbrev pub invariant-loop-entry : goal.invariant-loop-entry
invariant-loop-entry l = l.listed.items ≡ map plain (take l.entry-index l.entries)
