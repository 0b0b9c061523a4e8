use Rattle.std.proofs.Common.{◌≡◌, ◌++◌, take}
use Rattle.pf_sources.proofs.sources.push_entries.Given as goal

abbrev pub invariant-loop-entry : goal.invariant-loop-entry
invariant-loop-entry l = l.entries ≡ l.initial.entries ++ take l.entry-index l.more
