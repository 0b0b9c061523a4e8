use Rattle.pf_sources.proofs.Entries.{PushedSome}
use Rattle.pf_sources.proofs.tables.entries_at.Given as goal

abbrev pub invariant-loop-entry : goal.invariant-loop-entry
invariant-loop-entry l = PushedSome l.place l.table l.entry-iterator l.entries
