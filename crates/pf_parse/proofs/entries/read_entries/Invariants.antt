use Rattle.std.proofs.Common.{◌≡◌, ◌+◌, ◌≤◌, drop}
use Rattle.pf_parse.specs.Entries.{entries_from, file_entries, onto}
use Rattle.pf_parse.proofs.entries.read_entries.Given as goal

abbrev pub invariant-loop-at : goal.invariant-loop-at
invariant-loop-at l = record {
  line : l.place.line ≤ l.at + 1;
  column : l.place.column ≤ l.at + 1;
  rest : onto l.entries (entries_from l.more l.place (drop l.at l.text)) ≡ onto l.initial.entries (file_entries l.file l.text);
}
