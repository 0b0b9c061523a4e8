-- Texts of tables' entries.
use Rattle.std.specs.{Prelude.{List, [], ◌++◌, codes, if◌then◌else◌}, List.flat_map}
use Rattle.pf_addr.specs.Spelling.{net_text}
use Rattle.pf_table.specs.Entries.{PlainEntry}
use Rattle.pf_parse.specs.Reading.{Word}

-- as `show tables` has it: a "!" stands before a network that is negated
abbrev pub entry_text : PlainEntry → Word
entry_text e = (if e.1 then codes "!" else []) ++ net_text e.0

-- entries, each behind a space
abbrev pub entries_text : List PlainEntry → Word
entries_text es = flat_map (λ (e : PlainEntry). codes " " ++ entry_text e) es
