use Rattle.std.proofs.Common.{◌++◌, length}
use Rattle.pf_form.specs.Bytes.BasicForms.{number_bytes}
use Rattle.pf_table.specs.EntryForms.{entry, plain_entry}
use Rattle.pf_state.proofs.Pushing.{Pushing}
use Rattle.pf_store.proofs.encoding.tables.push_table.Given as goal

abbrev pub invariant-loop-entry : goal.invariant-loop-entry
invariant-loop-entry l = Pushing entry plain_entry l.entry-iterator l.table (l.fn.out.items ++ number_bytes 4 (length l.table)) l.out.items
