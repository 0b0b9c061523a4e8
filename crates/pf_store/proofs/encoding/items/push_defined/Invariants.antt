use Rattle.std.proofs.Common.{◌++◌, length}
use Rattle.pf_form.specs.Bytes.BasicForms.{number_bytes}
use Rattle.pf_anchor.specs.Forms.{named_form, plain_named}
use Rattle.pf_state.proofs.Pushing.{Pushing}
use Rattle.pf_store.proofs.encoding.items.push_defined.Given as goal

abbrev pub invariant-loop-table : goal.invariant-loop-table
invariant-loop-table l =
    Pushing named_form plain_named l.table-iterator l.tables (l.fn.out.items ++ number_bytes 4 (length l.tables)) l.out.items
