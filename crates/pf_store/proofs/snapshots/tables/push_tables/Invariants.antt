use Rattle.std.proofs.Common.{◌++◌, length}
use Rattle.pf_form.specs.Bytes.BasicForms.{number_bytes}
use Rattle.pf_anchor.specs.Forms.{placed_form, plain_tabled}
use Rattle.pf_state.proofs.Pushing.{Pushing}
use Rattle.pf_store.proofs.snapshots.tables.push_tables.Given as goal

abbrev pub invariant-loop-placed : goal.invariant-loop-placed
invariant-loop-placed l =
    Pushing placed_form plain_tabled l.placed-iterator l.config.tables
    (l.fn.out.items ++ number_bytes 4 (length l.config.tables)) l.out.items
