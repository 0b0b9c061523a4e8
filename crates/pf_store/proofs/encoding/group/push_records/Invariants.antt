use Rattle.std.proofs.Common.{◌++◌, length, drop}
use Rattle.pf_form.specs.Bytes.BasicForms.{number_bytes}
use Rattle.pf_store.specs.Groups.{change_form, plain_record}
use Rattle.pf_state.proofs.Pushing.{Pushing}
use Rattle.pf_store.proofs.encoding.group.push_records.Given as goal

abbrev pub invariant-loop-recorded : goal.invariant-loop-recorded
invariant-loop-recorded l =
    Pushing (change_form l.version) plain_record (drop l.recorded-index l.records) l.records (l.fn.out.items ++ number_bytes 1 (length l.records)) l.out.items
