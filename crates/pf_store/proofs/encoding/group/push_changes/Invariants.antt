use Rattle.std.proofs.Common.{◌++◌, length, drop}
use Rattle.pf_form.specs.Bytes.BasicForms.{number_bytes}
use Rattle.pf_store.specs.Groups.{change_form, plain_record}
use Rattle.pf_store.specs.declared.encoding.recorded.Recorded.TheVariants.{Made as made}
use Rattle.pf_state.proofs.Pushing.{Pushing}
use Rattle.pf_store.proofs.encoding.group.push_changes.Given as goal

abbrev pub invariant-loop-change : goal.invariant-loop-change
invariant-loop-change g l =
    Pushing (change_form l.version) (λ c. plain_record (made (g.C.AsChange.as_plain c))) (drop l.change-index l.changes) l.changes (l.fn.out.items ++ number_bytes 1 (length l.changes)) l.out.items
