use Rattle.std.proofs.Common.{◌++◌, length, drop}
use Rattle.pf_form.specs.Bytes.BasicForms.{number_bytes}
use Rattle.pf_store.specs.Groups.{item_form, plain_item}
use Rattle.pf_state.proofs.Pushing.{Pushing}
use Rattle.pf_store.proofs.encoding.items.push_items.Given as goal

abbrev pub invariant-loop-item : goal.invariant-loop-item
invariant-loop-item l =
    Pushing (item_form l.version) plain_item (drop l.item-index l.items) l.items (l.fn.out.items ++ number_bytes 1 (length l.items)) l.out.items
