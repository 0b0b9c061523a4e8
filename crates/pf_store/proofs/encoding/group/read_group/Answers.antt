use Rattle.std.proofs.Common.{map, ◌∙◌}
use Rattle.pf_store.specs.Groups.{plain_record}
use Rattle.pf_store.proofs.Beginnings.{group_begins, none_unread}
use Rattle.pf_store.proofs.encoding.group.read_group.Goals as goal

pub returns-in-Err-clause-none : goal.returns-in-Err-clause-none
returns-in-Err-clause-none c no_form rs is =
    let v = map plain_record rs in
    none_unread c.in-Err.fault v c.begins_group.result (c.in-Err.ensures.only v is.spelled) (c.unread.ensures.no_form no_form)
    (c.begins_group.ensures ∙ group_begins c.args.version v c.args.bytes.now is.spelled)
