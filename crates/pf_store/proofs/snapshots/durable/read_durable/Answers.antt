use Rattle.std.proofs.Common.{◌∙◌}
use Rattle.pf_core.specs.Durable.Forms.{plain_durable}
use Rattle.pf_store.proofs.Beginnings.{none_unread, snapshot_least}
use Rattle.pf_store.proofs.snapshots.durable.read_durable.Goals as goal

pub returns-in-Err-clause-none : goal.returns-in-Err-clause-none
returns-in-Err-clause-none c no_form d is =
    let v = plain_durable d in
    none_unread c.in-Err.fault v c.has_least.result (c.in-Err.ensures.only v is.spelled) (c.unread.ensures.no_form no_form)
    (c.has_least.ensures ∙ snapshot_least c.args.version v c.args.bytes.now is.spelled)
