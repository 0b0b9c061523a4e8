use Rattle.std.proofs.Common.{◌∙◌}
use Rattle.pf_store.proofs.Allowing.{allowed_as}
use Rattle.pf_store.proofs.encoding.group.changes_are_allowed_in.Goals as goal

pub returns : goal.returns
returns g c = c.all_are_allowed_in.ensures ∙ allowed_as g.C.AsChange.as_plain c.args.version c.args.changes.now
