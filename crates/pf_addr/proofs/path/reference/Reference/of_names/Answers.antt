use Rattle.std.proofs.Common.{sym, ◌∙◌}
use Rattle.pf_addr.proofs.PathBytes.{reference_is}
use Rattle.pf_addr.proofs.path.reference.Reference.of_names.Goals as goal

pub holding-requires : goal.holding-requires
holding-requires c = reference_is c.args.names.now c.args.is_wildcard (rw c.names_limit.ensures at (sym c.fault_in.ensures ∙ c.in-None.is))
