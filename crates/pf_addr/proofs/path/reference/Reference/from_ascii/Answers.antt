use Rattle.std.proofs.Common.{sym, ◌∙◌}
use Rattle.pf_addr.proofs.ReferencesRead.{split_is_reference}
use Rattle.pf_addr.proofs.path.reference.Reference.from_ascii.Goals as goal

pub holding-requires : goal.holding-requires
holding-requires c = rw (c.split-wildcard.ensures.names, c.split-wildcard.ensures.wildcard) (split_is_reference c.unquoted-text.result.now (rw c.split-wildcard.ensures.names at (sym c.fault_in.ensures ∙ c.in-None.is)))
