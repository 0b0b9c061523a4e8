use Rattle.std.proofs.Common.{[]}
use Rattle.pf_addr.specs.declared.addr.Family.{TheVariants.V4, TheVariants.V6}
use Rattle.pf_table.specs.Indexed.{signs}
use Rattle.pf_table.proofs.TrieSigns.{no_signs}
use Rattle.pf_table.proofs.drafts.Drafts.none.Goals as goal

pub returns : goal.returns
returns c = record { v4 = c.none.ensures (signs [] V4) (no_signs V4); v6 = c.none-2.ensures (signs [] V6) (no_signs V6) }
