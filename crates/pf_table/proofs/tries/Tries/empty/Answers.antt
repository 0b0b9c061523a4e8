use Rattle.std.proofs.Common.{[]}
use Rattle.pf_addr.specs.declared.addr.Family.{TheVariants.V4, TheVariants.V6}
use Rattle.pf_table.specs.Indexed.{signs}
use Rattle.pf_table.proofs.TrieSigns.{no_signs}
use Rattle.pf_table.proofs.tries.Tries.empty.Goals as goal

pub returns : goal.returns
returns g c = record { v4 = c.empty.ensures (signs [] V4) (no_signs V4); v6 = c.empty-2.ensures (signs [] V6) (no_signs V6) }
