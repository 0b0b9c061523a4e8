use Rattle.pf_load.proofs.Loads.{more_loads, no_load_waits}
use Rattle.pf_load.proofs.files.laws.all_loads_are_read.Goals as goal

pub returns : goal.returns
returns c = record { more = more_loads; none = no_load_waits }
