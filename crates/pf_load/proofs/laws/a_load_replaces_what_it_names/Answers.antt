use Rattle.pf_load.proofs.Loaded.{loads_exactly}
use Rattle.pf_load.proofs.laws.a_load_replaces_what_it_names.Goals as goal

pub returns : goal.returns
returns c = loads_exactly
