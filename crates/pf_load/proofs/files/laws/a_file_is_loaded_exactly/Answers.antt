use Rattle.pf_load.proofs.Once.{tables_once}
use Rattle.pf_load.proofs.files.laws.a_file_is_loaded_exactly.Goals as goal

pub returns : goal.returns
returns c =
    λ files interfaces mode base name conf t d e means load.
    c.a_load_replaces_what_it_names.ensures conf t d e (tables_once files interfaces mode base name conf means) load
