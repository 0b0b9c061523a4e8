use Rattle.pf_load.proofs.Pieces.{nothing_is_lost}
use Rattle.pf_load.proofs.files.laws.no_byte_is_lost.Goals as goal

pub returns : goal.returns
returns c = nothing_is_lost
