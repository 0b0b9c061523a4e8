use Rattle.pf_load.proofs.Once.{room_for_all}
use Rattle.pf_load.proofs.files.laws.one_commit_has_room.Goals as goal

pub returns : goal.returns
returns c = room_for_all
