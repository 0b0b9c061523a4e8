use Rattle.pf_store.proofs.RoomForGroups.{finds_room}
use Rattle.pf_store.proofs.store.laws.what_can_be_wanted_has_bytes.Goals as goal

pub returns : goal.returns
returns c size before next es small group can room = finds_room size before next es small group can room
