use Rattle.pf_store.proofs.RoomForGroups.{group-fits}
use Rattle.pf_store.proofs.store.laws.group_fits_where_its_record_does.Goals as goal

pub returns : goal.returns
returns c size before next es = group-fits size before next es
