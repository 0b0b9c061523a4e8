use Rattle.pf_state.proofs.Appended.{few_inserts, few_deletes, few_clears}
use Rattle.pf_state.proofs.peer.writing.push_group.Goals as goal

pub push_records-requires : goal.push_records-requires
push_records-requires c = rw c.as_slice.ensures (few_inserts c.args.group.now c.in-Inserts.inserts c.in-Inserts.is c.requires)

pub push_records-requires-in-Deletes : goal.push_records-requires-in-Deletes
push_records-requires-in-Deletes c = rw c.as_slice-in-Deletes.ensures (few_deletes c.args.group.now c.in-Deletes.deletes c.in-Deletes.is c.requires)

pub push_records-requires-in-Clears : goal.push_records-requires-in-Clears
push_records-requires-in-Clears c = rw c.as_slice-in-Clears.ensures (few_clears c.args.group.now c.in-Clears.clears c.in-Clears.is c.requires)
