-- What a peer's message means for the states here: a step for each record. The messages are those of pf_state::peer, after pfsync(4).
use Rattle.std.specs.{Prelude.{ℕ, List, map}, List.flat_map}
use Rattle.pf_state.specs.{declared.{peer.message.Group.Group, peer.message.Group.TheVariants.Inserts, peer.message.Group.TheVariants.Deletes, peer.message.Group.TheVariants.Clears, peer.message.Message.Message, step.StateStep.StateStep, step.StateStep.TheVariants.Insert, step.StateStep.TheVariants.Delete, step.StateStep.TheVariants.Clear}, Peer.Records.{PlainInsert, inserted_flow}, Bindings.bound, States.PlainState}
use Rattle.pf_state.specs.declared.{peer.record.Clear.Clear as ClearRecord, peer.record.Delete.Delete as DeleteRecord}

-- The state of an insert in a message with this checksum, bound by the checksum of the main rules here and by how many there are. It has no
-- expiry.
abbrev pub inserted_state : List ℕ → List ℕ → ℕ → PlainInsert → PlainState
inserted_state sum current count i = (
  record { id = i.id; creator = i.creator },
  record { generation = i.generation; flow = inserted_flow i; bound = bound sum i.rule i.anchor current count; expiry = 0 },
)

abbrev pub insert_step : List ℕ → List ℕ → ℕ → PlainInsert → StateStep
insert_step sum current count i = Insert (inserted_state sum current count i)

abbrev pub delete_step : DeleteRecord → StateStep
delete_step d = Delete (record { id = d.id; creator = d.creator })

abbrev pub clear_step : ClearRecord → StateStep
clear_step c = Clear c.creator

-- for a group a step for each record, in order
abbrev pub group_steps : List ℕ → List ℕ → ℕ → Group → List StateStep
group_steps sum current count (Inserts xs) = map (insert_step sum current count) xs
group_steps sum current count (Deletes xs) = map delete_step xs
group_steps sum current count (Clears xs) = map clear_step xs

-- for a message those of its groups, in order
abbrev pub steps_of : Message → List ℕ → ℕ → List StateStep
steps_of m current count = flat_map (group_steps m.checksum current count) m.groups
