-- A call as it is kept.
use Rattle.pf_disk.specs.declared.{call.Call.Call, call.Call.TheVariants.{Read, Write, Sync}}
use Rattle.pf_disk.specs.Calls.{Event, reading, writing, syncing}

abbrev pub event_of : Call → Event
event_of Read = reading
event_of (Write at bytes) = writing at bytes.items
event_of Sync = syncing
