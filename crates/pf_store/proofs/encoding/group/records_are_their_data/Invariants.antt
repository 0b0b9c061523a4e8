use Rattle.std.proofs.Common.{◌≡◌, map, take}
use Rattle.pf_store.specs.Groups.{plain_record, record_in}
use Rattle.pf_store.proofs.encoding.group.records_are_their_data.Given as goal

abbrev pub invariant-loop-recorded : goal.invariant-loop-recorded
invariant-loop-recorded l = map record_in (map plain_record (take l.recorded-index l.records)) ≡ take l.recorded-index l.records
