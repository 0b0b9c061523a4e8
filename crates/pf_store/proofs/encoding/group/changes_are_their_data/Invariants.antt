use Rattle.std.proofs.Common.{◌≡◌, map, take}
use Rattle.pf_store.specs.Groups.{made_all, plain_record, record_in}
use Rattle.pf_store.proofs.encoding.group.changes_are_their_data.Given as goal

abbrev pub invariant-loop-change : goal.invariant-loop-change
invariant-loop-change g l =
    map record_in (map plain_record (made_all (map g.C.AsChange.as_plain (take l.change-index l.changes)))) ≡ made_all (map g.C.AsChange.as_plain (take l.change-index l.changes))
