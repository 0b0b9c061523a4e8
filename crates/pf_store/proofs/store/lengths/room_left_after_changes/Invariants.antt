use Rattle.std.proofs.Common.{◌≡◌, ◌+◌, drop, map}
use Rattle.pf_store.specs.{Groups.made_all, Lengths.{recorded_length, total}}
use Rattle.pf_store.proofs.store.lengths.room_left_after_changes.Given as goal

-- the rest is still to be taken off what is left
abbrev pub invariant-loop-change : goal.invariant-loop-change
invariant-loop-change g l =
    l.room + total recorded_length (made_all (map g.C.AsChange.as_plain (drop l.change-index l.changes))) ≡ total recorded_length (made_all (map g.C.AsChange.as_plain l.changes)) + l.left
