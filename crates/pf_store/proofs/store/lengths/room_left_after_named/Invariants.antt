use Rattle.std.proofs.Common.{◌≡◌, ◌+◌}
use Rattle.pf_store.specs.Lengths.{named_length, total}
use Rattle.pf_store.proofs.store.lengths.room_left_after_named.Given as goal

-- the rest is still to be taken off what is left
abbrev pub invariant-loop-table : goal.invariant-loop-table
invariant-loop-table l = l.room + total named_length l.table-iterator ≡ total named_length l.tables + l.left
