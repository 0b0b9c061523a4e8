use Rattle.std.proofs.Common.{◌≡◌, ◌+◌, drop}
use Rattle.pf_store.specs.Lengths.{item_length, total}
use Rattle.pf_store.proofs.store.lengths.room_left_after_items.Given as goal

-- the rest is still to be taken off what is left
abbrev pub invariant-loop-item : goal.invariant-loop-item
invariant-loop-item l = l.room + total item_length (drop l.item-index l.items) ≡ total item_length l.items + l.left
