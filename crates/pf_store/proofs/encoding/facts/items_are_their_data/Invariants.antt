use Rattle.std.proofs.Common.{◌≡◌, map, take}
use Rattle.pf_store.specs.Groups.{plain_item, item_in}
use Rattle.pf_store.proofs.encoding.facts.items_are_their_data.Given as goal

abbrev pub invariant-loop-item : goal.invariant-loop-item
invariant-loop-item l = map item_in (map plain_item (take l.item-index l.items)) ≡ take l.item-index l.items
