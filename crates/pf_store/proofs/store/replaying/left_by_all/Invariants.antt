use Rattle.std.proofs.Common.{◌≡◌, take}
use Rattle.pf_store.specs.Stores.{FollowInTurn, left_by_all}
use Rattle.pf_store.proofs.store.replaying.left_by_all.Given as goal

abbrev pub invariant-loop-next : goal.invariant-loop-next
invariant-loop-next l = FollowInTurn l.fn.durable (take l.next-index l.records) × (l.left ≡ left_by_all l.fn.durable (take l.next-index l.records))
