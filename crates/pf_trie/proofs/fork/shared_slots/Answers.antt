use Rattle.std.proofs.Common.{◌+◌, List, take, sym, subst, arith}
use Rattle.pf_trie.specs.declared.signs.Signs.{Signs}
use Rattle.pf_trie.specs.Forks.{SameSlot, SameFork}
use Rattle.pf_trie.proofs.ForkSlots.{one_shared}
use Rattle.pf_trie.proofs.fork.shared_slots.Goals as goal

pub loop-slot-preserved : goal.loop-slot-preserved
loop-slot-preserved g c =
    let done = c.loop-slot.slot-index in
    subst (λ (v : List (Signs × g.row.T.Denot)). SameFork g.T.Level.holds (take (done + 1) c.args.slots.now) v) (sym c.in_ok-push.ensures.items)
    (one_shared g.T.Level.holds c.args.slots.now c.loop-slot.shared.items done c.slot-item.result c.in_ok-shared-2.field-0 (omega arith) c.loop-slot.invariant
    (subst (λ (x : Signs × g.row.T.Denot). SameSlot g.T.Level.holds x c.in_ok-shared-2.field-0) c.slot-item.is c.in_ok-shared-2.ensures))
