use Rattle.std.proofs.Common.{◌≡◌, ◌+◌, ◌*◌, ◌/◌, ◌^◌, ℕ, ap, sym, subst, arith}
use Rattle.pf_trie.specs.declared.signs.Signs.{Signs}
use Rattle.pf_trie.specs.{Prefixes.with_sign, Forks.IsSlot}
use Rattle.pf_trie.proofs.ForkSlots.{one_slot_marked, all_slots_marked}
use Rattle.pf_trie.proofs.fork.mark_slots.Goals as goal

pub loop-place-preserved : goal.loop-place-preserved
loop-place-preserved g c =
    let at = c.args.at in
    let front = c.args.prefix.address / 2 ^ at / 16 in
    let place = c.loop-place.place in
    let own : c.fronts_of-first.result + place ≡ front * 16 + place = ap (λ (n : ℕ). n + place) c.fronts_of-first.ensures in
    one_slot_marked g.T.Level.holds c.args.prefix c.args.sign at front c.args.slots.now.items c.loop-place.slots.items place c.mark.new.self
    c.loop-place.invariant (omega arith) (λ s lt is.
    subst (λ (n : ℕ). IsSlot g.T.Level.holds (with_sign s c.args.prefix c.args.sign) at n c.mark.new.self) own (c.mark.ensures s lt
    (subst (λ (n : ℕ). IsSlot g.T.Level.holds s at n c.index_mut.result.now) (sym own)
    (subst (λ (x : Signs × g.row.T.Denot). IsSlot g.T.Level.holds s at (front * 16 + place) x) (sym c.index_mut.ensures.value)
    (c.loop-place.invariant.rest s is place c.index_mut.result.now (omega arith) (omega arith))))))

pub returns-clause-slots : goal.returns-clause-slots
returns-clause-slots g c = λ s lt is.
    all_slots_marked g.T.Level.holds c.args.prefix c.args.sign c.args.at (c.args.prefix.address / 2 ^ c.args.at / 16) c.args.slots.now.items
    c.loop-place.slots.items c.loop-place.place c.loop-place.invariant (omega arith) s lt is
