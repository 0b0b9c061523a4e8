use Rattle.std.proofs.Common.{◌≡◌, ◌/◌, ◌^◌, sym, subst}
use Rattle.std.proofs.lemmas.Result.{IfOk-weaker}
use Rattle.pf_trie.specs.declared.signs.Signs.{Signs}
use Rattle.pf_trie.specs.Forks.{IsSlot}
use Rattle.pf_trie.proofs.ForkSlots.{taken, slot_put}
use Rattle.pf_trie.proofs.fork.replace_in_slots.Goals as goal

pub returns-clause-slots : goal.returns-clause-slots
returns-clause-slots g c = IfOk-weaker c.replace.result _ _ (λ _ kept s is.
    let p = c.args.prefix in
    let at = c.args.at in
    let place = c.place_of-place.result in
    let slots = c.args.slots.now.items in
    let old = subst (λ (x : Signs × g.row.T.Denot). IsSlot g.T.Level.holds s at (p.address / 2 ^ at) x) (sym c.index_mut.ensures.value)
    (taken g.T.Level.holds g.T.Level.agrees s p c.args.sign at place slots c.requires.count c.requires.free c.place_of-place.ensures.value is
    c.index_mut.result.now) in
    slot_put g.T.Level.holds g.T.Level.agrees s p c.args.sign at place slots c.requires.count c.requires.free c.place_of-place.ensures.value is
    c.replace.new.self (kept s c.requires.free old)) c.replace.ensures
