use Rattle.std.proofs.Common.{◌≡◌, ◌+◌, ◌-◌, ◌*◌, ◌/◌, ◌^◌, ◌<◌, ℕ, List, ap, sym, subst, arith, rules}
use Rattle.pf_trie.specs.declared.{signs.Signs.{Signs}}
use Rattle.pf_trie.specs.{Rows.AreRows, Forks.IsSlot}
use Rattle.pf_trie.proofs.ForkSlots.{MadeSlots, one_made, all_made, front_fits}
use Rattle.pf_trie.proofs.fork.slots_of.Goals as goal

pub of-requires-clause-front : goal.of-requires-clause-front
of-requires-clause-front g c =
    subst (λ (n : ℕ). n + c.loop-place.place < 2 ^ (128 - c.args.at)) (sym c.fronts_of-first.ensures)
    (front_fits c.args.address c.args.at c.loop-place.place (search rules) (omega arith) (omega arith))

pub loop-place-preserved : goal.loop-place-preserved
loop-place-preserved g c =
    let front = c.args.address / 2 ^ c.args.at / 16 in
    let place = c.loop-place.place in
    let own : c.fronts_of-first.result + place ≡ front * 16 + place = ap (λ (n : ℕ). n + place) c.fronts_of-first.ensures in
    let above : (c.fronts_of-first.result + place) / 16 ≡ front = omega (arith, own) in
    subst (λ (v : List (Signs × g.row.T.Denot)). MadeSlots g.T.Level.holds c.args.at front c.args.rows.now v (place + 1)) (sym c.in_ok-push.ensures.items)
    (one_made g.T.Level.holds c.args.at front c.args.rows.now c.loop-place.slots.items place c.in_ok-of.field-0 c.loop-place.invariant (λ s are.
    subst (λ (n : ℕ). IsSlot g.T.Level.holds s c.args.at n c.in_ok-of.field-0) own
    (c.in_ok-of.ensures s (subst (λ (n : ℕ). AreRows s (c.args.at + 4) n c.args.rows.now) (sym above) are))))

pub returns-clause-slots : goal.returns-clause-slots
returns-clause-slots g c =
    all_made g.T.Level.holds c.args.at (c.args.address / 2 ^ c.args.at / 16) c.args.rows.now c.loop-place.slots.items c.loop-place.place c.loop-place.invariant
    (omega arith)
