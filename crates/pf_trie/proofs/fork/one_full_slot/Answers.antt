use Rattle.std.proofs.Common.{◌/◌, ◌^◌, sym, subst}
use Rattle.pf_trie.proofs.OneSlot.{one_full, rows_of_slot}
use Rattle.pf_trie.proofs.fork.one_full_slot.Goals as goal

pub returns-clause-slots : goal.returns-clause-slots
returns-clause-slots g c = λ s front are.
    let at = c.args.at in
    let n = c.args.address / 2 ^ at in
    let rows = rows_of_slot s at n front c.args.rows c.requires.alike are in
    one_full s at n front c.args.rows c.requires.alike are g.T.Level.holds c.in_ok-slots.slots.items c.place_of.result c.over.result c.in_ok-slots.ensures.count
    c.in_ok-slots.ensures.empty c.place_of.ensures.value c.over.ensures.wide
    (subst (λ (l : g.row.T.Denot). g.T.Level.holds s at n l) (sym c.over.ensures.below) (c.in_ok-below.ensures s rows))
