use Rattle.std.proofs.Common.{◌≡◌, ◌+◌, ◌*◌, ◌/◌, ◌%◌, ◌^◌, ℕ, List, ap, sym, ◌∙◌, subst}
use Rattle.std.proofs.lemmas.Nat.{shl-shr}
use Rattle.pf_trie.specs.declared.rows.Row.{Row}
use Rattle.pf_trie.specs.{Rows.AreRows, Agreeing.of_slot}
use Rattle.pf_trie.proofs.ForkSlots.{slot_first, slot_made, rows_cut}
use Rattle.pf_trie.proofs.slot.Slot.of.Goals as goal

pub returns : goal.returns
returns g c = λ s are.
    let at = c.args.at in
    let n = c.args.front in
    let first = n * 2 ^ at % 2 ^ 128 in
    let own : first / 2 ^ at ≡ n = ap (λ (m : ℕ). m / 2 ^ at) (slot_first n at c.requires.at c.requires.front) ∙ shl-shr n at in
    let all = c.signs_at.ensures s (at + 4) (n / 16) are (of_slot at first ∙ ap (λ (m : ℕ). m / 16) own) in
    let rows = subst (λ (v : List Row). AreRows s at n v) (sym (c.in_ok-within.ensures are.order)) (rows_cut s at n c.args.rows.now are) in
    let below = subst (λ (m : ℕ). g.T.Level.holds s at m c.in_ok-of_rows.field-0) own
    (c.in_ok-of_rows.ensures s (subst (λ (m : ℕ). AreRows s at m c.in_ok-within.within) (sym own) rows)) in
    slot_made s at n c.args.rows.now are g.T.Level.holds first c.signs_at.result c.from.result c.in_ok-of_rows.field-0 own all c.from.ensures below
