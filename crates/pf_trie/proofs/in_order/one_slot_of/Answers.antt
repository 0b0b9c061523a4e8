use Rattle.std.proofs.Common.{◌≡◌, ◌-◌, ◌<◌, ℕ, length, get_or, false, subst, arith, rules}
use Rattle.std.specs.Option.{is_some}
use Rattle.pf_trie.specs.declared.rows.Row.{Row}
use Rattle.pf_trie.proofs.OneSlot.{ends_in_slot}
use Rattle.pf_trie.proofs.in_order.one_slot_of.Goals as goal

pub returns : goal.returns
returns c =
    let rows = c.args.rows.now in
    let count = c.len-count.ensures in
    let some : 0 < length rows = let filled = c.if-count-eq0.false in omega (arith, count, filled) in
    let none : is_some c.longest.result ≡ false = search rules in
    ends_in_slot c.args.at rows c.at-row.result c.at-last.result c.from.result c.longest.result some c.at-row.ensures
    (subst (λ (n : ℕ). (d : Row) → get_or rows (n - 1) d ≡ c.at-last.result) count c.at-last.ensures) c.if-last-at.false c.from.ensures c.longest.ensures none
