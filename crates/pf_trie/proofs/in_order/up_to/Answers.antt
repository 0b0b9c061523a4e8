use Rattle.std.proofs.Common.{ℕ, ◌≤◌, ◌<◌, ◌-◌, get_or, sym, subst, arith}
use Rattle.pf_trie.specs.declared.rows.Row.{Row}
use Rattle.pf_trie.specs.Rows.{IsBetween}
use Rattle.pf_trie.proofs.{RowLists.whole_between, LastRow.all_up_to}
use Rattle.pf_trie.proofs.in_order.up_to.Goals.{then-count-eq0-via-then-count-eq0, then-count-eq0-via-else-count-eq0+then-at-address}
use Rattle.pf_trie.proofs.in_order.up_to.Goals as goal

pub returns-then-count-eq0 : goal.returns-then-count-eq0
returns-then-count-eq0 c =
    let rows = c.args.rows.now in
    let count = c.len-count.result in
    let last : (d : Row) → 0 < count → (get_or rows (count - 1) d).first ≤ c.args.address = λ d some. elim c.then-count-eq0.branch [
      | then-count-eq0-via-then-count-eq0 w ↦ absurd (omega (arith, some, w.if-count-eq0.true))
      | then-count-eq0-via-else-count-eq0+then-at-address w ↦ subst (λ (r : Row). r.first ≤ c.args.address) (sym (w.at.ensures d)) w.if-at-address.true
    ] in
    all_up_to rows c.args.address count c.len-count.ensures last

pub returns : goal.returns
returns c = c.up_to_between.ensures.place
    (subst (λ (n : ℕ). IsBetween c.args.rows.now c.args.address 0 n) (sym c.len-count.ensures) (whole_between c.args.rows.now c.args.address))
