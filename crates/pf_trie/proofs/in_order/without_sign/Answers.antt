use Rattle.std.proofs.Common.{None, ℕ, subst}
use Rattle.pf_trie.specs.{Prefixes.with_sign, Rows.IsUpTo}
use Rattle.pf_trie.proofs.RowLists.{marked_rows}
use Rattle.pf_trie.proofs.in_order.without_sign.Goals as goal

pub returns : goal.returns
returns c = λ s top front are less in_front.
    let p = c.args.prefix in
    let up = subst (λ (a : ℕ). IsUpTo c.args.rows a c.up_to-count.result) c.first-first.ensures c.up_to-count.ensures in
    c.clear.ensures (with_sign s p None) top front
    (marked_rows s p None top less front c.args.rows c.in_ok-marked.marked (c.in_ok-marked.ensures.marks up are.order) are (λ x is. absurd (cc)))
