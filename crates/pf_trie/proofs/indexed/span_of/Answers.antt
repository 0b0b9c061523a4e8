use Rattle.std.proofs.Common.{◌≡◌, ◌-◌, ◌<◌, ℕ, length, get_or, sym, ap, subst, arith}
use Rattle.pf_trie.specs.declared.rows.Row.{Row}
use Rattle.pf_trie.proofs.Indexes.{rows_alike}
use Rattle.pf_trie.proofs.indexed.span_of.Goals as goal

pub returns-clause-alike : goal.returns-clause-alike
returns-clause-alike c =
    let rows = c.args.rows.now in
    let count = c.len-count.ensures in
    let some : 0 < length rows = let filled = c.if-count-eq0.false in omega (arith, count, filled) in
    let shift = c.saturating_sub-shift.ensures in
    let last = subst (λ (n : ℕ). c.at-last.result.first ≡ (get_or rows (n - 1) c.at-last.result).first) count
    (ap (λ (r : Row). r.first) (sym (c.at-last.ensures c.at-last.result))) in
    rows_alike c.saturating_sub-shift.result c.apart.result c.at-first.result.first c.at-last.result.first rows c.at-first.result c.at-last.result some
    (ap (λ (r : Row). r.first) (sym (c.at-first.ensures c.at-first.result))) last c.apart.ensures (omega (arith, shift))
