use Rattle.std.proofs.Common.{◌≡◌, ◌-◌, ◌/◌, ◌^◌, ◌<◌, ℕ, length, get_or, nat_eq, true, sym, ap, subst, arith}
use Rattle.std.proofs.lemmas.Bool.Decides.{nat_tests}
use Rattle.pf_trie.specs.declared.rows.Row.{Row}
use Rattle.pf_trie.proofs.Indexes.{ends_alike}
use Rattle.pf_trie.proofs.indexed.begin_alike.Goals as goal

same_of : (a b : ℕ) → nat_eq a b ≡ true → a ≡ b
same_of a b t = grind (arith, nat_tests)

pub returns-then-first-shift : goal.returns-then-first-shift
returns-then-first-shift c = λ is.
    let rows = c.args.rows.now in
    let count = c.len-count.ensures in
    let some : 0 < length rows = let filled = c.if-count-eq0.false in omega (arith, count, filled) in
    let last = subst (λ (n : ℕ). c.at-last.result.first ≡ (get_or rows (n - 1) c.at-last.result).first) count
    (ap (λ (r : Row). r.first) (sym (c.at-last.ensures c.at-last.result))) in
    ends_alike c.args.shift c.args.front c.at-first.result.first c.at-last.result.first rows c.at-first.result c.at-last.result some
    (ap (λ (r : Row). r.first) (sym (c.at-first.ensures c.at-first.result))) last c.if-first-shift.true
    (same_of (c.at-last.result.first / 2 ^ c.args.shift / 32) c.args.front is)
