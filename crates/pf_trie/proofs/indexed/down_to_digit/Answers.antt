use Rattle.std.proofs.Common.{◌≡◌, ◌+◌, ◌-◌, ◌<◌, ℕ, length, ap, sym, ◌∙◌, subst, arith}
use Rattle.std.specs.List.{AllWithin}
use Rattle.pf_trie.specs.declared.rows.Row.{Row}
use Rattle.pf_trie.specs.Indexes.{digit_at}
use Rattle.pf_trie.proofs.Indexes.{lower_before}
use Rattle.pf_trie.proofs.indexed.down_to_digit.Goals as goal

pub returns-then-digit_of-digit-clause-lower : goal.returns-then-digit_of-digit-clause-lower
returns-then-digit_of-digit-clause-lower c = λ sorted.
    let rows = c.args.rows.now in
    let place : ℕ = c.args.from - c.loop-above.above - 1 in
    let inside : place < length rows = omega arith in
    let back : place + 1 ≡ c.args.from - c.loop-above.above = omega arith in
    subst (λ (n : ℕ). AllWithin (λ r. digit_at c.args.shift r.first < c.args.digit) rows 0 n) back
    (lower_before c.args.shift c.args.digit place c.digit_of.result rows c.at.result sorted inside
    (c.digit_of.ensures.value ∙ ap (λ (r : Row). digit_at c.args.shift r.first) (sym (c.at.ensures c.at.result))) (omega arith))
