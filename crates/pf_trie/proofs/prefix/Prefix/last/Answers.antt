use Rattle.std.proofs.Common.{◌≡◌, ℕ, ◌+◌, ◌-◌, ◌*◌, ◌%◌, ◌^◌, ◌<◌, sym, subst, arith, rules}
use Rattle.std.proofs.lemmas.Nat.{one_shl}
use Rattle.pf_trie.specs.Prefixes.{first_of}
use Rattle.pf_trie.proofs.RowLists.{last_fits}
use Rattle.pf_trie.proofs.prefix.Prefix.last.Goals as goal

pub overflow_add-result : goal.overflow_add-result
overflow_add-result c =
    let p = c.args.self in
    let same : c.first.result + (1 * 2 ^ p.free % 2 ^ 128 - 1) ≡ first_of p + (2 ^ p.free - 1) = λ i. c.first.ensures i + (one_shl p.free 128 c.requires i - 1) in
    let less : c.first.result + (1 * 2 ^ p.free % 2 ^ 128 - 1) < 2 ^ 128 =
    subst (λ (n : ℕ). n < 2 ^ 128) (sym same) (last_fits p.address p.free (search rules) c.requires) in
    omega (arith, less)

pub returns : goal.returns
returns c = λ i. c.first.ensures i + (one_shl c.args.self.free 128 c.requires i - 1)
