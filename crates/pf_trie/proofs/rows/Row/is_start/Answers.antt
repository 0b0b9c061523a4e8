use Rattle.std.proofs.Common.{◌≡◌, ◌≢◌, ◌==◌, ℕ, ◌∙◌, sym, ap, Some, false, arith}
use Rattle.std.proofs.lemmas.Bool.Decides.{nat_tests}
use Rattle.pf_trie.specs.Agreeing.{cut_off}
use Rattle.pf_trie.proofs.RowLists.{no_start}
use Rattle.pf_trie.proofs.rows.Row.is_start.Goals as goal

unequal : (a b : ℕ) → (a == b) ≡ false → a ≢ b
unequal a b t = λ e. grind (arith, nat_tests)

pub returns-in-Some : goal.returns-in-Some
returns-in-Some c = λ differs. no_start c.args.self (Some c.in-Some.found) c.in-Some.ensures
    (λ f same. let own : f.free ≡ c.in-Some.found.free = cc in
    λ at. unequal c.first.result c.args.self.first differs (c.first.ensures ∙ ap (λ (k : ℕ). cut_off k c.args.self.first) (sym own) ∙ at))
