use Rattle.std.proofs.Common.{◌≡◌, ◌/◌, ◌^◌, ℕ, Option, Bool, ap, sym, ◌∙◌, subst, arith}
use Rattle.std.proofs.lemmas.Result.{IfOk-weaker}
use Rattle.pf_trie.specs.{Prefixes.with_sign, Rows.{AreRows, AreRowsWith}}
use Rattle.pf_trie.proofs.RowLists.{first_in_front}
use Rattle.pf_trie.proofs.indexed.Indexed.edited.Goals as goal

pub returns-in_ok-with_row-in-Some : goal.returns-in_ok-with_row-in-Some
returns-in_ok-with_row-in-Some c = IfOk-weaker c.marked.result _ _ (λ v marks s top front are less in_front.
    let p = c.args.prefix in
    let starts : c.first.result / 2 ^ top ≡ front =
    ap (λ (a : ℕ). a / 2 ^ top) c.first.ensures ∙ first_in_front p.address p.free top (omega (arith, less)) ∙ in_front in
    let there = subst (λ (a : ℕ). AreRowsWith s top front a c.in_ok-with_row-in-Some.with_row) c.first.ensures
    (c.in_ok-with_row-in-Some.ensures s top front are starts) in
    subst (λ (sign : Option Bool). AreRows (with_sign s p sign) top front v) (sym c.in-Some.is) (marks s top front there less)) c.marked.ensures

pub returns-in-None : goal.returns-in-None
returns-in-None c = rw c.in-None.is c.cleared.ensures
