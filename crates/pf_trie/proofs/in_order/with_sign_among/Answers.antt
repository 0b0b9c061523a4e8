use Rattle.std.proofs.Common.{◌≡◌, ◌/◌, ◌^◌, ℕ, ap, ◌∙◌, subst, Some, arith}
use Rattle.std.proofs.lemmas.Result.{IfOk-weaker}
use Rattle.std.specs.List.{Any}
use Rattle.pf_trie.specs.Rows.{AreRowsWith, IsAt, IsUpTo}
use Rattle.pf_trie.proofs.RowLists.{marked_rows, first_in_front}
use Rattle.pf_trie.proofs.in_order.with_sign_among.Goals as goal

pub returns : goal.returns
returns c = IfOk-weaker c.mark.result _ _ (λ v marks s top front are less in_front.
    let p = c.args.prefix in
    let made = c.in_ok-rows.rows in
    let starts : c.first-first.result / 2 ^ top ≡ front =
    ap (λ (a : ℕ). a / 2 ^ top) c.first-first.ensures ∙ first_in_front p.address p.free top (omega (arith, less)) ∙ in_front in
    let rows : AreRowsWith s top front c.first-first.result made = c.in_ok-rows.ensures s top front are starts in
    let up = subst (λ (a : ℕ). IsUpTo made a c.up_to-count.result) c.first-first.ensures c.up_to-count.ensures in
    marked_rows s p (Some c.args.sign) top less front made v (marks up rows.are.order) rows.are
    (λ x _. subst (λ (a : ℕ). Any (IsAt a) made) c.first-first.ensures rows.there)) c.mark.ensures.marks
