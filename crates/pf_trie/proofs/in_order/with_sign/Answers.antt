use Rattle.std.proofs.Common.{◌≡◌, ◌/◌, ◌^◌, ℕ, [], ◌∷◌, ◌++◌, ap, sym, ◌∙◌, subst, Some, arith}
use Rattle.std.proofs.lemmas.Result.{IfOk-weaker}
use Rattle.std.specs.List.{Any}
use Rattle.pf_trie.specs.{Prefixes.with_sign, Rows.{AreRows, AreRowsWith, IsAt}}
use Rattle.pf_trie.proofs.{RowLists.{marked_rows, first_in_front}, LastRow.last_marked}
use Rattle.pf_trie.proofs.in_order.with_sign.Goals as goal

pub returns-in-Some : goal.returns-in-Some
returns-in-Some c = IfOk-weaker c.push.result _ _ (λ v same s top front are less in_front.
    let p = c.args.prefix in
    let rows = c.args.rows in
    let row = c.in-Some.row in
    let starts : c.first.result / 2 ^ top ≡ front =
    ap (λ (a : ℕ). a / 2 ^ top) c.first.ensures ∙ first_in_front p.address p.free top (omega (arith, less)) ∙ in_front in
    let made : AreRowsWith s top front c.first.result (rows ++ row ∷ []) = c.in-Some.ensures.lacks s top front are starts in
    let marks = last_marked p (Some c.args.sign) rows row c.marked.result (c.in-Some.ensures.address ∙ c.first.ensures) made.are.order c.marked.ensures in
    subst (AreRows (with_sign s p (Some c.args.sign)) top front) (sym same)
    (marked_rows s p (Some c.args.sign) top less front (rows ++ row ∷ []) (rows ++ c.marked.result ∷ []) marks made.are
    (λ x _. subst (λ (a : ℕ). Any (IsAt a) (rows ++ row ∷ [])) c.first.ensures made.there))) c.push.ensures
