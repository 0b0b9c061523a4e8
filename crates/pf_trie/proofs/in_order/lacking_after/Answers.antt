use Rattle.std.proofs.Common.{◌≡◌, ◌<◌, ◌≤◌, ◌-◌, ◌∷◌, ◌++◌, [], ℕ, List, get_or, sym, ap, ◌∙◌, subst, arith}
use Rattle.std.proofs.lemmas.{Option.IfSome_then, List.Edits.insert_end}
use Rattle.std.specs.List.{insert}
use Rattle.pf_trie.specs.declared.rows.Row.{Row}
use Rattle.pf_trie.specs.Rows.{AreRowsWith}
use Rattle.pf_trie.proofs.LastRow.{all_up_to}
use Rattle.pf_trie.proofs.in_order.lacking_after.Goals.{else-count-gt0-via-then-count-gt0+else-at-address, else-count-gt0-via-else-count-gt0}
use Rattle.pf_trie.proofs.in_order.lacking_after.Goals as goal

pub returns-clause-lacks : goal.returns-clause-lacks
returns-clause-lacks c = IfSome_then c.lacking.result c.lacking.ensures.lacks (λ row lacks s top front are in_front.
    let rows = c.args.rows.now in
    let count = c.len-count.result in
    let last : (d : Row) → 0 < count → (get_or rows (count - 1) d).first ≤ c.args.address = λ d some. elim c.else-count-gt0.branch [
      | else-count-gt0-via-then-count-gt0+else-at-address w ↦
          subst (λ (r : Row). r.first ≤ c.args.address) (sym (w.at.ensures d)) w.if-at-address.false
      | else-count-gt0-via-else-count-gt0 w ↦ absurd (omega (arith, some, w.if-count-gt0.false))
    ] in
    let end : insert rows count row ≡ rows ++ row ∷ [] = ap (λ (n : ℕ). insert rows n row) c.len-count.ensures ∙ insert_end rows row in
    subst (λ (v : List Row). AreRowsWith s top front c.args.address v) end
    (lacks s top front (all_up_to rows c.args.address count c.len-count.ensures last) are in_front))
