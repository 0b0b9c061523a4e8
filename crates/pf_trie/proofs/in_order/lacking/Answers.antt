use Rattle.std.proofs.Common.{◌≡◌, ◌≢◌, ◌<◌, ◌-◌, get_or, sym, ap, ◌∙◌, subst, arith}
use Rattle.pf_trie.specs.declared.rows.Row.{Row}
use Rattle.pf_trie.proofs.RowLists.{row_there, row_added, not_at}
use Rattle.pf_trie.proofs.in_order.lacking.Goals.{else-place-gt0-via-then-place-gt0+else-at-address, else-place-gt0-via-else-place-gt0}
use Rattle.pf_trie.proofs.in_order.lacking.Goals as goal

pub returns-then-at-address-clause-has : goal.returns-then-at-address-clause-has
returns-then-at-address-clause-has c = λ s top front up are.
    row_there s top front c.args.address c.args.place c.args.rows.now c.at.result are up (omega arith)
    (subst (λ (r : Row). r.first ≡ c.args.address) (sym (c.at.ensures c.at.result)) c.if-at-address.true)

pub returns-clause-lacks : goal.returns-clause-lacks
returns-clause-lacks c = λ s top front up are in_front.
    let place = c.args.place in
    let rows = c.args.rows.now in
    let apart : (d : Row) → 0 < place → (get_or rows (place - 1) d).first ≢ c.args.address = λ d some. elim c.else-place-gt0.branch [
      | else-place-gt0-via-then-place-gt0+else-at-address w ↦ not_at rows place c.args.address w.at.result d up some
          (λ e. w.if-at-address.false (ap (λ (r : Row). r.first) (sym (w.at.ensures w.at.result)) ∙ e))
      | else-place-gt0-via-else-place-gt0 w ↦ absurd (omega (arith, some, w.if-place-gt0.false))
    ] in
    row_added s top front c.args.address place rows c.signs_by.result are in_front up (c.signs_by.ensures s top front up are in_front) apart
