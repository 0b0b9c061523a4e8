use Rattle.std.proofs.Common.{◌<◌, ◌≤◌, ◌∙◌, ℕ, List, length, filter, map, ap, subst, arith}
use Rattle.std.proofs.lemmas.List.{take_all}
use Rattle.std.specs.List.{AllWithin}
use Rattle.pf_trie.specs.declared.rows.Row.{Row}
use Rattle.pf_trie.specs.Rows.{cut_row}
use Rattle.pf_trie.proofs.{ForkSlots.slot_first, RowLists.{begins_so, one_kept}, RowsWithin.{none_before_front, none_after_front}}
use Rattle.pf_trie.proofs.in_order.rows_within.Goals as goal

pub loop-place-init : goal.loop-place-init
loop-place-init c = λ order. c.none-within.ensures
    ∙ none_before_front c.args.at c.args.front c.before-from.result c.args.rows.now c.before-from.ensures.within
    (subst (λ (n : ℕ). AllWithin (λ r. r.first < n) c.args.rows.now 0 c.before-from.result) (slot_first c.args.front c.args.at c.requires.at c.requires.front)
    (c.before-from.ensures.before order))

pub loop-place-preserved : goal.loop-place-preserved
loop-place-preserved c = λ order. c.in_ok-within.ensures
    ∙ one_kept c.args.at c.args.front c.args.rows.now c.loop-place.within c.loop-place.place c.at-row.result c.cut.result (omega arith)
    (c.at-row.ensures c.at-row.result) c.if-row-at.false c.cut.ensures (c.loop-place.invariant order)

pub returns-then-row-at : goal.returns-then-row-at
returns-then-row-at c = λ order.
    let rows = c.args.rows.now in
    c.loop-place.invariant order ∙ ap (λ (xs : List Row). map (cut_row c.args.at) xs)
    (none_after_front c.args.at c.args.front c.before-from.result c.loop-place.place rows c.at-row.result (omega arith) (omega arith)
    (c.at-row.ensures c.at-row.result) c.if-row-at.true
    (subst (λ (n : ℕ). AllWithin (λ r. n ≤ r.first) rows c.before-from.result (length rows))
    (slot_first c.args.front c.args.at c.requires.at c.requires.front) (c.before-from.ensures.beyond order)) order)

pub returns : goal.returns
returns c = λ order.
    c.loop-place.invariant order ∙ ap (λ (xs : List Row). map (cut_row c.args.at) (filter (begins_so c.args.at c.args.front) xs))
    (take_all c.loop-place.place c.args.rows.now (omega arith))
