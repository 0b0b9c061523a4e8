use Rattle.std.proofs.Common.{◌+◌, ◌-◌, ◌^◌, ◌<◌, ◌≤◌, ℕ, List, sym, subst, arith}
use Rattle.pf_trie.specs.declared.rows.Row.{Row}
use Rattle.pf_trie.specs.Prefixes.{first_of}
use Rattle.pf_trie.proofs.{Marks.{MarkedTo, none_yet, one_further, marked_to_end, marked_to_last}, IndexEdits.marked_addresses}
use Rattle.pf_trie.proofs.in_order.mark.Goals as goal

pub loop-place-init : goal.loop-place-init
loop-place-init c = none_yet c.args.prefix c.args.sign c.args.rows c.saturating_sub-from.result

pub loop-place-preserved : goal.loop-place-preserved
loop-place-preserved c =
    let p = c.args.prefix in
    let row = c.at-row.result in
    let count = c.loop-place.invariant.marked.count in
    let low : row.first ≤ first_of p + (2 ^ p.free - 1) = subst (λ (a : ℕ). row.first ≤ a) c.last-last.ensures c.if-row-last.false in
    subst (λ (v : List Row). MarkedTo p c.args.sign c.args.rows v c.saturating_sub-from.result (c.loop-place.place + 1)) (sym c.in_ok-rows.ensures)
    (one_further p c.args.sign c.args.rows c.loop-place.rows c.saturating_sub-from.result c.loop-place.place row c.marked-marked.result c.loop-place.invariant
    (omega arith) (omega (arith, count, c.len-place-end.ensures)) (sym (c.at-row.ensures row)) low c.marked-marked.ensures)

pub returns-then-row-last-clause-marks : goal.returns-then-row-last-clause-marks
returns-then-row-last-clause-marks c = λ up order.
    let p = c.args.prefix in
    let row = c.at-row.result in
    let count = c.loop-place.invariant.marked.count in
    let high : first_of p + (2 ^ p.free - 1) < row.first = subst (λ (a : ℕ). a < row.first) c.last-last.ensures c.if-row-last.true in
    marked_to_last p c.args.sign c.args.rows c.loop-place.rows c.args.count c.saturating_sub-from.result c.loop-place.place row c.loop-place.invariant
    c.saturating_sub-from.ensures (omega (arith, count, c.len-place-end.ensures)) (sym (c.at-row.ensures row)) high up order

pub returns-then-row-last-clause-addresses : goal.returns-then-row-last-clause-addresses
returns-then-row-last-clause-addresses c =
    marked_addresses c.args.prefix c.args.sign c.args.rows c.loop-place.rows c.saturating_sub-from.result c.loop-place.place c.loop-place.invariant.marked

pub returns-clause-marks : goal.returns-clause-marks
returns-clause-marks c = λ up order.
    marked_to_end c.args.prefix c.args.sign c.args.rows c.loop-place.rows c.args.count c.saturating_sub-from.result c.loop-place.place c.len-place-end.result
    c.loop-place.invariant c.saturating_sub-from.ensures c.len-place-end.ensures (λ le. c.loop-place.auto.place-end le) c.loop-place-test.false up order

pub returns-clause-addresses : goal.returns-clause-addresses
returns-clause-addresses c =
    marked_addresses c.args.prefix c.args.sign c.args.rows c.loop-place.rows c.saturating_sub-from.result c.loop-place.place c.loop-place.invariant.marked
