use Rattle.std.proofs.Common.{◌≡◌, sym, ap, ◌∙◌}
use Rattle.std.specs.Ordering.{eq_by_cmp}
use Rattle.pf_anchor.specs.{Tables.{TableKey, table_order}, Answered.{PlainAnswered}}
use Rattle.pf_anchor.proofs.{TableMaps.table_order_total, TablesAnswered.{found_there, none_past, none_there}}
use Rattle.pf_anchor.proofs.answered.answered_at.Goals as goal

pub returns-in_default : goal.returns-in_default
returns-in_default c =
    sym (none_past table_order_total (c.args.path.now, c.args.name.now) c.args.known.now c.count_before-place.result c.count_before-place.ensures.place c.in_default.ensures.lookup.3)

pub returns-then-same : goal.returns-then-same
returns-then-same c =
    let k : TableKey = (c.args.path.now, c.args.name.now) in
    let key : c.key.result.now ≡ c.in-Some.one.now.0 = c.key.ensures ∙ ap (λ (a : PlainAnswered). a.0) c.one.view_is in
    sym (found_there table_order_total k c.args.known.now c.count_before-place.result c.in-Some.one.now c.count_before-place.ensures.place
    c.in-Some.ensures.lookup.3.0 c.in-Some.ensures.lookup.1 (ap (eq_by_cmp table_order k) (sym key) ∙ sym c.same.ensures ∙ c.if-same.true))

pub returns-else-same : goal.returns-else-same
returns-else-same c =
    let k : TableKey = (c.args.path.now, c.args.name.now) in
    let key : c.key.result.now ≡ c.in-Some.one.now.0 = c.key.ensures ∙ ap (λ (a : PlainAnswered). a.0) c.one.view_is in
    sym (none_there table_order_total k c.args.known.now c.count_before-place.result c.in-Some.one.now c.requires c.count_before-place.ensures.place
    c.in-Some.ensures.lookup.3.0 c.in-Some.ensures.lookup.1 (ap (eq_by_cmp table_order k) (sym key) ∙ sym c.same.ensures ∙ c.if-same.false))
