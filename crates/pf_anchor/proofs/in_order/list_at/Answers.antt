use Rattle.std.proofs.Common.{sym, ap, ◌∙◌}
use Rattle.pf_addr.specs.Path.Nested.{depth}
use Rattle.pf_anchor.specs.Rulesets.{PlainPlaced}
use Rattle.pf_anchor.proofs.Listing.{no_room}
use Rattle.pf_anchor.proofs.in_order.list_at.Goals as goal

pub returns-then-count-table : goal.returns-then-count-table
returns-then-count-table c =
    let loop = c.loop-placed in
    let deep = ap (λ (e : PlainPlaced). depth e.0) (sym c.unknown-known.ensures) ∙ sym c.depth.ensures ∙ c.if-depth.true in
    no_room loop.table c.args.table.now loop.count c.args.before c.args.depth loop.placed-iterator c.next.new.self c.args.config.now.rulesets c.in-Some.placed.now
    c.if-count-table.true c.requires loop.auto.table loop.invariant.listed c.in-Some.ensures.steps deep
