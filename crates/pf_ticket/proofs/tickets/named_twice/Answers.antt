use Rattle.std.proofs.Common.{true, false, sym, ◌∙◌}
use Rattle.pf_ticket.proofs.Twice.{twice-on}
use Rattle.pf_ticket.proofs.tickets.named_twice.Goals as goal

pub returns-then-is_named : goal.returns-then-is_named
returns-then-is_named c = sym (c.loop-place.invariant ∙ twice-on c.args.names.now c.loop-place.place c.index-names-place.result true c.loop-place-test.true c.index-names-place.is (sym c.is_named.ensures ∙ c.if-is_named.true))

pub loop-place-preserved : goal.loop-place-preserved
loop-place-preserved c = c.loop-place.invariant ∙ twice-on c.args.names.now c.loop-place.place c.index-names-place.result false c.loop-place-test.true c.index-names-place.is (sym c.is_named.ensures ∙ c.if-is_named.false)
