use Rattle.std.proofs.Common.{true, false, sym, ◌∙◌}
use Rattle.pf_ticket.proofs.Twice.{twice-at}
use Rattle.pf_ticket.proofs.tickets.first_twice.Goals as goal

pub returns-then-names_it : goal.returns-then-names_it
returns-then-names_it c = sym (c.loop-place.invariant ∙ twice-at c.args.entries.now c.loop-place.place c.index-entries-place.result true c.loop-place-test.true c.index-entries-place.is (sym c.names_it.ensures ∙ c.if-names_it.true))

pub loop-place-preserved : goal.loop-place-preserved
loop-place-preserved c = c.loop-place.invariant ∙ twice-at c.args.entries.now c.loop-place.place c.index-entries-place.result false c.loop-place-test.true c.index-entries-place.is (sym c.names_it.ensures ∙ c.if-names_it.false)
