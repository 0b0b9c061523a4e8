use Rattle.std.proofs.{Common.{◌≡◌, ◌+◌, cond, arith, length, subst, take}, lemmas.Grind.common_steps}
use Rattle.pf_ticket.specs.{Mentions.{after, gives}, Tickets.PlainTickets}
use Rattle.pf_ticket.proofs.{Moves.opened_more, Offers.AreInOrder}
use Rattle.pf_ticket.proofs.tickets.Tickets.opened_with.Goals as goal

pub loop-place-preserved : goal.loop-place-preserved
loop-place-preserved c =
    let more : length (after c.args.self.now (gives (take (c.loop-place.place + 1) c.args.names.now))).offers ≡ length (after c.args.self.now (gives (take c.loop-place.place c.args.names.now))).offers + cond c.is_new.result 1 0 =
    opened_more c.args.self.now c.args.names.now c.loop-place.place c.index-names-place.result c.is_new.result (subst (λ (t : PlainTickets). AreInOrder t.offers) c.self.view_is c.len-count.ensures.order) (grind (arith, common_steps)) c.index-names-place.is (grind (arith, common_steps)) in
    record { counts = grind (arith, common_steps, more); within = grind (arith, common_steps) }
