use Rattle.std.proofs.Common.{◌≡◌, ◌+◌, List, sym, ap, ◌∙◌, length}
use Rattle.pf_ticket.specs.{declared.name.RulesetName.RulesetName, Mentions.{after, gives}, Tickets.{PlainSlots, PlainTickets, tickets_with, with_all, given_from}}
use Rattle.pf_ticket.proofs.Moves.{given_at_once}
use Rattle.pf_ticket.proofs.tickets.Tickets.give.Goals as goal

pub returns-clause-ok : goal.returns-clause-ok
returns-clause-ok c =
    let t : PlainTickets = tickets_with c.self.inside.epoch c.self.inside.next c.self.inside.slots in
    let names : List RulesetName = c.args.names.now in
    let made : c.in_ok-new.new.items ≡ given_from t.epoch t.next names = c.in_ok-new.ensures ∙ ap (λ (s : PlainTickets). given_from s.epoch s.next names) (sym c.self.view_is) in
    let put : c.put_all.new.self ≡ with_all t.offers c.in_ok-new.new.items = c.in_ok-put_all.ensures.ok in
    ap (λ (os : PlainSlots). tickets_with t.epoch (t.next + length names) os) (put ∙ ap (with_all t.offers) made) ∙ given_at_once t names ∙ ap (λ (s : PlainTickets). after s (gives names)) c.self.view_is
