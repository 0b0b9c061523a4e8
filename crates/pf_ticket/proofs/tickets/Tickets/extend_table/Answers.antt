use Rattle.std.proofs.{Common.{◌≡◌, ℕ, ◌<◌, List, length, get_or, sym, ap, ◌∙◌}, lemmas.List.get_or_default}
use Rattle.pf_table.specs.Entries.{PlainEntry}
use Rattle.pf_ticket.specs.{declared.{name.RulesetName.RulesetName, ticket.Ticket.Ticket}, Mentions.load, Tickets.{nothing, with_table, with_entries, PlainInactive, offer_with, PlainTickets, loaded}}
use Rattle.pf_ticket.proofs.tickets.Tickets.extend_table.Goals as goal

-- the offer at the place has this ticket, so what is set there is loaded with it
set_at : (t new : PlainTickets) (n : RulesetName) (u : Ticket) (place : ℕ) (name : List ℕ) (xs rows : List PlainEntry) → place < length t.offers
    → ((e : RulesetName × PlainInactive) → e ≡ get_or t.offers place e → e.1.ticket ≡ u)
    → with_entries (loaded t n) name xs ≡ with_table (loaded t n) name rows
    → ((e : RulesetName × PlainInactive) → e ≡ get_or t.offers place e → new ≡ load t n e.1.ticket (with_table (loaded t n) name rows))
    → new ≡ load t n u (with_entries (loaded t n) name xs)
set_at t new n u place name xs rows within ticket same set =
    let none : RulesetName × PlainInactive = (n, offer_with u nothing) in
    let e : RulesetName × PlainInactive = get_or t.offers place none in
    let is : e ≡ get_or t.offers place e = get_or_default t.offers place none e within in
    set e is ∙ (λ i. load t n (ticket e is i) (sym same i))

pub returns-clause-ok : goal.returns-clause-ok
returns-clause-ok c =
    let t : PlainTickets = c.args.self.now in
    let valid = c.in-Some.ensures in
    set_at t c.set_table.new.self c.table-ruleset.result c.args.ticket c.in-Some.place c.args.name.now c.args.entries.now c.in_ok-grown.grown valid.within valid.ticket c.in_ok-grown.ensures.table c.in_ok-set_table.ensures.ok
    ∙ ap (λ (n : RulesetName). load t n c.args.ticket (with_entries (loaded t n) c.args.name.now c.args.entries.now)) c.table-ruleset.ensures
