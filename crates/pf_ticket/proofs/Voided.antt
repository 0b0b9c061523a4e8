-- What is valid and offered after the tickets of some rulesets were voided.
use Rattle.std.proofs.Common.{◌≡◌, Bool, true, false, ◌&&◌, cond, List, Option, None, refl, ap, ◌∙◌}
use Rattle.std.specs.Prelude.{not}
use Rattle.pf_ticket.specs.{declared.{name.RulesetName.RulesetName, ticket.Ticket.Ticket}, Mentions.{switches, after}, Names.{is_named, is_ticket}, Tickets.{PlainInactive, PlainTickets, offer_at, offered_as, nothing_for, ticket_in, loaded_in, content, is_valid}}
use Rattle.pf_ticket.proofs.Moves.{commit_takes_out}

ticket-after : (b : Bool) (o : Option PlainInactive) (u : Ticket) → is_ticket (ticket_in (cond b None o)) u ≡ (not b && is_ticket (ticket_in o) u)
ticket-after true o u = refl
ticket-after false o u = refl

pub valid_after : (t : PlainTickets) (names : List RulesetName) (name : RulesetName) (u : Ticket) → is_valid (after t (switches names)) name u ≡ (not (is_named names name) && is_valid t name u)
valid_after t names name u = ap (λ (o : Option PlainInactive). is_ticket (ticket_in o) u) (commit_takes_out t names name) ∙ ticket-after (is_named names name) (offer_at t.offers name) u

pub content_after : (t : PlainTickets) (names : List RulesetName) (name : RulesetName) → content (after t (switches names)) name ≡ cond (is_named names name) (nothing_for name.kind) (content t name)
content_after t names name =
    ap (λ (o : Option PlainInactive). offered_as name.kind (loaded_in o)) (commit_takes_out t names name) ∙ by (is_named names name) where
      by : (b : Bool) → offered_as name.kind (loaded_in (cond b None (offer_at t.offers name))) ≡ cond b (nothing_for name.kind) (content t name)
      by true = refl
      by false = refl
