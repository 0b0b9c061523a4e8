-- What accepted steps of transactions do to the rulesets that they name (pf(4), DIOCXBEGIN to DIOCXROLLBACK, and DIOCRINADEFINE; that a
-- later define of a table replaces an earlier one, and that an extend adds to it, is this project's own).
use Rattle.std.specs.Prelude.{ℕ, ◌+◌, cond, List, map, fold, Some, None}
use Rattle.pf_rule.specs.Rules.{PlainRule}
use Rattle.pf_table.specs.{Entries.PlainEntry, Edits.replaced}
use Rattle.pf_ticket.specs.{declared.{entry.RulesetTicket.RulesetTicket, name.RulesetName.RulesetName, ticket.Ticket.Ticket}, Tickets.{Loaded, nothing, with_rule, with_table, with_entries, PlainSlots, offer_with, with_offer, PlainTickets, tickets_with, fresh, next_ticket, loaded, is_valid}}

pub data Mention : Type 0 where
  gave : RulesetName → Mention
  added : RulesetName → Ticket → PlainRule → Mention
  -- a ruleset, its ticket, a table's name, and the entries as they were handed in; so too for an extend
  defined : RulesetName → Ticket → List ℕ → List PlainEntry → Mention
  extended : RulesetName → Ticket → List ℕ → List PlainEntry → Mention
  switched : RulesetName → Mention
  dropped : RulesetName → Ticket → Mention

abbrev pub named_in : Mention → RulesetName
named_in (gave n) = n
named_in (added n u r) = n
named_in (defined n u name xs) = n
named_in (extended n u name xs) = n
named_in (switched n) = n
named_in (dropped n u) = n

abbrev pub with_offers : PlainTickets → PlainSlots → PlainTickets
with_offers t os = tickets_with t.epoch t.next os

-- its ticket is no longer valid, and what was offered with it is gone
abbrev pub take_out : PlainTickets → RulesetName → PlainTickets
take_out t n = with_offers t (with_offer t.offers n None)

-- with this loaded for a ruleset, if the ticket is its valid one
abbrev pub load : PlainTickets → RulesetName → Ticket → Loaded → PlainTickets
load t n u l = cond (is_valid t n u) (with_offers t (with_offer t.offers n (Some (offer_with u l)))) t

-- A begin gives the next ticket, with nothing loaded yet. With the valid ticket an add loads one more rule, a define sets one table, and an
-- extend adds entries to one. A commit takes out what is offered; a rollback does if it names the valid ticket.
abbrev pub moved : PlainTickets → Mention → PlainTickets
moved t (gave n) = tickets_with t.epoch (t.next + 1) (with_offer t.offers n (Some (offer_with (next_ticket t) nothing)))
moved t (added n u r) = load t n u (with_rule (loaded t n) r)
moved t (defined n u name xs) = load t n u (with_table (loaded t n) name (replaced xs))
moved t (extended n u name xs) = load t n u (with_entries (loaded t n) name xs)
moved t (switched n) = take_out t n
moved t (dropped n u) = cond (is_valid t n u) (take_out t n) t

abbrev pub after : PlainTickets → List Mention → PlainTickets
after t ms = fold moved t ms

-- what these mentions leave, from the start of an opening
abbrev pub opened : ℕ → List Mention → PlainTickets
opened epoch ms = after (fresh epoch) ms

-- ---- what a step mentions, in order

abbrev pub gives : List RulesetName → List Mention
gives names = map (λ n. gave n) names

abbrev pub switches : List RulesetName → List Mention
switches names = map (λ n. switched n) names

abbrev pub drops : List RulesetTicket → List Mention
drops entries = map (λ e. dropped e.name e.ticket) entries
