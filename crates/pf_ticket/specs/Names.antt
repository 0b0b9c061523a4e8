-- Names of rulesets, and tickets (pf(4), DIOCXBEGIN). That a ticket is an epoch and a count, with one counter for all rulesets, and the
-- order of names are this project's own.
use Rattle.std.specs.{Prelude.{◌≡◌, ℕ, zero, suc, ◌+◌, ◌==◌, ◌&&◌, Bool, true, false, List, [], ◌∷◌, map, Option, Some, None}, List.list_any, Ordering.{nat_cmp, ordering_then}}
use Rattle.std.specs.declared.cmp.Ordering.{Ordering}
use Rattle.pf_addr.specs.Path.Paths.{path_order, same_path}
use Rattle.pf_ticket.specs.declared.{entry.RulesetTicket.RulesetTicket, name.RulesetKind.RulesetKind, name.RulesetKind.TheVariants.Filter, name.RulesetKind.TheVariants.Table, name.RulesetName.RulesetName, ticket.Ticket.Ticket, ticket.TicketRange.TicketRange}

abbrev pub filter_at : List ℕ → RulesetName
filter_at p = record { kind = Filter; path = p }

-- the tables at a path, as a transaction names them
abbrev pub table_ruleset_at : List ℕ → RulesetName
table_ruleset_at p = record { kind = Table; path = p }

abbrev pub same_kind : RulesetKind → RulesetKind → Bool
same_kind Filter Filter = true
same_kind Filter Table = false
same_kind Table Filter = false
same_kind Table Table = true

-- a ruleset is a kind and a path
abbrev pub same_name : RulesetName → RulesetName → Bool
same_name a b = same_kind a.kind b.kind && same_path a.path b.path

abbrev pub kind_rank : RulesetKind → ℕ
kind_rank Filter = 0
kind_rank Table = 1

-- filter rulesets come before table rulesets, and those of one kind are ordered by their paths
abbrev pub ruleset_order : RulesetName → RulesetName → Ordering
ruleset_order a b = ordering_then (nat_cmp (kind_rank a.kind) (kind_rank b.kind)) (path_order a.path b.path)

abbrev pub is_named : List RulesetName → RulesetName → Bool
is_named names name = list_any (λ n. same_name n name) names

abbrev pub names_of : List RulesetTicket → List RulesetName
names_of entries = map (λ e. e.name) entries

abbrev pub ticket : ℕ → ℕ → Ticket
ticket epoch count = record { epoch = epoch; count = count }

abbrev pub same_ticket : Ticket → Ticket → Bool
same_ticket a b = (a.epoch == b.epoch) && (a.count == b.count)

-- whether there is a ticket and it is this one
abbrev pub is_ticket : Option Ticket → Ticket → Bool
is_ticket None t = false
is_ticket (Some u) t = same_ticket u t

-- n tickets of an epoch, from a count on
abbrev pub tickets_from : ℕ → ℕ → ℕ → List Ticket
tickets_from epoch count zero = []
tickets_from epoch count (suc n) = ticket epoch count ∷ tickets_from epoch (count + 1) n

abbrev pub tickets_of : TicketRange → List Ticket
tickets_of r = tickets_from r.first.epoch r.first.count r.number

-- no ruleset is named twice
abbrev pub IsDistinct : List RulesetName → Type 0
IsDistinct [] = Unit {0}
IsDistinct (n ∷ ns) = (is_named ns n ≡ false) × IsDistinct ns
