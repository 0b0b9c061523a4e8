-- What each step of a transaction answers, and the order of refusals (pf(4), DIOCXBEGIN to DIOCXROLLBACK). The limits and the order of
-- refusals are this project's own.
use Rattle.std.specs.{Prelude.{ℕ, ◌+◌, ◌-◌, ◌==◌, Bool, not, cond, if◌then◌else◌, ◌||◌, List, [], ◌∷◌, ◌++◌, length, Option, Some, None, Result, Ok, Err, nat_lt, nat_le}, FinMap.find, List.position}
use Rattle.pf_addr.specs.{Path.Names.name_order, Refusing.{and_then, unless, refused_at}}
use Rattle.pf_anchor.specs.declared.limits.TheConstants.{RULE_LIMIT, RULESET_LIMIT}
use Rattle.pf_table.specs.declared.limits.TheConstants.{TABLE_LIMIT}
use Rattle.pf_table.specs.declared.refusal.TableRefusal.{TableRefusal}
use Rattle.pf_table.specs.declared.refusal.TableRefusal.TheVariants as by_table
use Rattle.pf_table.specs.{Edits.{added, replaced, has_entry, conflict_in}, Entries.PlainEntry}
use Rattle.pf_ticket.specs.{declared.{entry.RulesetTicket.RulesetTicket, limits.TheConstants.ENTRY_LIMIT, limits.TheConstants.LAST_COUNT, limits.TheConstants.OFFERED_TABLE_LIMIT, name.RulesetName.RulesetName, refusal.TicketRefusal.TicketRefusal, refusal.TicketRefusal.TheVariants.BadCount, refusal.TicketRefusal.TheVariants.Twice, refusal.TicketRefusal.TheVariants.Conflict, refusal.TicketRefusal.TheVariants.Busy, refusal.TicketRefusal.TheVariants.Absent, refusal.TicketRefusal.TheVariants.RulesetFull, refusal.TicketRefusal.TheVariants.TableFull, refusal.TicketRefusal.TheVariants.TooManyRulesets, refusal.TicketRefusal.TheVariants.TooManyTables, refusal.TicketRefusal.TheVariants.TicketsExhausted, refusal.TicketRefusal.TheVariants.Memory, ticket.Ticket.Ticket, ticket.TicketRange.TicketRange}, Names.{is_named, names_of}, Tickets.{rules_in, with_table, PlainTickets, next_ticket, loaded, content, is_valid}, Mentions.{gives, after}}

-- ---- conditions

-- whether a list is empty, or has more entries than the limit
abbrev pub bad_count : ℕ → Bool
bad_count n = (n == 0) || nat_lt ENTRY_LIMIT n

-- the place of the first of these rulesets, coming after those in `before`, that is named before it
abbrev pub twice_after : List RulesetName → List RulesetName → Option ℕ
twice_after before [] = None
twice_after before (n ∷ ns) = cond (is_named before n) (Some (length before)) (twice_after (before ++ n ∷ []) ns)

-- the place of the first entry that names a ruleset named before it
abbrev pub twice_in : List RulesetTicket → Option ℕ
twice_in entries = twice_after [] (names_of entries)

-- the place of the first entry whose ticket isn't valid
abbrev pub busy_in : PlainTickets → List RulesetTicket → Option ℕ
busy_in t entries = position (λ e. not (is_valid t e.name e.ticket)) entries

-- the same network with the other sign
abbrev pub opposite : PlainEntry → PlainEntry
opposite x = (x.0, not x.1)

-- the place of the first of these entries whose network a table has with the other sign
abbrev pub conflict_with : List PlainEntry → List PlainEntry → Option ℕ
conflict_with rows xs = position (λ x. has_entry rows (opposite x)) xs

-- what is answered if a table refuses
abbrev pub table_refusal_of : TableRefusal → TicketRefusal
table_refusal_of (by_table.Conflict i) = Conflict i
table_refusal_of by_table.TableFull = TableFull
table_refusal_of by_table.Memory = Memory

-- ---- one small reply for each step. Each line is one refusal with its condition, in their order

-- the next n tickets
abbrev pub range : PlainTickets → ℕ → TicketRange
range t n = record { first = next_ticket t; number = n }

abbrev pub begin_reply : PlainTickets → List RulesetName → Result TicketRange TicketRefusal
begin_reply t names =
    if bad_count (length names) then Err BadCount else
    (if nat_lt RULESET_LIMIT (length (after t (gives names)).offers) then Err TooManyRulesets else
    (if nat_lt LAST_COUNT (t.next + length names - 1) then Err TicketsExhausted else
    Ok (range t (length names))))

abbrev pub add_reply : PlainTickets → RulesetName → Ticket → Result (Unit {0}) TicketRefusal
add_reply t name u =
    if not (is_valid t name u) then Err (Busy 0) else
    (if nat_le RULE_LIMIT (length (rules_in (content t name))) then Err RulesetFull else
    Ok tt)

-- the table that a define's entries make, `None` if it has more than there may be; `Conflict` if there is a conflict among them
abbrev pub table_reply : Option ℕ → List PlainEntry → Result (Option (List PlainEntry)) TicketRefusal
table_reply (Some i) rows = Err (Conflict i)
table_reply None rows = Ok (if nat_lt TABLE_LIMIT (length rows) then None else Some rows)

abbrev pub define_reply : PlainTickets → RulesetName → Ticket → List ℕ → List PlainEntry → Result (Unit {0}) TicketRefusal
define_reply t n u name xs =
    and_then (refused_at (λ i. Conflict i) (conflict_in xs))
    (if not (is_valid t n u) then Err (Busy 0) else
    (if nat_lt TABLE_LIMIT (length (replaced xs)) then Err TableFull else
    (if nat_lt OFFERED_TABLE_LIMIT (length (with_table (loaded t n) name (replaced xs)).tables) then Err TooManyTables else
    Ok tt)))

-- what refuses more entries for a table, by those that are offered for it; there are none if it wasn't defined
abbrev pub growth_check : Option (List PlainEntry) → List PlainEntry → Result (Unit {0}) TicketRefusal
growth_check None xs = Err Absent
growth_check (Some rows) xs =
    and_then (refused_at (λ i. Conflict i) (conflict_with rows xs)) (unless (nat_lt TABLE_LIMIT (length (added rows xs))) TableFull)

abbrev pub extend_reply : PlainTickets → RulesetName → Ticket → List ℕ → List PlainEntry → Result (Unit {0}) TicketRefusal
extend_reply t n u name xs =
    and_then (refused_at (λ i. Conflict i) (conflict_in xs))
    (if not (is_valid t n u) then Err (Busy 0) else growth_check (find name_order name (loaded t n).tables) xs)

-- the entries of a commit or a rollback by themselves, which is all that a rollback is refused for
abbrev pub list_check : List RulesetTicket → Result (Unit {0}) TicketRefusal
list_check entries = if bad_count (length entries) then Err BadCount else refused_at (λ i. Twice i) (twice_in entries)

-- then with their tickets
abbrev pub commit_check : PlainTickets → List RulesetTicket → Result (Unit {0}) TicketRefusal
commit_check t entries = and_then (list_check entries) (refused_at (λ i. Busy i) (busy_in t entries))
