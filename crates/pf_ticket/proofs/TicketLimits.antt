-- How many tickets a step gives, and that the limits hold after each step that isn't refused.
use Rattle.std.proofs.{Common.{◌≡◌, ℕ, ◌+◌, ◌-◌, ◌<◌, ◌≤◌, Bool, true, false, not, cond, List, [], ◌∷◌, ◌++◌, length, refl, sym, ap, ◌∙◌, subst, Option, Some, None, is_some, Result, Ok, Err, arith, length-append}, lemmas.Bool.cond_both, lemmas.Bool.Decides.nat_tests}
use Rattle.std.specs.{Prelude.{nat_lt, nat_le}, List.{AllByRecursion, slice_get}, Option.option_map_or, FinMap.{find, put as put_entry}, FinMap.Entries.by_order, Ordering.is_eq}
use Rattle.std.specs.declared.cmp.Ordering.TheVariants.{Less, Equal, Greater}
use Rattle.pf_addr.specs.{Path.Names.name_order, Refusing.{unless, refused_at, both_passed, not_refused}}
use Rattle.pf_table.specs.declared.limits.TheConstants.{TABLE_LIMIT}
use Rattle.pf_table.specs.{Edits.{conflict_in, added as entries_added, replaced}, Laws.Edits.sorted_added, Entries.PlainEntry, Tables.AreEntries}
use Rattle.pf_rule.specs.Rules.{PlainRule}
use Rattle.pf_anchor.specs.declared.limits.TheConstants.{RULE_LIMIT, RULESET_LIMIT}
use Rattle.pf_map.proofs.Tests.{same_entry}
use Rattle.pf_ticket.specs.{declared.{entry.RulesetTicket.RulesetTicket, limits.TheConstants.LAST_COUNT, limits.TheConstants.OFFERED_TABLE_LIMIT, name.RulesetKind.RulesetKind, name.RulesetKind.TheVariants.Filter, name.RulesetKind.TheVariants.Table, name.RulesetName.RulesetName, refusal.TicketRefusal.TicketRefusal, refusal.TicketRefusal.TheVariants.BadCount, refusal.TicketRefusal.TheVariants.Conflict, refusal.TicketRefusal.TheVariants.Busy, refusal.TicketRefusal.TheVariants.RulesetFull, refusal.TicketRefusal.TheVariants.TableFull, refusal.TicketRefusal.TheVariants.TooManyRulesets, refusal.TicketRefusal.TheVariants.TooManyTables, refusal.TicketRefusal.TheVariants.TicketsExhausted, ticket.Ticket.Ticket, ticket.TicketRange.TicketRange}, Laws.Tickets.{AreGiven, BeginsGive, TellsWhatIsGiven, IsFew, IsWithin, KeepsTheLimits}, Mentions.{gave, dropped, load, with_offers, take_out, moved, after, gives, switches, drops}, Names.{filter_at, table_ruleset_at, same_name, is_named, is_ticket, tickets_from, tickets_of}, Laws.Names.{names_alike, name_is}, Replies.{bad_count, conflict_with, range, begin_reply, growth_check}, NamedTables.PlainDefinedTable, Tickets.{Loaded, nothing, with_rule, with_table, with_entries, offered_as, PlainInactive, PlainSlots, offer_with, offer_at, with_offer, PlainTickets, next_ticket, ticket_in, loaded_in, valid_ticket, loaded, is_valid}}
use Rattle.pf_ticket.proofs.{NamedTables.{put_sorted, count_with}, Moves.{load-keeps, made_by, reads, leaves_the_others, gives-named}, Offers.{reads_with, length_out, length_replaced}}

-- ---- what stays when offers are taken out

switches-keep : (P : PlainTickets → Type 0) → ((t : PlainTickets) (n : RulesetName) → P t → P (take_out t n)) → (t : PlainTickets) (names : List RulesetName) → P t → P (after t (switches names))
switches-keep P out t [] p = p
switches-keep P out t (n ∷ ns) p = switches-keep P out (take_out t n) ns (out t n p)

drops-keep : (P : PlainTickets → Type 0) → ((t : PlainTickets) (n : RulesetName) → P t → P (take_out t n)) → (t : PlainTickets) (entries : List RulesetTicket) → P t → P (after t (drops entries))
drops-keep P out t [] p = p
drops-keep P out t (e ∷ es) p = drops-keep P out (moved t (dropped e.name e.ticket)) es (cond_both (is_valid t e.name e.ticket) (take_out t e.name) t P (λ b. out t e.name p) (λ b. p))

-- ---- how many tickets are given

none-given : (t : PlainTickets) (os : PlainSlots) → AreGiven 0 t (with_offers t os)
none-given t os = record { epoch = refl; next = omega arith }

begin-gives : (t : PlainTickets) (names : List RulesetName) → AreGiven (length names) t (after t (gives names))
begin-gives t [] = none-given t t.offers
begin-gives t (n ∷ ns) =
    let rest : AreGiven (length ns) (moved t (gave n)) (after (moved t (gave n)) (gives ns)) = begin-gives (moved t (gave n)) ns in
    record { epoch = rest.epoch; next = (let k = rest.next in omega (arith, k)) }

-- a begin that isn't refused
record IsBegun (t : PlainTickets) (names : List RulesetName) (given : TicketRange) : Type 0 where
  few : nat_lt RULESET_LIMIT (length (after t (gives names)).offers) ≡ false
  left : nat_lt LAST_COUNT (t.next + length names - 1) ≡ false
  range : range t (length names) ≡ given

begun-by : (t : PlainTickets) (names : List RulesetName) (given : TicketRange) (bad many last : Bool) → nat_lt RULESET_LIMIT (length (after t (gives names)).offers) ≡ many → nat_lt LAST_COUNT (t.next + length names - 1) ≡ last
    → cond bad (Err BadCount) (cond many (Err TooManyRulesets) (cond last (Err TicketsExhausted) (Ok (range t (length names))))) ≡ Ok given → IsBegun t names given
begun-by t names given true many last few left h = absurd (cc (h))
begun-by t names given false true last few left h = absurd (cc (h))
begun-by t names given false false true few left h = absurd (cc (h))
begun-by t names given false false false few left h = record { few = few; left = left; range = cc (h) }

begun : (t : PlainTickets) (names : List RulesetName) (given : TicketRange) → begin_reply t names ≡ Ok given → IsBegun t names given
begun t names given h = begun-by t names given (bad_count (length names)) (nat_lt RULESET_LIMIT (length (after t (gives names)).offers)) (nat_lt LAST_COUNT (t.next + length names - 1)) refl refl h

pub begins_give : BeginsGive
begins_give = record {
  reported = λ t names given h. ap (λ (g : TicketRange). tickets_of g) (sym (begun t names given h).range);
  begin = begin-gives;
  add = λ t n u r. load-keeps t n u (with_rule (loaded t n) r) (AreGiven 0 t) (λ new. none-given t (with_offer t.offers n (Some new))) (none-given t t.offers);
  define = λ t n u name xs. load-keeps t n u (with_table (loaded t n) name (replaced xs)) (AreGiven 0 t) (λ new. none-given t (with_offer t.offers n (Some new))) (none-given t t.offers);
  extend = λ t n u name xs. load-keeps t n u (with_entries (loaded t n) name xs) (AreGiven 0 t) (λ new. none-given t (with_offer t.offers n (Some new))) (none-given t t.offers);
  commit = λ t names. switches-keep (AreGiven 0 t) (λ s n g. record { epoch = g.epoch; next = g.next }) t names (none-given t t.offers);
  rollback = λ t entries. drops-keep (AreGiven 0 t) (λ s n g. record { epoch = g.epoch; next = g.next }) t entries (none-given t t.offers);
}

-- the ticket at a ruleset's place is the ruleset's own
own-ticket : (t : PlainTickets) (before : List RulesetName) (name : RulesetName) (following : List RulesetName) → is_named following name ≡ false → valid_ticket (after t (gives (before ++ name ∷ following))) name ≡ slice_get (tickets_from t.epoch t.next (length (before ++ name ∷ following))) (length before)
own-ticket t [] name following last =
    ap ticket_in (leaves_the_others (moved t (gave name)) (gives following) name (ap (λ (ns : List RulesetName). is_named ns name) (gives-named following) ∙ last) ∙ reads t (gave name) name ∙ ap (λ (b : Bool). cond b (made_by t (gave name)) (offer_at t.offers name)) (names_alike.refl name))
own-ticket t (n ∷ ns) name following last = own-ticket (moved t (gave n)) ns name following last

pub tells_what_is_given : TellsWhatIsGiven
tells_what_is_given t range before name following h last =
    own-ticket t before name following last ∙ ap (λ (ts : List Ticket). slice_get ts (length before)) (sym (begins_give.reported t (before ++ name ∷ following) range h))

-- ---- how much is offered

abbrev Short : RulesetKind → Loaded → Type 0
Short k l = IsFew (offered_as k l)

short-nothing : (k : RulesetKind) → Short k nothing
short-nothing Filter = record { rules = omega arith; tables = omega arith; entries = tt; order = tt }
short-nothing Table = record { rules = omega arith; tables = omega arith; entries = tt; order = tt }

one-more : (l : Loaded) (r : PlainRule) → length l.rules < RULE_LIMIT → Short Filter (with_rule l r)
one-more l r room = record { rules = (let k = length-append l.rules (r ∷ []) in omega (arith, k, room)); tables = omega arith; entries = tt; order = tt }

abbrev AreShortRows : List PlainDefinedTable → Type 0
AreShortRows ts = AllByRecursion (λ n. AreEntries n.1) ts

rows-put : (name : List ℕ) (new : List PlainEntry) (ts : List PlainDefinedTable) → AreEntries new → AreShortRows ts → AreShortRows (put_entry name_order name new ts)
rows-put name new [] short all = (short, tt)
rows-put name new (t ∷ ts) short all =
    elim (name_order name t.0) as (λ o. AreShortRows (by_order o ((name, new) ∷ t ∷ ts) ((t.0, new) ∷ ts) (t ∷ put_entry name_order name new ts))) [
      | Less ↦ (short, all)
      | Equal ↦ (short, all.1)
      | Greater ↦ (all.0, rows-put name new ts short all.1)
    ]

one-table : (l : Loaded) (name : List ℕ) (new : List PlainEntry) → AreEntries new → length (with_table l name new).tables ≤ OFFERED_TABLE_LIMIT → Short Table l → Short Table (with_table l name new)
one-table l name new short few old = record {
  rules = omega arith;
  tables = few;
  entries = rows-put name new l.tables short old.entries;
  order = put_sorted name new l.tables old.order;
}

-- a table that is offered has few enough entries
found-short : (name : List ℕ) (ts : List PlainDefinedTable) (rows : List PlainEntry) → AreShortRows ts → find name_order name ts ≡ Some rows → AreEntries rows
found-short name [] rows all h = absurd (cc (h))
found-short name (t ∷ ts) rows all h = by (found-short name ts rows all.1) (is_eq (name_order name t.0)) h where
  by : (find name_order name ts ≡ Some rows → AreEntries rows) → (b : Bool) → cond b (Some t.1) (find name_order name ts) ≡ Some rows → AreEntries rows
  by later true is = subst AreEntries (same_entry t.1 rows is) all.0
  by later false is = later is

-- with more entries, if that isn't refused
more-entries : (l : Loaded) (name : List ℕ) (xs : List PlainEntry) (o : Option (List PlainEntry)) → find name_order name l.tables ≡ o → growth_check o xs ≡ Ok tt → Short Table l → Short Table (option_map_or (λ rows. with_table l name (entries_added rows xs)) o l)
more-entries l name xs None is h old = absurd (cc (h))
more-entries l name xs (Some rows) is h old =
    let new : List PlainEntry = entries_added rows xs in
    let long : Bool = nat_lt TABLE_LIMIT (length new) in
    let check : Result (Unit {0}) TicketRefusal = unless long TableFull in
    let short : long ≡ false = not_refused long TableFull (both_passed (refused_at (λ i. Conflict i) (conflict_with rows xs)) check tt h).second in
    let there : AreEntries rows = found-short name l.tables rows old.entries is in
    let as-many : length (put_entry name_order name new l.tables) ≡ length l.tables = count_with name new l.tables old.order ∙ ap (λ (found : Option (List PlainEntry)). cond (is_some found) (length l.tables) (length l.tables + 1)) is in
    let most = old.tables in
    one-table l name new (record { sorted = sorted_added rows xs there.sorted; few = grind (arith, nat_tests, short) }) (omega (arith, as-many, most)) old

abbrev IsShort : RulesetKind → Option PlainInactive → Type 0
IsShort k v = Short k (loaded_in v)

abbrev AreShort : PlainSlots → Type 0
AreShort os = (name : RulesetName) → IsShort name.kind (offer_at os name)

short-put : (os : PlainSlots) (n : RulesetName) (new : PlainInactive) → Short n.kind new.loaded → AreShort os → AreShort (with_offer os n (Some new))
short-put os n new short all q =
    subst (IsShort q.kind) (sym (reads_with os n (Some new) q)) (cond_both (same_name n q) (Some new) (offer_at os q) (IsShort q.kind) (λ b. subst (λ (m : RulesetName). Short m.kind new.loaded) (name_is n q b) short) (λ b. all q))

short-begun : (t : PlainTickets) (names : List RulesetName) → AreShort t.offers → AreShort (after t (gives names)).offers
short-begun t [] all = all
short-begun t (n ∷ ns) all = short-begun (moved t (gave n)) ns (short-put t.offers n (offer_with (next_ticket t) nothing) (short-nothing n.kind) all)

-- ---- the limits

within-out : (t : PlainTickets) (n : RulesetName) → IsWithin t → IsWithin (take_out t n)
within-out t n w = record {
  given = w.given;
  opened = let most = w.opened in omega (arith, length_out t.offers n, most);
  offered = λ q. subst (IsShort q.kind) (sym (reads_with t.offers n None q)) (cond_both (same_name n q) None (offer_at t.offers q) (IsShort q.kind) (λ b. short-nothing q.kind) (λ b. w.offered q));
}

has-offer : (v : Option PlainInactive) (u : Ticket) → is_ticket (ticket_in v) u ≡ true → is_some v ≡ true
has-offer None u h = absurd (cc (h))
has-offer (Some o) u h = refl

within-loaded : (t : PlainTickets) (n : RulesetName) (u : Ticket) (l : Loaded) → Short n.kind l → IsWithin t → IsWithin (load t n u l)
within-loaded t n u l short w =
    let new : PlainInactive = offer_with u l in
    cond_both (is_valid t n u) (with_offers t (with_offer t.offers n (Some new))) t IsWithin
    (λ valid.
    let as-many = length_replaced t.offers n new (has-offer (offer_at t.offers n) u valid) in
    let most = w.opened in
    record { given = w.given; opened = omega (arith, as-many, most); offered = short-put t.offers n new short w.offered })
    (λ b. w)

not-refused : {A : Type 0} (b : Bool) (x : TicketRefusal) (r : Result A TicketRefusal) (a : A) → cond b (Err x) r ≡ Ok a → (b ≡ false) × (r ≡ Ok a)
not-refused true x r a h = absurd (cc (h))
not-refused false x r a h = (refl, h)

pub keeps_the_limits : KeepsTheLimits
keeps_the_limits = record {
  first = λ epoch. record { given = omega arith; opened = omega arith; offered = λ q. short-nothing q.kind };
  begin = λ t names given h w.
      let is : IsBegun t names given = begun t names given h in
      let next = (begin-gives t names).next in
      let few = is.few in
      let left = is.left in
      record { given = grind (arith, nat_tests, next, left); opened = grind (arith, nat_tests, few); offered = short-begun t names w.offered };
  add = λ t p u r h w.
      let n : RulesetName = filter_at p in
      let l : Loaded = loaded t n in
      let full : Bool = nat_le RULE_LIMIT (length l.rules) in
      let done : Result (Unit {0}) TicketRefusal = Ok tt in
      let low : full ≡ false = (not-refused full RulesetFull done tt (not-refused (not (is_valid t n u)) (Busy 0) (cond full (Err RulesetFull) done) tt h).1).0 in
      within-loaded t n u (with_rule l r) (one-more l r (grind (arith, nat_tests, low))) w;
  define = λ t p u name xs h w.
      let n : RulesetName = table_ruleset_at p in
      let rows : List PlainEntry = replaced xs in
      let new : Loaded = with_table (loaded t n) name rows in
      let long : Bool = nat_lt TABLE_LIMIT (length rows) in
      let many : Bool = nat_lt OFFERED_TABLE_LIMIT (length new.tables) in
      let done : Result (Unit {0}) TicketRefusal = Ok tt in
      let limits : Result (Unit {0}) TicketRefusal = cond long (Err TableFull) (cond many (Err TooManyTables) done) in
      let fits : (long ≡ false) × (cond many (Err TooManyTables) done ≡ done) =
      not-refused long TableFull (cond many (Err TooManyTables) done) tt (not-refused (not (is_valid t n u)) (Busy 0) limits tt (both_passed (refused_at (λ i. Conflict i) (conflict_in xs)) (cond (not (is_valid t n u)) (Err (Busy 0)) limits) tt h).second).1 in
      let short = fits.0 in
      let few = (not-refused many TooManyTables done tt fits.1).0 in
      within-loaded t n u new (one-table (loaded t n) name rows (record { sorted = sorted_added [] xs tt; few = grind (arith, nat_tests, short) }) (grind (arith, nat_tests, few)) (w.offered n)) w;
  extend = λ t p u name xs h w.
      let n : RulesetName = table_ruleset_at p in
      let l : Loaded = loaded t n in
      let rest : Result (Unit {0}) TicketRefusal = growth_check (find name_order name l.tables) xs in
      let passed : cond (not (is_valid t n u)) (Err (Busy 0)) rest ≡ Ok tt = (both_passed (refused_at (λ i. Conflict i) (conflict_in xs)) (cond (not (is_valid t n u)) (Err (Busy 0)) rest) tt h).second in
      within-loaded t n u (with_entries l name xs) (more-entries l name xs (find name_order name l.tables) refl (not-refused (not (is_valid t n u)) (Busy 0) rest tt passed).1 (w.offered n)) w;
  commit = switches-keep IsWithin within-out;
  rollback = drops-keep IsWithin within-out;
}
