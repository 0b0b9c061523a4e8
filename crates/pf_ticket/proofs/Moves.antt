-- What a mention makes of its ruleset's offer, and that it leaves the others: one law for all mentions, and what follows for lists of them.
use Rattle.std.proofs.{Common.{◌≡◌, ℕ, ◌+◌, ◌<◌, Bool, true, false, not, cond, ◌&&◌, ◌||◌, List, [], ◌∷◌, ◌++◌, length, map, take, get_or, refl, sym, ap, ◌∙◌, Option, Some, None, is_some, arith}, lemmas.Bool.{or_parts, or_right, cond_both}, lemmas.List.map-id, lemmas.List.Folds.fold-map, lemmas.List.Sums.{fold-append, fold_more}, lemmas.Simd.map-map}
use Rattle.std.specs.List.{list_any}
use Rattle.pf_ticket.specs.{declared.{entry.RulesetTicket.RulesetTicket, name.RulesetName.RulesetName, ticket.Ticket.Ticket}, Laws.Tickets.{StartsWithNothing, LeavesTheOthers, CommitTakesOut, RollbackDropsExactly, GoesOnAgreeing, CountsTheOpen}, Mentions.{Mention, gave, added, defined, extended, switched, dropped, named_in, load, with_offers, take_out, moved, after, opened, gives}, Names.{same_name, is_named, is_ticket}, Laws.Names.name_is, Tickets.{Loaded, nothing, with_rule, with_table, with_entries, offered_as, PlainInactive, PlainSlots, offer_with, offer_at, with_offer, with_all, given_from, PlainTickets, tickets_with, fresh, next_ticket, ticket_in, loaded_in, loaded, is_valid}}
use Rattle.pf_table.specs.Edits.{replaced}
use Rattle.pf_ticket.proofs.Offers.{reads_with, named_under, AreInOrder, stays_sorted, distinct, length_with}
use Rattle.std.proofs.Math.Bool.{or-false}

-- ---- one law for all mentions

abbrev pub loaded_by : PlainTickets → RulesetName → Ticket → Loaded → Option PlainInactive
loaded_by t n u l = cond (is_valid t n u) (Some (offer_with u l)) (offer_at t.offers n)

abbrev pub made_by : PlainTickets → Mention → Option PlainInactive
made_by t (gave n) = Some (offer_with (next_ticket t) nothing)
made_by t (added n u r) = loaded_by t n u (with_rule (loaded t n) r)
made_by t (defined n u name xs) = loaded_by t n u (with_table (loaded t n) name (replaced xs))
made_by t (extended n u name xs) = loaded_by t n u (with_entries (loaded t n) name xs)
made_by t (switched n) = None
made_by t (dropped n u) = cond (is_valid t n u) None (offer_at t.offers n)

-- if the ticket isn't valid, its own offer stays, read by either name
where-valid : (t : PlainTickets) (n q : RulesetName) (b : Bool) (os : PlainSlots) (v : Option PlainInactive) → offer_at os q ≡ cond (same_name n q) v (offer_at t.offers q) → offer_at (cond b (with_offers t os) t).offers q ≡ cond (same_name n q) (cond b v (offer_at t.offers n)) (offer_at t.offers q)
where-valid t n q true os v h = h
where-valid t n q false os v h = cond_both (same_name n q) (offer_at t.offers n) (offer_at t.offers q) (λ (w : Option PlainInactive). offer_at t.offers q ≡ w) (λ e. ap (offer_at t.offers) (sym (name_is n q e))) (λ e. refl)

reads-load : (t : PlainTickets) (n : RulesetName) (u : Ticket) (l : Loaded) (q : RulesetName) → offer_at (load t n u l).offers q ≡ cond (same_name n q) (loaded_by t n u l) (offer_at t.offers q)
reads-load t n u l q = let new : Option PlainInactive = Some (offer_with u l) in where-valid t n q (is_valid t n u) (with_offer t.offers n new) new (reads_with t.offers n new q)

pub reads : (t : PlainTickets) (m : Mention) (q : RulesetName) → offer_at (moved t m).offers q ≡ cond (same_name (named_in m) q) (made_by t m) (offer_at t.offers q)
reads t (gave n) q = reads_with t.offers n (Some (offer_with (next_ticket t) nothing)) q
reads t (added n u r) q = reads-load t n u (with_rule (loaded t n) r) q
reads t (defined n u name xs) q = reads-load t n u (with_table (loaded t n) name (replaced xs)) q
reads t (extended n u name xs) q = reads-load t n u (with_entries (loaded t n) name xs) q
reads t (switched n) q = reads_with t.offers n None q
reads t (dropped n u) q = where-valid t n q (is_valid t n u) (with_offer t.offers n None) None (reads_with t.offers n None q)

pub leaves_the_others : LeavesTheOthers
leaves_the_others t [] name h = refl
leaves_the_others t (m ∷ ms) name h =
    let both : (same_name (named_in m) name ≡ false) × (is_named (map named_in ms) name ≡ false) = or_parts (same_name (named_in m) name) (is_named (map named_in ms) name) h in
    leaves_the_others (moved t m) ms name both.1 ∙ reads t m name ∙ ap (λ (b : Bool). cond b (made_by t m) (offer_at t.offers name)) both.0

out-either : (b c : Bool) (x v : Option PlainInactive) → cond b x (cond c x v) ≡ cond (c || b) x v
out-either true true x v = refl
out-either true false x v = refl
out-either false true x v = refl
out-either false false x v = refl

pub commit_takes_out : CommitTakesOut
commit_takes_out t [] name = refl
commit_takes_out t (n ∷ ns) name =
    commit_takes_out (moved t (switched n)) ns name ∙ ap (λ (v : Option PlainInactive). cond (is_named ns name) None v) (reads t (switched n) name) ∙ out-either (is_named ns name) (same_name n name) None (offer_at t.offers name)

read-dropped : (t : PlainTickets) (n : RulesetName) (u : Ticket) (q : RulesetName) → offer_at (moved t (dropped n u)).offers q ≡ cond (same_name n q && is_valid t q u) None (offer_at t.offers q)
read-dropped t n u q = reads t (dropped n u) q ∙ cond_both (same_name n q) (made_by t (dropped n u)) (offer_at t.offers q) (λ (v : Option PlainInactive). v ≡ cond (same_name n q && is_valid t q u) None (offer_at t.offers q))
    (λ e. ap (λ (p : RulesetName). made_by t (dropped p u)) (name_is n q e) ∙ ap (λ (b : Bool). cond (b && is_valid t q u) None (offer_at t.offers q)) (sym e))
    (λ e. ap (λ (b : Bool). cond (b && is_valid t q u) None (offer_at t.offers q)) (sym e))

-- what these entries leave of a ruleset's offer
abbrev left_of : RulesetName → List RulesetTicket → Option PlainInactive → Option PlainInactive
left_of q es v = cond (list_any (λ e. same_name e.name q && is_ticket (ticket_in v) e.ticket) es) None v

none-left : (b : Bool) → cond b None None ≡ (let none : Option PlainInactive = None in none)
none-left true = refl
none-left false = refl

left-once : (q : RulesetName) (es : List RulesetTicket) (v : Option PlainInactive) (b : Bool) → left_of q es (cond b None v) ≡ cond (b || list_any (λ e. same_name e.name q && is_ticket (ticket_in v) e.ticket) es) None v
left-once q es v true = none-left (list_any (λ e. same_name e.name q && false) es)
left-once q es v false = refl

pub rollback_drops_exactly : RollbackDropsExactly
rollback_drops_exactly t [] name = refl
rollback_drops_exactly t (e ∷ es) name =
    rollback_drops_exactly (moved t (dropped e.name e.ticket)) es name ∙ ap (left_of name es) (read-dropped t e.name e.ticket name) ∙ left-once name es (offer_at t.offers name) (same_name e.name name && is_valid t name e.ticket)

-- ---- what the mentions since an opening leave

-- what a load keeps
pub load-keeps : (t : PlainTickets) (n : RulesetName) (u : Ticket) (l : Loaded) (P : PlainTickets → Type 0) → ((new : PlainInactive) → P (with_offers t (with_offer t.offers n (Some new)))) → P t → P (load t n u l)
load-keeps t n u l P put_in out = cond_both (is_valid t n u) (with_offers t (with_offer t.offers n (Some (offer_with u l)))) t P (λ e. put_in (offer_with u l)) (λ e. out)

epoch-on : (t : PlainTickets) (m : Mention) → (moved t m).epoch ≡ t.epoch
epoch-on t (gave n) = refl
epoch-on t (added n u r) = load-keeps t n u (with_rule (loaded t n) r) (λ (s : PlainTickets). s.epoch ≡ t.epoch) (λ os. refl) refl
epoch-on t (defined n u name xs) = load-keeps t n u (with_table (loaded t n) name (replaced xs)) (λ (s : PlainTickets). s.epoch ≡ t.epoch) (λ os. refl) refl
epoch-on t (extended n u name xs) = load-keeps t n u (with_entries (loaded t n) name xs) (λ (s : PlainTickets). s.epoch ≡ t.epoch) (λ os. refl) refl
epoch-on t (switched n) = refl
epoch-on t (dropped n u) = cond_both (is_valid t n u) (take_out t n) t (λ (s : PlainTickets). s.epoch ≡ t.epoch) (λ e. refl) (λ e. refl)

pub epoch-stays : (t : PlainTickets) (ms : List Mention) → (after t ms).epoch ≡ t.epoch
epoch-stays t [] = refl
epoch-stays t (m ∷ ms) = epoch-stays (moved t m) ms ∙ epoch-on t m

pub goes_on_agreeing : GoesOnAgreeing
goes_on_agreeing = record {
  first = λ epoch. refl;
  on = λ t ms more is. ap (λ (s : PlainTickets). after s more) is ∙ sym (fold-append moved (fresh t.epoch) ms more) ∙ ap (λ (e : ℕ). opened e (ms ++ more)) (sym (epoch-stays t more));
}

-- ---- how many rulesets are open

sorted-on : (t : PlainTickets) (m : Mention) → AreInOrder t.offers → AreInOrder (moved t m).offers
sorted-on t (gave n) h = stays_sorted t.offers n (Some (offer_with (next_ticket t) nothing)) h
sorted-on t (added n u r) h = load-keeps t n u (with_rule (loaded t n) r) (λ (s : PlainTickets). AreInOrder s.offers) (λ new. stays_sorted t.offers n (Some new) h) h
sorted-on t (defined n u name xs) h = load-keeps t n u (with_table (loaded t n) name (replaced xs)) (λ (s : PlainTickets). AreInOrder s.offers) (λ new. stays_sorted t.offers n (Some new) h) h
sorted-on t (extended n u name xs) h = load-keeps t n u (with_entries (loaded t n) name xs) (λ (s : PlainTickets). AreInOrder s.offers) (λ new. stays_sorted t.offers n (Some new) h) h
sorted-on t (switched n) h = stays_sorted t.offers n None h
sorted-on t (dropped n u) h = cond_both (is_valid t n u) (take_out t n) t (λ (s : PlainTickets). AreInOrder s.offers) (λ e. stays_sorted t.offers n None h) (λ e. h)

sorted-after : (t : PlainTickets) (ms : List Mention) → AreInOrder t.offers → AreInOrder (after t ms).offers
sorted-after t [] h = h
sorted-after t (m ∷ ms) h = sorted-after (moved t m) ms (sorted-on t m h)

with-ticket : (v : Option PlainInactive) → is_some v ≡ is_some (ticket_in v)
with-ticket None = refl
with-ticket (Some o) = refl

pub counts_the_open : CountsTheOpen
counts_the_open epoch ms =
    let t : PlainTickets = after (fresh epoch) ms in
    record { once = distinct t.offers (sorted-after (fresh epoch) ms tt); valid = λ name. named_under t.offers name ∙ with-ticket (offer_at t.offers name) }

-- ---- what a begin leaves

-- a begin mentions what it names
pub gives-named : (names : List RulesetName) → map named_in (gives names) ≡ names
gives-named names = map-map named_in (λ (n : RulesetName). gave n) names ∙ map-id names

starts-from : (t : PlainTickets) (names : List RulesetName) (q : RulesetName) → (is_named names q ≡ false → loaded t q ≡ nothing) → loaded (after t (gives names)) q ≡ nothing
starts-from t [] q h = h refl
starts-from t (n ∷ ns) q h =
    starts-from (moved t (gave n)) ns q (λ none. ap loaded_in (reads t (gave n) q) ∙
    cond_both (same_name n q) (made_by t (gave n)) (offer_at t.offers q) (λ (v : Option PlainInactive). loaded_in v ≡ nothing)
    (λ e. refl) (λ e. h (ap (λ (b : Bool). b || is_named ns q) e ∙ none)))

pub starts_with_nothing : StartsWithNothing
starts_with_nothing t names name named = ap (offered_as name.kind) (starts-from t names name (λ none. let k : true ≡ false = sym named ∙ none in absurd (cc (k))))

-- all that it offers at once
one-given : (t : PlainTickets) (next : ℕ) (os : PlainSlots) → next ≡ t.next → os ≡ t.offers → tickets_with t.epoch next os ≡ t
one-given t next os e f = λ i. tickets_with t.epoch (e i) (f i)

pub given_at_once : (t : PlainTickets) (names : List RulesetName) → tickets_with t.epoch (t.next + length names) (with_all t.offers (given_from t.epoch t.next names)) ≡ after t (gives names)
given_at_once t [] = one-given t (t.next + 0) t.offers (omega arith) refl
given_at_once t (n ∷ ns) =
    ap (λ (k : ℕ). tickets_with t.epoch k (with_all t.offers (given_from t.epoch t.next (n ∷ ns)))) (let same : t.next + length (n ∷ ns) ≡ t.next + 1 + length ns = omega arith in same)
    ∙ given_at_once (moved t (gave n)) ns

-- ---- what the code counts

one-more : (b c : Bool) (new : PlainInactive) (v : Option PlainInactive) → (is_some (cond b (Some new) v) || c) ≡ (is_some v || (b || c))
one-more true c new v = sym (or_right (is_some v) true refl)
one-more false c new v = refl

all-given : (t : PlainTickets) (names : List RulesetName) (q : RulesetName) → is_some (offer_at (after t (gives names)).offers q) ≡ (is_some (offer_at t.offers q) || is_named names q)
all-given t [] q = sym (or-false (is_some (offer_at t.offers q)))
all-given t (n ∷ ns) q =
    all-given (moved t (gave n)) ns q ∙ ap (λ (v : Option PlainInactive). is_some v || is_named ns q) (reads t (gave n) q)
    ∙ one-more (same_name n q) (is_named ns q) (offer_with (next_ticket t) nothing) (offer_at t.offers q)

count-new : (k : ℕ) (b new : Bool) → new ≡ not b → k + cond b 0 1 ≡ k + cond new 1 0
count-new k true new h = ap (λ (c : Bool). k + cond c 1 0) (sym h)
count-new k false new h = ap (λ (c : Bool). k + cond c 1 0) (sym h)

-- one more name counts if it has no offer and isn't named before
pub opened_more : (t : PlainTickets) (names : List RulesetName) (i : ℕ) (name : RulesetName) (new : Bool) → AreInOrder t.offers → i < length names → name ≡ get_or names i name → new ≡ not (is_some (offer_at t.offers name) || is_named (take i names) name) →
    length (after t (gives (take (i + 1) names))).offers ≡ length (after t (gives (take i names))).offers + cond new 1 0
opened_more t names i name new h l e is =
    let before : PlainTickets = after t (gives (take i names)) in
    let give : RulesetName → Mention = λ n. gave n in
    ap (λ (s : PlainTickets). length s.offers) (fold-map moved give t (take (i + 1) names) ∙ fold_more (λ (s : PlainTickets) (n : RulesetName). moved s (gave n)) t names i name l ∙ ap (λ (s : PlainTickets). moved s (gave (get_or names i name))) (sym (fold-map moved give t (take i names))))
    ∙ ap (λ (n : RulesetName). length (moved before (gave n)).offers) (sym e)
    ∙ length_with before.offers name (offer_with (next_ticket before) nothing) (sorted-after t (gives (take i names)) h)
    ∙ count-new (length before.offers) (is_some (offer_at before.offers name)) new (is ∙ ap not (sym (all-given t (take i names) name)))
