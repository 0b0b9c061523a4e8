-- What an accepted define or extend offers for its table, entry by entry.
use Rattle.std.proofs.{Common.{◌≡◌, ℕ, ◌+◌, Bool, true, false, not, cond, ◌||◌, List, [], ◌∷◌, length, nat_lt, Option, Some, None, option_map, Result, Ok, Err, refl, sym, ap, ◌∙◌, arith}, lemmas.Bool.or_parts, lemmas.Bool.Decides.nat_tests}
use Rattle.std.specs.{Bool.beq, Cmp.eq_by_cmp_equiv, Cmp.Lexicographic.nat_list_cmp_total, FinMap.find, FinMap.Entries.find_tied, List.{list_any, position_or_len}, Option.{option_map_or, option_or}, Ordering.eq_by_cmp}
use Rattle.pf_addr.specs.{Path.Names.{name_order, same_name as same_table}, NetOrder.net_order, Laws.NetOrder.net_total, Refusing.{unless, refused_at, both_passed}}
use Rattle.pf_map.proofs.Tests.{equal_of}
use Rattle.pf_table.specs.declared.limits.TheConstants.{TABLE_LIMIT}
use Rattle.pf_table.specs.{Edits.{added as entries_added, replaced, is_sign, has_entry, conflict_in, same_entry}, Entries.PlainEntry, Laws.Edits.{any_is_sign, sign_added}, Tables.sign_of}
use Rattle.pf_table.proofs.Batches.{agreeing}
use Rattle.pf_ticket.specs.{declared.{limits.TheConstants.OFFERED_TABLE_LIMIT, name.RulesetName.RulesetName, refusal.TicketRefusal.TicketRefusal, refusal.TicketRefusal.TheVariants.{Busy, Conflict, TableFull, TooManyTables}, ticket.Ticket.Ticket}, Laws.Tickets.{OffersEachEntry}, Laws.Names.names_alike, Mentions.{Mention, defined, extended, named_in, moved}, Names.{table_ruleset_at}, Replies.{opposite, conflict_with, growth_check, define_reply, extend_reply}, Tickets.{Loaded, with_table, with_entries, PlainInactive, offer_with, offer_at, PlainTickets, loaded_in, loaded, is_valid}}
use Rattle.pf_ticket.proofs.{Moves.{made_by, reads}, Latest.{defined-at, extended-at}}

-- ---- which checks were passed

not-at : (o : Option ℕ) (why : ℕ → TicketRefusal) → refused_at why o ≡ Ok tt → o ≡ None
not-at None why h = refl
not-at (Some i) why h = absurd (cc (h))

not-stopped : (b : Bool) (x : TicketRefusal) (r : Result (Unit {0}) TicketRefusal) → cond b (Err x) r ≡ Ok tt → (b ≡ false) × (r ≡ Ok tt)
not-stopped true x r h = absurd (cc (h))
not-stopped false x r h = (refl, h)

so-valid : (b : Bool) → not b ≡ false → b ≡ true
so-valid true h = refl
so-valid false h = absurd (cc (h))

-- ---- a list that names no network with both signs

-- the table of a list has the entries of the list
made-has : (xs : List PlainEntry) (x : PlainEntry) → conflict_in xs ≡ None → has_entry (replaced xs) x ≡ list_any (same_entry x) xs
made-has xs x agree = ap (is_sign x.1) (sign_added [] xs x.0) ∙ sym (any_is_sign xs (agreeing xs agree) x.0 x.1)

none-found : (p : PlainEntry → Bool) (xs : List PlainEntry) → nat_lt (position_or_len p xs) (length xs) ≡ false → list_any p xs ≡ false
none-found p [] h = refl
none-found p (x ∷ xs) h = by (p x) (none-found p xs) h where
  by : (b : Bool) → (nat_lt (position_or_len p xs) (length xs) ≡ false → list_any p xs ≡ false) → nat_lt (cond (not b) (1 + position_or_len p xs) 0) (length (x ∷ xs)) ≡ false → (b || list_any p xs) ≡ false
  by true rest at = absurd (grind (arith, nat_tests, at))
  by false rest at = rest (grind (arith, nat_tests, at))

not-placed : (b : Bool) (i : ℕ) → cond b (Some i) None ≡ None → b ≡ false
not-placed true i h = absurd (cc (h))
not-placed false i h = refl

none-opposite : (rows xs : List PlainEntry) → conflict_with rows xs ≡ None → list_any (λ x. has_entry rows (opposite x)) xs ≡ false
none-opposite rows xs h = none-found (λ x. has_entry rows (opposite x)) xs (not-placed _ _ h)

-- two signs that aren't equal are opposite
turned : (a b : Bool) → beq a b ≡ false → beq (not a) b ≡ true
turned true true h = sym h
turned true false h = refl
turned false true h = refl
turned false false h = sym h

-- an entry isn't in a list of which none contradicts a table that has its network with the other sign
not-named : (rows xs : List PlainEntry) (x : PlainEntry) (s : Bool) → sign_of x.0 rows ≡ Some s → beq x.1 s ≡ false → list_any (λ y. has_entry rows (opposite y)) xs ≡ false → list_any (same_entry x) xs ≡ false
not-named rows [] x s at other none = refl
not-named rows (y ∷ ys) x s at other none = by (eq_by_cmp net_order x.0 y.0) refl (beq x.1 y.1) refl (not-named rows ys x s at other (or_parts _ _ none).1) where
  both : (a b t : Bool) → beq a t ≡ false → beq (not b) t ≡ false → beq a b ≡ true → true ≡ false
  both true true t p q r = sym (turned true t p) ∙ q
  both true false t p q r = sym r
  both false true t p q r = sym r
  both false false t p q r = sym (turned false t p) ∙ q

  by : (t : Bool) → eq_by_cmp net_order x.0 y.0 ≡ t → (b : Bool) → beq x.1 y.1 ≡ b → list_any (same_entry x) ys ≡ false → list_any (same_entry x) (y ∷ ys) ≡ false
  by true tied true same rest =
      let there : sign_of y.0 rows ≡ Some s = find_tied net_order net_total x.0 y.0 (equal_of (net_order x.0 y.0) tied) rows ∙ at in
      let apart : beq (not y.1) s ≡ false = ap (is_sign (not y.1)) (sym there) ∙ (or_parts _ _ none).0 in
      absurd (cc (both x.1 y.1 s other apart same))
  by true tied false same rest = rw (tied, same) rest
  by false tied b same rest = rw tied rest

-- a table with more entries has its own and those
grown-has : (rows xs : List PlainEntry) (x : PlainEntry) → conflict_in xs ≡ None → conflict_with rows xs ≡ None → has_entry (entries_added rows xs) x ≡ (has_entry rows x || list_any (same_entry x) xs)
grown-has rows xs x agree apart = ap (is_sign x.1) (sign_added rows xs x.0) ∙ by (sign_of x.0 rows) refl where
  by : (o : Option Bool) → sign_of x.0 rows ≡ o → is_sign x.1 (option_or o (sign_of x.0 xs)) ≡ (is_sign x.1 o || list_any (same_entry x) xs)
  by None at = sym (any_is_sign xs (agreeing xs agree) x.0 x.1)
  by (Some s) at = sign (beq x.1 s) refl where
    sign : (b : Bool) → beq x.1 s ≡ b → b ≡ (b || list_any (same_entry x) xs)
    sign true same = refl
    sign false other = sym (not-named rows xs x s at other (none-opposite rows xs apart))

-- ---- what is offered

-- what a mention with the valid ticket loads for its ruleset
loads-own : (t : PlainTickets) (m : Mention) → offer_at (moved t m).offers (named_in m) ≡ made_by t m
loads-own t m = reads t m (named_in m) ∙ ap (λ (b : Bool). cond b (made_by t m) (offer_at t.offers (named_in m))) (names_alike.refl (named_in m))

if-valid : (b : Bool) (u : Ticket) (l : Loaded) (v : Option PlainInactive) → b ≡ true → loaded_in (cond b (Some (offer_with u l)) v) ≡ l
if-valid true u l v h = refl
if-valid false u l v h = absurd (cc (h))

own-name : (name : List ℕ) → same_table name name ≡ true
own-name name = (eq_by_cmp_equiv nat_list_cmp_total).refl name

-- by the rows that are found under a name
abbrev has_in : PlainEntry → Option (List PlainEntry) → Bool
has_in x o = option_map_or (λ rows. has_entry rows x) o false

defines : (t : PlainTickets) (n : RulesetName) (u : Ticket) (name : List ℕ) (xs : List PlainEntry) (x : PlainEntry) → define_reply t n u name xs ≡ Ok tt → has_in x (find name_order name (loaded (moved t (defined n u name xs)) n).tables) ≡ list_any (same_entry x) xs
defines t n u name xs x h =
    let many : Result (Unit {0}) TicketRefusal = cond (nat_lt OFFERED_TABLE_LIMIT (length (with_table (loaded t n) name (replaced xs)).tables)) (Err TooManyTables) (Ok tt) in
    let limits : Result (Unit {0}) TicketRefusal = cond (nat_lt TABLE_LIMIT (length (replaced xs))) (Err TableFull) many in
    let passed = both_passed (refused_at (λ i. Conflict i) (conflict_in xs)) (cond (not (is_valid t n u)) (Err (Busy 0)) limits) tt h in
    let agree : conflict_in xs ≡ None = not-at (conflict_in xs) (λ i. Conflict i) passed.first in
    let valid : is_valid t n u ≡ true = so-valid (is_valid t n u) (not-stopped (not (is_valid t n u)) (Busy 0) limits passed.second).0 in
    let new : loaded (moved t (defined n u name xs)) n ≡ with_table (loaded t n) name (replaced xs) =
    ap loaded_in (loads-own t (defined n u name xs)) ∙ if-valid (is_valid t n u) u (with_table (loaded t n) name (replaced xs)) (offer_at t.offers n) valid in
    ap (λ (l : Loaded). has_in x (find name_order name l.tables)) new ∙ ap (has_in x) (defined-at (loaded t n) name name xs true true (own-name name)) ∙ made-has xs x agree

-- by what is found under the name of an extend
extends-found : (l : Loaded) (name : List ℕ) (xs : List PlainEntry) (x : PlainEntry) (o : Option (List PlainEntry)) → conflict_in xs ≡ None → growth_check o xs ≡ Ok tt → has_in x (option_map (λ rows. entries_added rows xs) o) ≡ (has_in x o || list_any (same_entry x) xs)
extends-found l name xs x None agree h = absurd (cc (h))
extends-found l name xs x (Some rows) agree h =
    let full : Result (Unit {0}) TicketRefusal = unless (nat_lt TABLE_LIMIT (length (entries_added rows xs))) TableFull in
    grown-has rows xs x agree (not-at (conflict_with rows xs) (λ i. Conflict i) (both_passed (refused_at (λ i. Conflict i) (conflict_with rows xs)) full tt h).first)

extends : (t : PlainTickets) (n : RulesetName) (u : Ticket) (name : List ℕ) (xs : List PlainEntry) (x : PlainEntry) → extend_reply t n u name xs ≡ Ok tt → has_in x (find name_order name (loaded (moved t (extended n u name xs)) n).tables) ≡ (has_in x (find name_order name (loaded t n).tables) || list_any (same_entry x) xs)
extends t n u name xs x h =
    let rest : Result (Unit {0}) TicketRefusal = growth_check (find name_order name (loaded t n).tables) xs in
    let passed = both_passed (refused_at (λ i. Conflict i) (conflict_in xs)) (cond (not (is_valid t n u)) (Err (Busy 0)) rest) tt h in
    let agree : conflict_in xs ≡ None = not-at (conflict_in xs) (λ i. Conflict i) passed.first in
    let on : (not (is_valid t n u) ≡ false) × (rest ≡ Ok tt) = not-stopped (not (is_valid t n u)) (Busy 0) rest passed.second in
    let new : loaded (moved t (extended n u name xs)) n ≡ with_entries (loaded t n) name xs =
    ap loaded_in (loads-own t (extended n u name xs)) ∙ if-valid (is_valid t n u) u (with_entries (loaded t n) name xs) (offer_at t.offers n) (so-valid (is_valid t n u) on.0) in
    ap (λ (l : Loaded). has_in x (find name_order name l.tables)) new ∙ ap (has_in x) (extended-at (loaded t n) name name xs true true (own-name name))
    ∙ extends-found (loaded t n) name xs x (find name_order name (loaded t n).tables) agree on.1

pub offers_each_entry : OffersEachEntry
offers_each_entry = record {
  define = λ t p u name xs x h. defines t (table_ruleset_at p) u name xs x h;
  extend = λ t p u name xs x h. extends t (table_ruleset_at p) u name xs x h;
}
