-- The valid ticket of a ruleset is the one that the latest mention that touched it gave, and what was added, defined and extended since
-- then is offered with it.
use Rattle.std.proofs.{Common.{◌≡◌, ℕ, Bool, true, false, cond, ◌&&◌, ◌==◌, List, [], ◌∷◌, ◌++◌, refl, sym, ap, ◌∙◌, subst, Option, Some, None, option_map, ◌⊎◌, inl, inr, append_assoc, fold}, lemmas.Bool.{eqb-true, and_parts, cond_both}, lemmas.List.append-nil, lemmas.List.Sums.fold-append}
use Rattle.std.specs.{Prelude.{flat_map, T}, FinMap.{find, put, is_sorted}, FinMap.Entries.{find-put, find_tied, is_sorted-put}, Cmp.Lexicographic.nat_list_cmp_total, Option.{option_or, option_map_or}}
use Rattle.pf_addr.specs.Path.Names.{name_order, same_name as same_table}
use Rattle.pf_rule.specs.Rules.{PlainRule}
use Rattle.pf_table.specs.{Edits.{with_entry, added as entries_added, replaced}, Entries.PlainEntry}
use Rattle.pf_ticket.specs.{declared.{name.RulesetName.RulesetName, ticket.Ticket.Ticket}, Laws.Tickets.{touches, AreQuiet, IsGivenLast, ValidIsGivenLast, GivenLastIsValid, rules_added, OffersTheAdded, entries_defined, entries_extended, entries_since, OffersTheDefined}, Mentions.{Mention, gave, added, defined, extended, switched, dropped, named_in, moved, after}, Names.{filter_at, table_ruleset_at, same_name, ticket, same_ticket, is_ticket}, Laws.Names.{names_alike, name_is}, NamedTables.PlainDefinedTable, Tickets.{Loaded, nothing, with_rule, with_table, with_entries, PlainInactive, offer_with, offer_at, PlainTickets, fresh, next_ticket, ticket_in, loaded_in, valid_ticket, loaded, is_valid}}
use Rattle.pf_map.proofs.Tests.{equal_of}
use Rattle.pf_ticket.proofs.Moves.{made_by, reads}

-- two tickets that are the same are equal
ticket_is : (u w : Ticket) → same_ticket u w ≡ true → u ≡ w
ticket_is u w h =
    let both : (u.epoch == w.epoch ≡ true) × (u.count == w.count ≡ true) = and_parts (u.epoch == w.epoch) (u.count == w.count) h in
    ap (λ (k : ℕ). ticket k u.count) (eqb-true u.epoch w.epoch both.0) ∙ ap (λ (k : ℕ). ticket w.epoch k) (eqb-true u.count w.count both.1)

valid-is : (v : Option Ticket) (t : Ticket) → is_ticket v t ≡ true → v ≡ Some t
valid-is None t h = absurd (cc (h))
valid-is (Some u) t h = ap Some (ticket_is u t h)

never : {A : Type 0} (name : RulesetName) → same_name name name ≡ false → A
never name h = let k : true ≡ false = sym (names_alike.refl name) ∙ h in absurd (cc (k))

-- ---- a valid ticket was given

-- it was there before and nothing touched it, or some mention gave it
abbrev StoodOrGiven : PlainTickets → List Mention → RulesetName → Ticket → Type 0
StoodOrGiven t ms name u = ((valid_ticket t name ≡ Some u) × AreQuiet name u ms) ⊎ IsGivenLast t ms name u

later : (t : PlainTickets) (m : Mention) (ms : List Mention) (name : RulesetName) (u : Ticket) → IsGivenLast (moved t m) ms name u → IsGivenLast t (m ∷ ms) name u
later t m ms name u g = record { before = m ∷ g.before; given = g.given; following = g.following; all = ap (λ (xs : List Mention). m ∷ xs) g.all; same = g.same; ticket = g.ticket; quiet = g.quiet }

loaded-stood : (t : PlainTickets) (n : RulesetName) (w u : Ticket) (l : Loaded) (b : Bool) → is_valid t n w ≡ b → ticket_in (cond b (Some (offer_with w l)) (offer_at t.offers n)) ≡ Some u → valid_ticket t n ≡ Some u
loaded-stood t n w u l true e h = valid-is (valid_ticket t n) w e ∙ h
loaded-stood t n w u l false e h = h

dropped-stood : (t : PlainTickets) (n : RulesetName) (w u : Ticket) (b : Bool) → is_valid t n w ≡ b → ticket_in (cond b None (offer_at t.offers n)) ≡ Some u → (valid_ticket t n ≡ Some u) × (same_ticket u w ≡ false)
dropped-stood t n w u true e h = absurd (cc (h))
dropped-stood t n w u false e h = (h, ap (λ (v : Option Ticket). is_ticket v w) (sym h) ∙ e)

-- for the mention's own ruleset
own-stood : (t : PlainTickets) (m : Mention) (ms : List Mention) (u : Ticket) → ticket_in (made_by t m) ≡ Some u → AreQuiet (named_in m) u ms → StoodOrGiven t (m ∷ ms) (named_in m) u
own-stood t (gave n) ms u h quiet = inr (record { before = []; given = n; following = ms; all = refl; same = names_alike.refl n; ticket = (let is : Some (next_ticket t) ≡ Some u = h in cc (is)); quiet = quiet })
own-stood t (added n w r) ms u h quiet = inl (loaded-stood t n w u (with_rule (loaded t n) r) (is_valid t n w) refl h, (refl, quiet))
own-stood t (defined n w name xs) ms u h quiet = inl (loaded-stood t n w u (with_table (loaded t n) name (replaced xs)) (is_valid t n w) refl h, (refl, quiet))
own-stood t (extended n w name xs) ms u h quiet = inl (loaded-stood t n w u (with_entries (loaded t n) name xs) (is_valid t n w) refl h, (refl, quiet))
own-stood t (switched n) ms u h quiet = absurd (cc (h))
own-stood t (dropped n w) ms u h quiet =
    let both : (valid_ticket t n ≡ Some u) × (same_ticket u w ≡ false) = dropped-stood t n w u (is_valid t n w) refl h in
    inl (both.0, (ap (λ (b : Bool). b && same_ticket u w) (names_alike.refl n) ∙ both.1, quiet))

untouched : (m : Mention) (q : RulesetName) (u : Ticket) → same_name (named_in m) q ≡ false → touches q u m ≡ false
untouched (gave n) q u e = e
untouched (added n w r) q u e = refl
untouched (defined n w name xs) q u e = refl
untouched (extended n w name xs) q u e = refl
untouched (switched n) q u e = e
untouched (dropped n w) q u e = ap (λ (b : Bool). b && same_ticket u w) e

stood-by : (t : PlainTickets) (m : Mention) (ms : List Mention) (q : RulesetName) (u : Ticket) (b : Bool) → same_name (named_in m) q ≡ b → ticket_in (cond b (made_by t m) (offer_at t.offers q)) ≡ Some u → AreQuiet q u ms → StoodOrGiven t (m ∷ ms) q u
stood-by t m ms q u true e h quiet =
    let is : named_in m ≡ q = name_is (named_in m) q e in
    subst (λ (p : RulesetName). StoodOrGiven t (m ∷ ms) p u) is (own-stood t m ms u h (subst (λ (p : RulesetName). AreQuiet p u ms) (sym is) quiet))
stood-by t m ms q u false e h quiet = inl (h, (untouched m q u e, quiet))

stood-or-given : (t : PlainTickets) (ms : List Mention) (q : RulesetName) (u : Ticket) → valid_ticket (after t ms) q ≡ Some u → StoodOrGiven t ms q u
stood-or-given t [] q u is = inl (is, tt)
stood-or-given t (m ∷ ms) q u is = elim (stood-or-given (moved t m) ms q u is) [
  | inl stood ↦ stood-by t m ms q u (same_name (named_in m) q) refl (ap ticket_in (sym (reads t m q)) ∙ stood.0) stood.1
  | inr given ↦ inr (later t m ms q u given)
]

pub valid_is_given_last : ValidIsGivenLast
valid_is_given_last epoch ms name u is = elim (stood-or-given (fresh epoch) ms name u is) [
  | inl stood ↦ let none : None ≡ Some u = stood.0 in absurd (cc (none))
  | inr given ↦ given
]

-- ---- what doesn't touch a ruleset leaves its ticket, and loads what it loads with it

abbrev loads : RulesetName → Ticket → Loaded → Mention → Loaded
loads q u l (gave n) = l
loads q u l (added n w r) = cond (same_name n q && same_ticket u w) (with_rule l r) l
loads q u l (defined n w name xs) = cond (same_name n q && same_ticket u w) (with_table l name (replaced xs)) l
loads q u l (extended n w name xs) = cond (same_name n q && same_ticket u w) (with_entries l name xs) l
loads q u l (switched n) = l
loads q u l (dropped n w) = l

-- a ruleset's offer still has this ticket, and this was loaded with it
abbrev Has : Ticket → Loaded → Option PlainInactive → Type 0
Has u l v = (ticket_in v ≡ Some u) × (loaded_in v ≡ l)

-- for the mention's own ruleset
own-load : (t : PlainTickets) (n : RulesetName) (w u : Ticket) (l : Loaded) (b : Bool) → is_valid t n w ≡ b → valid_ticket t n ≡ Some u → Has u (cond (same_name n n && same_ticket u w) l (loaded t n)) (cond b (Some (offer_with w l)) (offer_at t.offers n))
own-load t n w u l true e h =
    let same : same_ticket u w ≡ true = ap (λ (v : Option Ticket). is_ticket v w) (sym h) ∙ e in
    (ap Some (sym (ticket_is u w same)), sym (ap (λ (b : Bool). cond (b && same_ticket u w) l (loaded t n)) (names_alike.refl n) ∙ ap (λ (b : Bool). cond b l (loaded t n)) same))
own-load t n w u l false e h =
    let same : same_ticket u w ≡ false = ap (λ (v : Option Ticket). is_ticket v w) (sym h) ∙ e in
    (h, sym (ap (λ (b : Bool). cond (b && same_ticket u w) l (loaded t n)) (names_alike.refl n) ∙ ap (λ (b : Bool). cond b l (loaded t n)) same))

own-stays : (t : PlainTickets) (m : Mention) (u : Ticket) → valid_ticket t (named_in m) ≡ Some u → touches (named_in m) u m ≡ false → Has u (loads (named_in m) u (loaded t (named_in m)) m) (made_by t m)
own-stays t (gave n) u h quiet = never n quiet
own-stays t (added n w r) u h quiet = own-load t n w u (with_rule (loaded t n) r) (is_valid t n w) refl h
own-stays t (defined n w name xs) u h quiet = own-load t n w u (with_table (loaded t n) name (replaced xs)) (is_valid t n w) refl h
own-stays t (extended n w name xs) u h quiet = own-load t n w u (with_entries (loaded t n) name xs) (is_valid t n w) refl h
own-stays t (switched n) u h quiet = never n quiet
own-stays t (dropped n w) u h quiet =
    let other : same_ticket u w ≡ false = ap (λ (b : Bool). b && same_ticket u w) (sym (names_alike.refl n)) ∙ quiet in
    let kept : is_valid t n w ≡ false = ap (λ (v : Option Ticket). is_ticket v w) h ∙ other in
    subst (λ (b : Bool). Has u (loaded t n) (cond b None (offer_at t.offers n))) (sym kept) (h, refl)

none-loaded : (m : Mention) (q : RulesetName) (u : Ticket) (l : Loaded) → same_name (named_in m) q ≡ false → loads q u l m ≡ l
none-loaded (gave n) q u l e = refl
none-loaded (added n w r) q u l e = ap (λ (b : Bool). cond (b && same_ticket u w) (with_rule l r) l) e
none-loaded (defined n w name xs) q u l e = ap (λ (b : Bool). cond (b && same_ticket u w) (with_table l name (replaced xs)) l) e
none-loaded (extended n w name xs) q u l e = ap (λ (b : Bool). cond (b && same_ticket u w) (with_entries l name xs) l) e
none-loaded (switched n) q u l e = refl
none-loaded (dropped n w) q u l e = refl

stays-by : (t : PlainTickets) (m : Mention) (q : RulesetName) (u : Ticket) (b : Bool) → same_name (named_in m) q ≡ b → valid_ticket t q ≡ Some u → touches q u m ≡ false → Has u (loads q u (loaded t q) m) (cond b (made_by t m) (offer_at t.offers q))
stays-by t m q u true e h quiet =
    let is : named_in m ≡ q = name_is (named_in m) q e in
    subst (λ (p : RulesetName). Has u (loads p u (loaded t p) m) (made_by t m)) is (own-stays t m u (ap (λ (p : RulesetName). valid_ticket t p) is ∙ h) (ap (λ (p : RulesetName). touches p u m) is ∙ quiet))
stays-by t m q u false e h quiet = (h, sym (none-loaded m q u (loaded t q) e))

quiet-on : (t : PlainTickets) (ms : List Mention) (q : RulesetName) (u : Ticket) → valid_ticket t q ≡ Some u → AreQuiet q u ms → Has u (fold (loads q u) (loaded t q) ms) (offer_at (after t ms).offers q)
quiet-on t [] q u h quiet = (h, refl)
quiet-on t (m ∷ ms) q u h quiet =
    let one : Has u (loads q u (loaded t q) m) (offer_at (moved t m).offers q) = subst (λ (v : Option PlainInactive). Has u (loads q u (loaded t q) m) v) (sym (reads t m q)) (stays-by t m q u (same_name (named_in m) q) refl h quiet.0) in
    let rest : Has u (fold (loads q u) (loaded (moved t m) q) ms) (offer_at (after (moved t m) ms).offers q) = quiet-on (moved t m) ms q u one.0 quiet.1 in
    (rest.0, rest.1 ∙ ap (λ (l : Loaded). fold (loads q u) l ms) one.1)

-- since it was given
given-since : (t : PlainTickets) (ms : List Mention) (q : RulesetName) (u : Ticket) → (g : IsGivenLast t ms q u) → Has u (fold (loads q u) nothing g.following) (offer_at (after t ms).offers q)
given-since t ms q u g =
    let s : PlainTickets = after t g.before in
    let now : offer_at (moved s (gave g.given)).offers q ≡ made_by s (gave g.given) =
    reads s (gave g.given) q ∙ ap (λ (b : Bool). cond b (made_by s (gave g.given)) (offer_at s.offers q)) g.same in
    let all : after (moved s (gave g.given)) g.following ≡ after t ms = sym (ap (after t) g.all ∙ fold-append moved t g.before (gave g.given ∷ g.following)) in
    let since : Has u (fold (loads q u) (loaded (moved s (gave g.given)) q) g.following) (offer_at (after (moved s (gave g.given)) g.following).offers q) =
    quiet-on (moved s (gave g.given)) g.following q u (ap ticket_in now ∙ ap Some (sym g.ticket)) g.quiet in
    subst (λ (o : PlainTickets). Has u (fold (loads q u) nothing g.following) (offer_at o.offers q)) all (since.0, since.1 ∙ ap (λ (v : Option PlainInactive). fold (loads q u) (loaded_in v) g.following) now)

pub given_last_is_valid : GivenLastIsValid
given_last_is_valid epoch ms name u g = (given-since (fresh epoch) ms name u g).0

-- ---- the rules that are loaded

one-rule : (l : Loaded) (r : PlainRule) (b : Bool) → (cond b (with_rule l r) l).rules ≡ l.rules ++ cond b (r ∷ []) []
one-rule l r true = refl
one-rule l r false = sym (append-nil l.rules)

no-rule : (l : Loaded) (name : List ℕ) (rows : List PlainEntry) (b : Bool) → (cond b (with_table l name rows) l).rules ≡ l.rules ++ []
no-rule l name rows true = sym (append-nil l.rules)
no-rule l name rows false = sym (append-nil l.rules)

same-rules : (l : Loaded) (name : List ℕ) (xs : List PlainEntry) → (with_entries l name xs).rules ≡ l.rules
same-rules l name xs = by (find name_order name l.tables) where
  by : (o : Option (List PlainEntry)) → (option_map_or (λ rows. with_table l name (entries_added rows xs)) o l).rules ≡ l.rules
  by None = refl
  by (Some rows) = refl

no-rule-more : (l : Loaded) (name : List ℕ) (xs : List PlainEntry) (b : Bool) → (cond b (with_entries l name xs) l).rules ≡ l.rules ++ []
no-rule-more l name xs true = same-rules l name xs ∙ sym (append-nil l.rules)
no-rule-more l name xs false = sym (append-nil l.rules)

loads-rules : (q : RulesetName) (u : Ticket) (l : Loaded) (m : Mention) → (loads q u l m).rules ≡ l.rules ++ rules_added q u m
loads-rules q u l (gave n) = sym (append-nil l.rules)
loads-rules q u l (added n w r) = one-rule l r (same_name n q && same_ticket u w)
loads-rules q u l (defined n w name xs) = no-rule l name (replaced xs) (same_name n q && same_ticket u w)
loads-rules q u l (extended n w name xs) = no-rule-more l name xs (same_name n q && same_ticket u w)
loads-rules q u l (switched n) = sym (append-nil l.rules)
loads-rules q u l (dropped n w) = sym (append-nil l.rules)

rules-loaded : (q : RulesetName) (u : Ticket) (l : Loaded) (ms : List Mention) → (fold (loads q u) l ms).rules ≡ l.rules ++ flat_map (rules_added q u) ms
rules-loaded q u l [] = sym (append-nil l.rules)
rules-loaded q u l (m ∷ ms) =
    rules-loaded q u (loads q u l m) ms ∙ ap (λ (rs : List PlainRule). rs ++ flat_map (rules_added q u) ms) (loads-rules q u l m) ∙ append_assoc l.rules (rules_added q u m) (flat_map (rules_added q u) ms)

pub offers_the_added : OffersTheAdded
offers_the_added epoch ms path u g =
    let q : RulesetName = filter_at path in
    ap (λ (l : Loaded). l.rules) (given-since (fresh epoch) ms q u g).1 ∙ rules-loaded q u nothing g.following

-- ---- the tables that are loaded

-- a table that is offered, with more entries
abbrev pub more_of : List PlainEntry → Option (List PlainEntry) → Option (List PlainEntry)
more_of xs o = option_map (λ rows. entries_added rows xs) o

-- the table of these entries, if there are any; else this one
abbrev pub made_or : Option (List PlainEntry) → Option (List PlainEntry) → Option (List PlainEntry)
made_or made o = option_or (option_map (λ xs. replaced xs) made) o

none-more : (o : Option (List PlainEntry)) → o ≡ more_of [] o
unfolding entries_added
none-more None = refl
none-more (Some rows) = refl

more-twice : (xs ys : List PlainEntry) (o : Option (List PlainEntry)) → more_of ys (more_of xs o) ≡ more_of (xs ++ ys) o
unfolding entries_added
more-twice xs ys None = refl
more-twice xs ys (Some rows) = ap Some (sym (fold-append with_entry rows xs ys))

-- under another name a table stays
put-at : (k name : List ℕ) (rows : List PlainEntry) (ts : List PlainDefinedTable) (same : Bool) → same_table k name ≡ same → find name_order k (put name_order name rows ts) ≡ cond same (Some rows) (find name_order k ts)
put-at k name rows ts same h = find-put name_order nat_list_cmp_total k name rows ts ∙ ap (λ (c : Bool). cond c (Some rows) (find name_order k ts)) h

pub defined-at : (l : Loaded) (k name : List ℕ) (xs : List PlainEntry) (b same : Bool) → same_table k name ≡ same → find name_order k (cond b (with_table l name (replaced xs)) l).tables ≡ made_or (cond (b && same) (Some xs) None) (more_of [] (find name_order k l.tables))
defined-at l k name xs true true h = put-at k name (replaced xs) l.tables true h
defined-at l k name xs true false h = put-at k name (replaced xs) l.tables false h ∙ none-more (find name_order k l.tables)
defined-at l k name xs false same h = none-more (find name_order k l.tables)

-- by what is found under the name of an extend
extended-found : (l : Loaded) (k name : List ℕ) (xs : List PlainEntry) (same : Bool) (o : Option (List PlainEntry)) → same_table k name ≡ same → find name_order name l.tables ≡ o → find name_order k (option_map_or (λ rows. with_table l name (entries_added rows xs)) o l).tables ≡ more_of (cond same xs []) (find name_order k l.tables)
extended-found l k name xs true None h is =
    let at : find name_order k l.tables ≡ None = sym (find_tied name_order nat_list_cmp_total k name (equal_of (name_order k name) h) l.tables) ∙ is in at ∙ ap (more_of xs) (sym at)
extended-found l k name xs false None h is = none-more (find name_order k l.tables)
extended-found l k name xs true (Some rows) h is =
    let at : find name_order k l.tables ≡ Some rows = sym (find_tied name_order nat_list_cmp_total k name (equal_of (name_order k name) h) l.tables) ∙ is in
    put-at k name (entries_added rows xs) l.tables true h ∙ ap (more_of xs) (sym at)
extended-found l k name xs false (Some rows) h is = put-at k name (entries_added rows xs) l.tables false h ∙ none-more (find name_order k l.tables)

pub extended-at : (l : Loaded) (k name : List ℕ) (xs : List PlainEntry) (b same : Bool) → same_table k name ≡ same → find name_order k (cond b (with_entries l name xs) l).tables ≡ more_of (cond (b && same) xs []) (find name_order k l.tables)
extended-at l k name xs true same h = extended-found l k name xs same (find name_order name l.tables) h refl
extended-at l k name xs false same h = none-more (find name_order k l.tables)

loads-table : (q : RulesetName) (u : Ticket) (l : Loaded) (k : List ℕ) (m : Mention) → find name_order k (loads q u l m).tables ≡ made_or (entries_defined q u k m) (more_of (entries_extended q u k m) (find name_order k l.tables))
loads-table q u l k (gave n) = none-more (find name_order k l.tables)
loads-table q u l k (added n w r) = cond_both (same_name n q && same_ticket u w) (with_rule l r) l (λ (new : Loaded). find name_order k new.tables ≡ more_of [] (find name_order k l.tables)) (λ e. none-more (find name_order k l.tables)) (λ e. none-more (find name_order k l.tables))
loads-table q u l k (defined n w name xs) = defined-at l k name xs (same_name n q && same_ticket u w) (same_table k name) refl
loads-table q u l k (extended n w name xs) = extended-at l k name xs (same_name n q && same_ticket u w) (same_table k name) refl
loads-table q u l k (switched n) = none-more (find name_order k l.tables)
loads-table q u l k (dropped n w) = none-more (find name_order k l.tables)

-- a table made, then extended by these: as if it was made of all; else one that was there, extended by all
more-made : (made : Option (List PlainEntry)) (xs ys : List PlainEntry) (o : Option (List PlainEntry)) → more_of ys (made_or made (more_of xs o)) ≡ made_or (option_map (λ zs. zs ++ ys) made) (more_of (xs ++ ys) o)
unfolding entries_added
more-made None xs ys o = more-twice xs ys o
more-made (Some zs) xs ys o = ap Some (sym (fold-append with_entry [] zs ys))

made-later : (later made o : Option (List PlainEntry)) → made_or later (made_or made o) ≡ made_or (option_or later made) o
made-later None made o = refl
made-later (Some xs) made o = refl

table-loaded : (q : RulesetName) (u : Ticket) (l : Loaded) (k : List ℕ) (ms : List Mention) → find name_order k (fold (loads q u) l ms).tables ≡ made_or (entries_since q u k ms) (more_of (flat_map (entries_extended q u k) ms) (find name_order k l.tables))
table-loaded q u l k [] = none-more (find name_order k l.tables)
table-loaded q u l k (m ∷ ms) =
    let later : Option (List PlainEntry) = entries_since q u k ms in
    let made : Option (List PlainEntry) = entries_defined q u k m in
    let here : List PlainEntry = entries_extended q u k m in
    let more : List PlainEntry = flat_map (entries_extended q u k) ms in
    let o : Option (List PlainEntry) = find name_order k l.tables in
    table-loaded q u (loads q u l m) k ms ∙ ap (λ (p : Option (List PlainEntry)). made_or later (more_of more p)) (loads-table q u l k m)
    ∙ ap (made_or later) (more-made made here more o) ∙ made-later later (option_map (λ zs. zs ++ more) made) (more_of (here ++ more) o)

since-nothing : (made : Option (List PlainEntry)) → made_or made None ≡ option_map (λ xs. replaced xs) made
since-nothing None = refl
since-nothing (Some xs) = refl

sorted-on : (q : RulesetName) (u : Ticket) (l : Loaded) (m : Mention) → T (is_sorted name_order l.tables) → T (is_sorted name_order (loads q u l m).tables)
sorted-on q u l (gave n) s = s
sorted-on q u l (added n w r) s = cond_both (same_name n q && same_ticket u w) (with_rule l r) l (λ (new : Loaded). T (is_sorted name_order new.tables)) (λ e. s) (λ e. s)
sorted-on q u l (defined n w name xs) s =
    cond_both (same_name n q && same_ticket u w) (with_table l name (replaced xs)) l (λ (new : Loaded). T (is_sorted name_order new.tables)) (λ e. is_sorted-put name_order nat_list_cmp_total name (replaced xs) l.tables s) (λ e. s)
sorted-on q u l (extended n w name xs) s =
    cond_both (same_name n q && same_ticket u w) (with_entries l name xs) l (λ (new : Loaded). T (is_sorted name_order new.tables)) (λ e. by (find name_order name l.tables)) (λ e. s) where
      by : (o : Option (List PlainEntry)) → T (is_sorted name_order (option_map_or (λ rows. with_table l name (entries_added rows xs)) o l).tables)
      by None = s
      by (Some rows) = is_sorted-put name_order nat_list_cmp_total name (entries_added rows xs) l.tables s
sorted-on q u l (switched n) s = s
sorted-on q u l (dropped n w) s = s

tables-sorted : (q : RulesetName) (u : Ticket) (l : Loaded) (ms : List Mention) → T (is_sorted name_order l.tables) → T (is_sorted name_order (fold (loads q u) l ms).tables)
tables-sorted q u l [] s = s
tables-sorted q u l (m ∷ ms) s = tables-sorted q u (loads q u l m) ms (sorted-on q u l m s)

pub offers_the_defined : OffersTheDefined
offers_the_defined epoch ms path u g =
    let q : RulesetName = table_ruleset_at path in
    let is : (loaded (after (fresh epoch) ms) q).tables ≡ (fold (loads q u) nothing g.following).tables = ap (λ (l : Loaded). l.tables) (given-since (fresh epoch) ms q u g).1 in
    record {
      last = λ k. ap (find name_order k) is ∙ table-loaded q u nothing k g.following ∙ since-nothing (entries_since q u k g.following);
      order = subst (λ (ts : List PlainDefinedTable). T (is_sorted name_order ts)) (sym is) (tables-sorted q u nothing g.following tt);
    }
