-- What a commit leaves of each ruleset, and any call of those that it doesn't name.
use Rattle.std.proofs.{Common.{◌≡◌, ℕ, T, Bool, true, false, cond, ◌&&◌, ◌||◌, List, [], ◌∷◌, ◌++◌, length, refl, sym, ap, ◌∙◌, Option, Some, None, Ok, Err, subst}, lemmas.Bool.{or_parts, and_parts, cond_both}, lemmas.Cmp.{eq_by_cmp_equiv, nat_list_cmp_total}, lemmas.List.map-id, lemmas.Simd.map-map}
use Rattle.std.specs.{Prelude.{fold, map, unwrap_or}, declared.{cmp.Ordering.Ordering, cmp.Ordering.TheVariants.Less, cmp.Ordering.TheVariants.Equal, cmp.Ordering.TheVariants.Greater}, FinMap.{find, is_sorted, slice_cmp-IsAntisymmetric, nat_cmp-IsAntisymmetric}, FinMap.Entries.below_all, List.list_all, Ordering.{is_eq, is_lt, eq_by_cmp}}
use Rattle.pf_rule.specs.Rules.{PlainRule}
use Rattle.pf_addr.specs.{Refusing.{refused_at, both_passed}, Path.Names.name_order, Path.Paths.same_path}
use Rattle.pf_table.specs.Entries.{PlainEntry}
use Rattle.pf_map.specs.ListMaps.{list_by}
use Rattle.pf_anchor.specs.{Laws.Configurations.rules_by, Rulesets.{PlainPlaced, rules_at, with_rules}, Tables.{TableKey, PlainPlacedTable, table_order, with_table}}
use Rattle.pf_anchor.proofs.{RulesetMaps.replaced_in_turn, TableMaps.tables_replaced}
use Rattle.pf_ticket.specs.{declared.{entry.RulesetTicket.RulesetTicket, name.RulesetKind.RulesetKind, name.RulesetKind.TheVariants.Filter, name.RulesetKind.TheVariants.Table, name.RulesetName.RulesetName, refusal.TicketRefusal.TheVariants.BadCount, refusal.TicketRefusal.TheVariants.Twice, refusal.TicketRefusal.TheVariants.Busy}, Laws.Names.{paths_alike, name_is}, Names.{same_kind, same_name, is_named, names_of, filter_at, table_ruleset_at, IsDistinct}, Replies.{bad_count, twice_after, twice_in, busy_in, list_check, commit_check}, Mentions.{Mention, switched, switches, dropped, named_in, after}, NamedTables.PlainDefinedTable, Tickets.{Loaded, PlainTickets, offered_as, loaded, offer_at, ticket_in, valid_ticket, content}}
use Rattle.pf_ticket.proofs.{Moves.{leaves_the_others as mentions_leave, commit_takes_out, gives-named}, Twice.otherwise_once}
use Rattle.pf_core.specs.{declared.{durable.change.Item.Item, command.Command.TheVariants.Transact, command.Command.TheVariants.Edit, command.Command.TheVariants.States as OfStates, command.Command.TheVariants.Ask, command.Command.TheVariants.History, command.Transaction.TheVariants.Begin, command.Transaction.TheVariants.Add, command.Transaction.TheVariants.Define, command.Transaction.TheVariants.Extend, command.Transaction.TheVariants.Commit, command.Transaction.TheVariants.Rollback}, Commands.{item_of, items, mentioned, is_accepted}, Durable.Changes.{PlainDurable, PlainChange, name_of, commits, rulesets_in, placed, tables_in, entries_at, applied}, Laws.Commands.{tables_offered, AreTablesSwitched, AreSwitched, SwitchesAll, LeaveTheOtherKind, KeepsNoneValid, MentionsTheNamed, LeavesTheOthers, RefusedMentionNothing}, Laws.Wanted.{IsCommitted, names-items, wants_commit}}
use Rattle.pf_core.proofs.Edited.{same-keys}
use Rattle.pf_map.proofs.Tests.{first_of, second_of, untied_of, equal_of}

-- ---- each ruleset by itself

abbrev named_as : RulesetKind → List ℕ → RulesetName
named_as k p = record { kind = k; path = p }

-- what a value becomes after some rulesets are switched in turn, by what switching one makes of it
abbrev pub switched_in : {A : Type 0} → (RulesetName → A → A) → List RulesetName → RulesetName → A → A
switched_in f [] name old = old
switched_in f (n ∷ ns) name old = switched_in f ns name (cond (same_name n name) (f n old) old)

-- if the ruleset isn't named, the value stays
unnamed : {A : Type 0} (f : RulesetName → A → A) (ns : List RulesetName) (name : RulesetName) (old : A) → is_named ns name ≡ false → switched_in f ns name old ≡ old
unnamed f [] name old h = refl
unnamed f (n ∷ ns) name old h =
    let both : (same_name n name ≡ false) × (is_named ns name ≡ false) = or_parts (same_name n name) (is_named ns name) h in
    ap (λ b. switched_in f ns name (cond b (f n old) old)) both.0 ∙ unnamed f ns name old both.1

named-step : {A : Type 0} (f : RulesetName → A → A) (n : RulesetName) (ns : List RulesetName) (name : RulesetName) (old : A) (b : Bool) → same_name n name ≡ b → is_named ns n ≡ false → (b || is_named ns name) ≡ true
    → (is_named ns name ≡ true → switched_in f ns name old ≡ f name old) → switched_in f ns name (cond b (f n old) old) ≡ f name old
named-step f n ns name old true same once h later =
    unnamed f ns name (f n old) (ap (λ x. is_named ns x) (sym (name_is n name same)) ∙ once) ∙ ap (λ x. f x old) (name_is n name same)
named-step f n ns name old false same once h later = later h

-- if it is named, once, it is switched
named : {A : Type 0} (f : RulesetName → A → A) (ns : List RulesetName) (name : RulesetName) (old : A) → IsDistinct ns → is_named ns name ≡ true → switched_in f ns name old ≡ f name old
named f [] name old d h = absurd (cc (h))
named f (n ∷ ns) name old d h = named-step f n ns name old (same_name n name) refl d.0 h (λ k. named f ns name old d.1 k)

-- ---- rules

abbrev pub rules_of : PlainTickets → RulesetName → List PlainRule → List PlainRule
rules_of t name old = (loaded t name).rules

rules-step : (k : RulesetKind) (q : List ℕ) (l : Loaded) (rest : List Item) (p : List ℕ) (old : List PlainRule) →
    rules_by (rulesets_in (item_of (named_as k q) (offered_as k l) ∷ rest)) p old ≡ rules_by (rulesets_in rest) p (cond (same_name (named_as k q) (filter_at p)) l.rules old)
rules-step Filter q l rest p old = refl
rules-step Table q l rest p old = refl

pub rules-switched : (t : PlainTickets) (es : List RulesetTicket) (p : List ℕ) (old : List PlainRule) → rules_by (rulesets_in (items (content t) es)) p old ≡ switched_in (rules_of t) (names_of es) (filter_at p) old
rules-switched t [] p old = refl
rules-switched t (e ∷ es) p old =
    rules-step e.name.kind e.name.path (loaded t e.name) (items (content t) es) p old
    ∙ rules-switched t es p (cond (same_name e.name (filter_at p)) (loaded t e.name).rules old)

-- ---- tables

-- tables at another path change nothing here
elsewhere : (q : List ℕ) (tables : List PlainDefinedTable) (p name : List ℕ) (old : List PlainEntry) → same_path q p ≡ false → list_by table_order (placed q tables) (p, name) old ≡ old
elsewhere q [] p name old h = refl
elsewhere q (t ∷ ts) p name old h =
    let other : eq_by_cmp table_order (q, t.0) (p, name) ≡ false = same-keys q p t.0 name ∙ ap (λ (b : Bool). b && eq_by_cmp name_order t.0 name) h in
    ap (λ (b : Bool). list_by table_order (placed q ts) (p, name) (cond b t.1 old)) other ∙ elsewhere q ts p name old h

-- at the same path only the names count
same-names : (p a b : List ℕ) → eq_by_cmp table_order (p, a) (p, b) ≡ eq_by_cmp name_order b a
same-names p a b = same-keys p p a b ∙ ap (λ (x : Bool). x && eq_by_cmp name_order a b) (paths_alike.refl p) ∙ (eq_by_cmp_equiv nat_list_cmp_total).symm a b

-- if none has the name, nothing is changed
none-of-name : (p : List ℕ) (tables : List PlainDefinedTable) (name : List ℕ) (old : List PlainEntry) → find name_order name tables ≡ None → list_by table_order (placed p tables) (p, name) old ≡ old
none-of-name p [] name old h = refl
none-of-name p (t ∷ ts) name old h = by (eq_by_cmp name_order name t.0) refl h (λ none. none-of-name p ts name old none) where
  by : (b : Bool) → eq_by_cmp name_order name t.0 ≡ b → cond b (Some t.1) (find name_order name ts) ≡ None → (find name_order name ts ≡ None → list_by table_order (placed p ts) (p, name) old ≡ old) → list_by table_order (placed p (t ∷ ts)) (p, name) old ≡ old
  by true is none rest = absurd (cc (none))
  by false is none rest = ap (λ (b : Bool). list_by table_order (placed p ts) (p, name) (cond b t.1 old)) (same-names p t.0 name ∙ is) ∙ rest none

below-none : (name : List ℕ) (tables : List PlainDefinedTable) → T (below_all name_order name tables) → find name_order name tables ≡ None
below-none name [] h = refl
below-none name (t ∷ ts) h =
    ap (λ (b : Bool). cond b (Some t.1) (find name_order name ts)) (untied_of (name_order name t.0) (first_of (is_lt (name_order name t.0)) (below_all name_order name ts) h))
    ∙ below-none name ts (second_of (is_lt (name_order name t.0)) (below_all name_order name ts) h)

-- of tables in the order of their names the one of this name is read
read-of-name : (p : List ℕ) (tables : List PlainDefinedTable) (name : List ℕ) (old : List PlainEntry) → T (is_sorted name_order tables) → list_by table_order (placed p tables) (p, name) old ≡ unwrap_or (find name_order name tables) old
read-of-name p [] name old sorted = refl
read-of-name p (t ∷ ts) name old sorted = by (eq_by_cmp name_order name t.0) refl (read-of-name p ts name old (second_of (below_all name_order t.0 ts) (is_sorted name_order ts) sorted)) where
  by : (b : Bool) → eq_by_cmp name_order name t.0 ≡ b → list_by table_order (placed p ts) (p, name) old ≡ unwrap_or (find name_order name ts) old → list_by table_order (placed p (t ∷ ts)) (p, name) old ≡ unwrap_or (cond b (Some t.1) (find name_order name ts)) old
  by true is rest =
      let one : name ≡ t.0 = (slice_cmp-IsAntisymmetric nat_cmp-IsAntisymmetric) name t.0 (equal_of (name_order name t.0) is) in
      let none : find name_order name ts ≡ None = ap (λ (n : List ℕ). find name_order n ts) one ∙ below-none t.0 ts (first_of (below_all name_order t.0 ts) (is_sorted name_order ts) sorted) in
      ap (λ (b : Bool). list_by table_order (placed p ts) (p, name) (cond b t.1 old)) (same-names p t.0 name ∙ is) ∙ none-of-name p ts name t.1 none
  by false is rest = ap (λ (b : Bool). list_by table_order (placed p ts) (p, name) (cond b t.1 old)) (same-names p t.0 name ∙ is) ∙ rest

in-two-parts : (front back : List PlainPlacedTable) (k : TableKey) (old : List PlainEntry) → list_by table_order (front ++ back) k old ≡ list_by table_order back k (list_by table_order front k old)
in-two-parts [] back k old = refl
in-two-parts (t ∷ ts) back k old = in-two-parts ts back k (cond (eq_by_cmp table_order t.0 k) t.1 old)

-- what switching a table ruleset makes of the table at p and name
abbrev pub entries_of : PlainTickets → List ℕ → List ℕ → RulesetName → List PlainEntry → List PlainEntry
entries_of t p name n old = list_by table_order (placed n.path (loaded t n).tables) (p, name) old

here-or-elsewhere : (q : List ℕ) (tables : List PlainDefinedTable) (p name : List ℕ) (old : List PlainEntry) (b : Bool) → same_path q p ≡ b → list_by table_order (placed q tables) (p, name) old ≡ cond b (list_by table_order (placed q tables) (p, name) old) old
here-or-elsewhere q tables p name old true is = refl
here-or-elsewhere q tables p name old false is = elsewhere q tables p name old is

tables-step : (k : RulesetKind) (q : List ℕ) (l : Loaded) (rest : List Item) (p name : List ℕ) (old : List PlainEntry) →
    list_by table_order (tables_in (item_of (named_as k q) (offered_as k l) ∷ rest)) (p, name) old
    ≡ list_by table_order (tables_in rest) (p, name) (cond (same_name (named_as k q) (table_ruleset_at p)) (list_by table_order (placed q l.tables) (p, name) old) old)
tables-step Filter q l rest p name old = refl
tables-step Table q l rest p name old =
    in-two-parts (placed q l.tables) (tables_in rest) (p, name) old
    ∙ ap (λ (x : List PlainEntry). list_by table_order (tables_in rest) (p, name) x) (here-or-elsewhere q l.tables p name old (same_path q p) refl)

pub tables-switched : (t : PlainTickets) (es : List RulesetTicket) (p name : List ℕ) (old : List PlainEntry) → list_by table_order (tables_in (items (content t) es)) (p, name) old ≡ switched_in (entries_of t p name) (names_of es) (table_ruleset_at p) old
tables-switched t [] p name old = refl
tables-switched t (e ∷ es) p name old =
    tables-step e.name.kind e.name.path (loaded t e.name) (items (content t) es) p name old
    ∙ tables-switched t es p name (cond (same_name e.name (table_ruleset_at p)) (entries_of t p name e.name old) old)

-- ---- by the step

pub not-twice : (b : Bool) (place : Option ℕ) → cond b (Err BadCount) (refused_at (λ i. Twice i) place) ≡ Ok tt → place ≡ None
not-twice true place h = absurd (cc (h))
not-twice false None h = refl
not-twice false (Some i) h = absurd (cc (h))

-- a commit whose tickets are valid names no ruleset twice
pub named-alone : (t : PlainTickets) (entries : List RulesetTicket) → commit_check t entries ≡ Ok tt → twice_after [] (map name_of (items (content t) entries)) ≡ None
named-alone t entries good =
    ap (λ (ns : List RulesetName). twice_after [] ns) (names-items t entries)
    ∙ not-twice (bad_count (length entries)) (twice_in entries) ((both_passed (list_check entries) (refused_at (λ i. Busy i) (busy_in t entries)) tt good).first)

named-once : (t : PlainTickets) (entries : List RulesetTicket) → commit_check t entries ≡ Ok tt → IsDistinct (names_of entries)
named-once t entries good = otherwise_once entries (not-twice (bad_count (length entries)) (twice_in entries) ((both_passed (list_check entries) (refused_at (λ i. Busy i) (busy_in t entries)) tt good).first))

tables-committed : (t : PlainTickets) (d new : PlainDurable) (entries : List RulesetTicket) → IsDistinct (names_of entries) → ((p name : List ℕ) → entries_at new p name ≡ switched_in (entries_of t p name) (names_of entries) (table_ruleset_at p) (entries_at d p name)) → AreTablesSwitched t entries d new
tables-committed t d new entries once read = record {
  defined = λ p name k sorted.
      read p name ∙ named (entries_of t p name) (names_of entries) (table_ruleset_at p) (entries_at d p name) once k ∙ read-of-name p (loaded t (table_ruleset_at p)).tables name (entries_at d p name) sorted;
  undefined = λ p name none. read p name ∙ by p name none (is_named (names_of entries) (table_ruleset_at p)) refl;
  others = λ p name no. read p name ∙ unnamed (entries_of t p name) (names_of entries) (table_ruleset_at p) (entries_at d p name) no;
} where
  by : (p name : List ℕ) → find name_order name (tables_offered t p) ≡ None → (b : Bool) → is_named (names_of entries) (table_ruleset_at p) ≡ b → switched_in (entries_of t p name) (names_of entries) (table_ruleset_at p) (entries_at d p name) ≡ entries_at d p name
  by p name none true k = named (entries_of t p name) (names_of entries) (table_ruleset_at p) (entries_at d p name) once k ∙ none-of-name p (loaded t (table_ruleset_at p)).tables name (entries_at d p name) none
  by p name none false other = unnamed (entries_of t p name) (names_of entries) (table_ruleset_at p) (entries_at d p name) other

pub switches_all : SwitchesAll
switches_all t d entries e o h =
    let is : IsCommitted t d entries e = wants_commit t d entries e o h in
    let change : PlainChange = commits (items (content t) entries) in
    let once : IsDistinct (names_of entries) = named-once t entries is.good in
    let read : (q : List ℕ) → rules_at q (applied d change).config.rulesets ≡ switched_in (rules_of t) (names_of entries) (filter_at q) (rules_at q d.config.rulesets) =
    λ q. replaced_in_turn (rulesets_in (items (content t) entries)) d.config.rulesets q ∙ rules-switched t entries q (rules_at q d.config.rulesets) in
    let found : (p name : List ℕ) → entries_at (applied d change) p name ≡ switched_in (entries_of t p name) (names_of entries) (table_ruleset_at p) (entries_at d p name) =
    λ p name. tables_replaced (tables_in (items (content t) entries)) d.config.tables p name ∙ tables-switched t entries p name (entries_at d p name) in
    subst (λ (x : PlainChange). AreSwitched t entries d (applied d x)) is.this.is (record {
      named = λ p k. read p ∙ named (rules_of t) (names_of entries) (filter_at p) (rules_at p d.config.rulesets) once k;
      others = λ q no. read q ∙ unnamed (rules_of t) (names_of entries) (filter_at q) (rules_at q d.config.rulesets) no;
      tables = tables-committed t d (applied d change) entries once found;
    })

-- ---- by kinds

no-table : (k : RulesetKind) (q : List ℕ) (l : Loaded) (rest : List Item) → same_kind k Filter ≡ true → tables_in (item_of (named_as k q) (offered_as k l) ∷ rest) ≡ tables_in rest
no-table Filter q l rest h = refl
no-table Table q l rest h = absurd (cc (h))

no-tables : (t : PlainTickets) (es : List RulesetTicket) → list_all (λ (e : RulesetTicket). same_kind e.name.kind Filter) es ≡ true → tables_in (items (content t) es) ≡ []
no-tables t [] h = refl
no-tables t (e ∷ es) h =
    let both : (same_kind e.name.kind Filter ≡ true) × (list_all (λ (x : RulesetTicket). same_kind x.name.kind Filter) es ≡ true) = and_parts (same_kind e.name.kind Filter) (list_all (λ (x : RulesetTicket). same_kind x.name.kind Filter) es) h in
    no-table e.name.kind e.name.path (loaded t e.name) (items (content t) es) both.0 ∙ no-tables t es both.1

no-ruleset : (k : RulesetKind) (q : List ℕ) (l : Loaded) (rest : List Item) → same_kind k Table ≡ true → rulesets_in (item_of (named_as k q) (offered_as k l) ∷ rest) ≡ rulesets_in rest
no-ruleset Filter q l rest h = absurd (cc (h))
no-ruleset Table q l rest h = refl

no-rulesets : (t : PlainTickets) (es : List RulesetTicket) → list_all (λ (e : RulesetTicket). same_kind e.name.kind Table) es ≡ true → rulesets_in (items (content t) es) ≡ []
no-rulesets t [] h = refl
no-rulesets t (e ∷ es) h =
    let both : (same_kind e.name.kind Table ≡ true) × (list_all (λ (x : RulesetTicket). same_kind x.name.kind Table) es ≡ true) = and_parts (same_kind e.name.kind Table) (list_all (λ (x : RulesetTicket). same_kind x.name.kind Table) es) h in
    no-ruleset e.name.kind e.name.path (loaded t e.name) (items (content t) es) both.0 ∙ no-rulesets t es both.1

pub leave_the_other_kind : LeaveTheOtherKind
leave_the_other_kind = record {
  tables = λ t d es h. ap (λ (ts : List PlainPlacedTable). fold with_table d.config.tables ts) (no-tables t es h);
  rulesets = λ t d es h. ap (λ (rs : List PlainPlaced). fold with_rules d.config.rulesets rs) (no-rulesets t es h);
}

-- ---- what any call leaves

pub mentions_the_named : MentionsTheNamed
mentions_the_named (Transact (Begin names)) = gives-named names
mentions_the_named (Transact (Add p u r)) = refl
mentions_the_named (Transact (Define p u name xs)) = refl
mentions_the_named (Transact (Extend p u name xs)) = refl
mentions_the_named (Transact (Commit entries)) = map-map named_in (λ (n : RulesetName). switched n) (names_of entries) ∙ map-id (names_of entries)
mentions_the_named (Transact (Rollback entries)) = map-map named_in (λ (e : RulesetTicket). dropped e.name e.ticket) entries
mentions_the_named (Edit edit) = refl
mentions_the_named (OfStates c) = refl
mentions_the_named (Ask q) = refl
mentions_the_named (History c) = refl

pub leaves_the_others : LeavesTheOthers
leaves_the_others t c name h =
    cond_both (is_accepted c.reply) (mentioned c.command) [] (λ (ms : List Mention). offer_at (after t ms).offers name ≡ offer_at t.offers name)
    (λ e. mentions_leave t (mentioned c.command) name (ap (λ (ns : List RulesetName). is_named ns name) (mentions_the_named c.command) ∙ h)) (λ e. refl)

pub keeps_none_valid : KeepsNoneValid
keeps_none_valid t entries r name accepted h =
    ap (λ (b : Bool). valid_ticket (after t (cond b (switches (names_of entries)) [])) name) accepted
    ∙ ap ticket_in (commit_takes_out t (names_of entries) name ∙ ap (λ (b : Bool). cond b None (offer_at t.offers name)) h)

pub refused_mention_nothing : RefusedMentionNothing
refused_mention_nothing c e = refl
