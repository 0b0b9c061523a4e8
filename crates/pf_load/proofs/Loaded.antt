-- What the offers of a load leave of each ruleset, and its commit of all.
use Rattle.std.proofs.{Common.{◌≡◌, T, ℕ, zero, suc, ◌-◌, ◌==◌, ◌≤◌, ◌&&◌, ◌||◌, Bool, true, false, cond, List, [], ◌∷◌, ◌++◌, map, take, drop, fold, length, Option, Some, None, Ok, refl, sym, ap, ◌∙◌, subst, arith, append_assoc, append-nil, eq-eqb, take-append-drop, length-drop}, lemmas.Bool.{or_parts, or_left, or_right}, lemmas.List.Sums.fold-append, lemmas.List.Folds.list_any-append, lemmas.Grind.flat_map-append, lemmas.Cmp.{nat_list_cmp_total, eq_by_cmp_equiv}}
use Rattle.std.specs.{Prelude.{Contains, unwrap_or, option_map}, FinMap.{find, is_sorted}, FinMap.Entries.find-put, List.{flat_map, list_any}, Option.option_map_or, Ordering.is_eq}
use Rattle.std.specs.declared.cmp.Ordering.{Ordering, TheVariants.{Less, Equal, Greater}}
use Rattle.pf_addr.specs.{Path.Names.{name_order, same_name as same_table}, Path.Paths.same_path, Refusing.{refused_at, both_passed}}
use Rattle.pf_form.specs.Form.Words.{Word}
use Rattle.pf_rule.specs.Rules.{PlainRule}
use Rattle.pf_table.specs.{Entries.PlainEntry, Edits.{added, with_entry, replaced}}
use Rattle.pf_anchor.specs.Rulesets.{rules_at}
use Rattle.pf_ticket.specs.declared.{entry.RulesetTicket.RulesetTicket, name.RulesetName.RulesetName, ticket.Ticket.Ticket}
use Rattle.pf_ticket.specs.{NamedTables.PlainDefinedTable, Names.{filter_at, table_ruleset_at, same_name, same_ticket, is_ticket, is_named, names_of, IsDistinct}, Laws.Names.{name_is, names_alike, paths_alike}, Tickets.{Loaded, with_rule, with_table, with_entries, rules_in, tables_in, PlainInactive, offer_with, offer_at, PlainTickets, ticket_in, loaded_in, loaded, valid_ticket, is_valid}, Mentions.{Mention, added as adding, defined, extended, named_in, moved, after, gives}, Replies.{bad_count, twice_in, list_check, commit_check, busy_in}}
use Rattle.pf_ticket.specs.declared.refusal.TicketRefusal.TheVariants.{Busy}
use Rattle.pf_ticket.proofs.{Moves.{loaded_by, made_by, reads, starts_with_nothing}, NamedTables.{order_is, put_sorted}, Twice.otherwise_once}
use Rattle.pf_core.specs.declared.command.{Transaction.Transaction, Transaction.TheVariants.{Add, Extend}}
use Rattle.pf_core.specs.{Commands.transacted, Durable.Changes.{PlainDurable, PlainChange, entries_at, applied}, Laws.{Commands.AreSwitched, Wanted.wants_commit}}
use Rattle.pf_core.proofs.Switching.{switches_all, not-twice}
use Rattle.pf_conf.specs.declared.{found.Conf.Conf, found.Ruleset.Ruleset, found.FilledTable.FilledTable}
use Rattle.pf_conf.specs.declared.commit.lines.TheConstants.{PART}
use Rattle.pf_conf.specs.Commit.{Naming.{is_among, with_path, table_paths, filter_of, ruleset_names}, Lines.{parts_within, parts}}
use Rattle.pf_load.specs.Laws.{rules_of, rule_offers, table_offers, offers, IsLoad, is_table_at, AreOnce, IsLoaded, LoadsExactly}

equal_of : (o : Ordering) → is_eq o ≡ true → o ≡ Equal
equal_of Less is = absurd (cc (is))
equal_of Equal is = refl
equal_of Greater is = absurd (cc (is))

-- ---- paths

path_stays_one : (paths : List Word) (f : FilledTable) (p : Word) (b : Bool) → is_among p paths ≡ true → is_among p (cond b paths (paths ++ f.path ∷ [])) ≡ true
path_stays_one paths f p true there = there
path_stays_one paths f p false there = list_any-append (λ (known : Word). same_path known p) paths (f.path ∷ []) ∙ or_left (is_among p paths) (is_among p (f.path ∷ [])) there

path_stays : (fs : List FilledTable) (paths : List Word) (p : Word) → is_among p paths ≡ true → is_among p (fold with_path paths fs) ≡ true
path_stays [] paths p there = there
path_stays (f ∷ fs) paths p there = path_stays fs (with_path paths f) p (path_stays_one paths f p (is_among f.path paths) there)

path_put_by : (paths : List Word) (f : FilledTable) (b : Bool) → is_among f.path paths ≡ b → is_among f.path (cond b paths (paths ++ f.path ∷ [])) ≡ true
path_put_by paths f true there = there
path_put_by paths f false absent =
    list_any-append (λ (known : Word). same_path known f.path) paths (f.path ∷ [])
    ∙ or_right (is_among f.path paths) (is_among f.path (f.path ∷ [])) (or_left (same_path f.path f.path) false (paths_alike.refl f.path))

path_put : (paths : List Word) (f : FilledTable) → is_among f.path (with_path paths f) ≡ true
path_put paths f = path_put_by paths f (is_among f.path paths) refl

-- ---- one mention

abbrev pub AreGiven : (RulesetName → Ticket) → List RulesetName → PlainTickets → Type 0
AreGiven given names t = (n : RulesetName) → is_named names n ≡ true → valid_ticket t n ≡ Some (given n)

same_itself : (u : Ticket) → same_ticket u u ≡ true
same_itself u =
    let epochs : (u.epoch == u.epoch) ≡ true = eq-eqb u.epoch u.epoch refl in
    let counts : (u.count == u.count) ≡ true = eq-eqb u.count u.count refl in
    rw (epochs, counts) refl

-- A mention loads this for a ruleset of those that are named, with its ticket.
record Puts (given : RulesetName → Ticket) (names : List RulesetName) (t : PlainTickets) (m : Mention) (n : RulesetName) (l : Loaded) : Type 0 where
  name : named_in m ≡ n
  made : made_by t m ≡ loaded_by t n (given n) l
  among : is_named names n ≡ true

module _ (given : RulesetName → Ticket) (names : List RulesetName) where
  is_given : (t : PlainTickets) (n : RulesetName) → AreGiven given names t → is_named names n ≡ true → is_valid t n (given n) ≡ true
  is_given t n all among = ap (λ (o : Option Ticket). is_ticket o (given n)) (all n among) ∙ same_itself (given n)

  reads_put : (t : PlainTickets) (m : Mention) (n : RulesetName) (l : Loaded) → AreGiven given names t → Puts given names t m n l → (q : RulesetName) → offer_at (moved t m).offers q ≡ cond (same_name n q) (Some (offer_with (given n) l)) (offer_at t.offers q)
  reads_put t m n l all is q =
      reads t m q ∙ ap (λ (x : RulesetName). cond (same_name x q) (made_by t m) (offer_at t.offers q)) is.name
      ∙ ap (λ (v : Option PlainInactive). cond (same_name n q) v (offer_at t.offers q)) (is.made ∙ ap (λ (b : Bool). cond b (Some (offer_with (given n) l)) (offer_at t.offers n)) (is_given t n all is.among))

  stay_given : (t : PlainTickets) (m : Mention) (n : RulesetName) (l : Loaded) → AreGiven given names t → Puts given names t m n l → AreGiven given names (moved t m)
  stay_given t m n l all is q among = ap ticket_in (reads_put t m n l all is q) ∙ by (same_name n q) refl where
    by : (b : Bool) → same_name n q ≡ b → ticket_in (cond b (Some (offer_with (given n) l)) (offer_at t.offers q)) ≡ Some (given q)
    by true same = ap (λ (x : RulesetName). Some (given x)) (name_is n q same)
    by false same = all q among

  loaded_put : (t : PlainTickets) (m : Mention) (n : RulesetName) (l : Loaded) → AreGiven given names t → Puts given names t m n l → (q : RulesetName) → loaded (moved t m) q ≡ cond (same_name n q) l (loaded t q)
  loaded_put t m n l all is q = ap loaded_in (reads_put t m n l all is q) ∙ by (same_name n q) where
    by : (b : Bool) → loaded_in (cond b (Some (offer_with (given n) l)) (offer_at t.offers q)) ≡ cond b l (loaded t q)
    by true = refl
    by false = refl

  -- ---- from some transactions to others: which rules come for each ruleset, and what becomes of the entries under each name

  record Leads (t u : PlainTickets) (rules : RulesetName → List PlainRule) (entries : RulesetName → Word → Option (List PlainEntry) → Option (List PlainEntry)) : Type 0 where
    all : AreGiven given names u
    ruled : (q : RulesetName) → (loaded u q).rules ≡ (loaded t q).rules ++ rules q
    filled : (q : RulesetName) (name : Word) → find name_order name (loaded u q).tables ≡ entries q name (find name_order name (loaded t q).tables)
    sorted : (q : RulesetName) → T (is_sorted name_order (loaded t q).tables) → T (is_sorted name_order (loaded u q).tables)

  abbrev no_rules : RulesetName → List PlainRule
  no_rules q = []

  abbrev no_entries : RulesetName → Word → Option (List PlainEntry) → Option (List PlainEntry)
  no_entries q name rows = rows

  nothing_leads : (t : PlainTickets) → AreGiven given names t → Leads t t no_rules no_entries
  nothing_leads t all = record { all = all; ruled = λ q. sym (append-nil (loaded t q).rules); filled = λ q name. refl; sorted = λ q is. is }

  leads_on : (t u v : PlainTickets) (R S : RulesetName → List PlainRule) (E F : RulesetName → Word → Option (List PlainEntry) → Option (List PlainEntry)) → Leads t u R E → Leads u v S F → Leads t v (λ q. R q ++ S q) (λ q name rows. F q name (E q name rows))
  leads_on t u v R S E F a b = record {
    all = b.all;
    ruled = λ q. b.ruled q ∙ ap (λ (rs : List PlainRule). rs ++ S q) (a.ruled q) ∙ append_assoc (loaded t q).rules (R q) (S q);
    filled = λ q name. b.filled q name ∙ ap (F q name) (a.filled q name);
    sorted = λ q is. b.sorted q (a.sorted q is);
  }

  leads_as : (t u : PlainTickets) (R S : RulesetName → List PlainRule) (E F : RulesetName → Word → Option (List PlainEntry) → Option (List PlainEntry)) → Leads t u R E → ((q : RulesetName) → R q ≡ S q) → ((q : RulesetName) (name : Word) (rows : Option (List PlainEntry)) → E q name rows ≡ F q name rows) → Leads t u S F
  leads_as t u R S E F a rules entries = record {
    all = a.all;
    ruled = λ q. a.ruled q ∙ ap (λ (rs : List PlainRule). (loaded t q).rules ++ rs) (rules q);
    filled = λ q name. a.filled q name ∙ entries q name (find name_order name (loaded t q).tables);
    sorted = a.sorted;
  }

  -- ---- an add, a define and an extend

  abbrev here : {A : Type 0} → RulesetName → RulesetName → A → A → A
  here n q new old = cond (same_name n q) new old

  -- a mention that loads something for a ruleset, by what that has more of rules and of entries
  put_leads : (t : PlainTickets) (m : Mention) (n : RulesetName) (l : Loaded) (rules : List PlainRule) (E : Word → Option (List PlainEntry) → Option (List PlainEntry)) → AreGiven given names t → Puts given names t m n l
      → l.rules ≡ (loaded t n).rules ++ rules → ((name : Word) → find name_order name l.tables ≡ E name (find name_order name (loaded t n).tables))
      → (T (is_sorted name_order (loaded t n).tables) → T (is_sorted name_order l.tables))
      → Leads t (moved t m) (λ q. here n q rules []) (λ q name rows. here n q (E name rows) rows)
  put_leads t m n l rules E all is ruled filled sorted = record {
    all = stay_given t m n l all is;
    ruled = λ q. ap (λ (x : Loaded). x.rules) (loaded_put t m n l all is q) ∙ by_rules q (same_name n q) refl;
    filled = λ q name. ap (λ (x : Loaded). find name_order name x.tables) (loaded_put t m n l all is q) ∙ by_tables q name (same_name n q) refl;
    sorted = λ q before. subst (λ (x : Loaded). T (is_sorted name_order x.tables)) (sym (loaded_put t m n l all is q)) (by_order q before (same_name n q) refl);
  } where
    by_rules : (q : RulesetName) (b : Bool) → same_name n q ≡ b → (cond b l (loaded t q)).rules ≡ (loaded t q).rules ++ cond b rules []
    by_rules q true same = ruled ∙ ap (λ (x : RulesetName). (loaded t x).rules ++ rules) (name_is n q same)
    by_rules q false same = sym (append-nil (loaded t q).rules)

    by_tables : (q : RulesetName) (name : Word) (b : Bool) → same_name n q ≡ b → find name_order name (cond b l (loaded t q)).tables ≡ cond b (E name (find name_order name (loaded t q).tables)) (find name_order name (loaded t q).tables)
    by_tables q name true same = filled name ∙ ap (λ (x : RulesetName). E name (find name_order name (loaded t x).tables)) (name_is n q same)
    by_tables q name false same = refl

    by_order : (q : RulesetName) → T (is_sorted name_order (loaded t q).tables) → (b : Bool) → same_name n q ≡ b → T (is_sorted name_order (cond b l (loaded t q)).tables)
    by_order q before true same = sorted (subst (λ (x : RulesetName). T (is_sorted name_order (loaded t x).tables)) (sym (name_is n q same)) before)
    by_order q before false same = before

  add_leads : (t : PlainTickets) (n : RulesetName) (r : PlainRule) → AreGiven given names t → is_named names n ≡ true → Leads t (moved t (adding n (given n) r)) (λ q. here n q (r ∷ []) []) (λ q name rows. here n q rows rows)
  add_leads t n r all among =
      put_leads t (adding n (given n) r) n (with_rule (loaded t n) r) (r ∷ []) (λ name rows. rows) all (record { name = refl; made = refl; among = among }) refl (λ name. refl) (λ is. is)

  -- ---- entries

  abbrev defined_as : Word → List PlainEntry → Word → Option (List PlainEntry) → Option (List PlainEntry)
  defined_as table es name rows = cond (same_table name table) (Some (replaced es)) rows

  abbrev grown : List PlainEntry → Option (List PlainEntry) → Option (List PlainEntry)
  grown es rows = option_map (λ (old : List PlainEntry). added old es) rows

  abbrev extended_by : Word → List PlainEntry → Word → Option (List PlainEntry) → Option (List PlainEntry)
  extended_by table es name rows = cond (same_table name table) (grown es rows) rows

  define_leads : (t : PlainTickets) (n : RulesetName) (table : Word) (es : List PlainEntry) → AreGiven given names t → is_named names n ≡ true → Leads t (moved t (defined n (given n) table es)) (λ q. here n q [] []) (λ q name rows. here n q (defined_as table es name rows) rows)
  define_leads t n table es all among =
      put_leads t (defined n (given n) table es) n (with_table (loaded t n) table (replaced es)) [] (defined_as table es) all (record { name = refl; made = refl; among = among }) (sym (append-nil (loaded t n).rules))
      (λ name. find-put name_order nat_list_cmp_total name table (replaced es) (loaded t n).tables) (put_sorted table (replaced es) (loaded t n).tables)

  is_table : (name table : Word) → same_table name table ≡ true → name ≡ table
  is_table name table same = order_is name table (equal_of (name_order name table) same)

  extended_rules : (l : Loaded) (o : Option (List PlainEntry)) (table : Word) (es : List PlainEntry) → (option_map_or (λ (rows : List PlainEntry). with_table l table (added rows es)) o l).rules ≡ l.rules ++ []
  extended_rules l None table es = sym (append-nil l.rules)
  extended_rules l (Some rows) table es = sym (append-nil l.rules)

  extended_order : (l : Loaded) (o : Option (List PlainEntry)) (table : Word) (es : List PlainEntry) → T (is_sorted name_order l.tables) → T (is_sorted name_order (option_map_or (λ (rows : List PlainEntry). with_table l table (added rows es)) o l).tables)
  extended_order l None table es is = is
  extended_order l (Some rows) table es is = put_sorted table (added rows es) l.tables is

  extended_found : (l : Loaded) (o : Option (List PlainEntry)) (table name : Word) (es : List PlainEntry) (b : Bool) → find name_order table l.tables ≡ o → same_table name table ≡ b
      → find name_order name (option_map_or (λ (rows : List PlainEntry). with_table l table (added rows es)) o l).tables ≡ cond b (grown es (find name_order name l.tables)) (find name_order name l.tables)
  extended_found l None table name es true found same =
      let none : find name_order name l.tables ≡ None = ap (λ (x : Word). find name_order x l.tables) (is_table name table same) ∙ found in
      none ∙ ap (grown es) (sym none)
  extended_found l None table name es false found same = refl
  extended_found l (Some rows) table name es true found same =
      let there : find name_order name l.tables ≡ Some rows = ap (λ (x : Word). find name_order x l.tables) (is_table name table same) ∙ found in
      find-put name_order nat_list_cmp_total name table (added rows es) l.tables ∙ ap (λ (b : Bool). cond b (Some (added rows es)) (find name_order name l.tables)) same ∙ ap (grown es) (sym there)
  extended_found l (Some rows) table name es false found same =
      find-put name_order nat_list_cmp_total name table (added rows es) l.tables ∙ ap (λ (b : Bool). cond b (Some (added rows es)) (find name_order name l.tables)) same

  extend_leads : (t : PlainTickets) (n : RulesetName) (table : Word) (es : List PlainEntry) → AreGiven given names t → is_named names n ≡ true → Leads t (moved t (extended n (given n) table es)) (λ q. here n q [] []) (λ q name rows. here n q (extended_by table es name rows) rows)
  extend_leads t n table es all among =
      let l : Loaded = loaded t n in
      let o : Option (List PlainEntry) = find name_order table l.tables in
      put_leads t (extended n (given n) table es) n (with_entries l table es) [] (extended_by table es) all (record { name = refl; made = refl; among = among }) (extended_rules l o table es)
      (λ name. extended_found l o table name es (same_table name table) refl refl) (extended_order l o table es)

  -- ---- several

  after_both : (t : PlainTickets) (os ps : List Transaction) → after t (flat_map transacted (os ++ ps)) ≡ after (after t (flat_map transacted os)) (flat_map transacted ps)
  after_both t os ps = ap (after t) (flat_map-append transacted os ps) ∙ fold-append moved t (flat_map transacted os) (flat_map transacted ps)

  more_rules : (b : Bool) (r : PlainRule) (rs : List PlainRule) → cond b (r ∷ []) [] ++ cond b rs [] ≡ cond b (r ∷ rs) []
  more_rules true r rs = refl
  more_rules false r rs = refl

  either_way : {A : Type 0} → (b : Bool) (x : A) → cond b x x ≡ x
  either_way true x = refl
  either_way false x = refl

  rules_lead : (t : PlainTickets) (path : Word) (rs : List PlainRule) → AreGiven given names t → is_named names (filter_at path) ≡ true
      → Leads t (after t (flat_map transacted (map (λ (q : PlainRule). Add path (given (filter_at path)) q) rs))) (λ q. here (filter_at path) q rs []) no_entries
  rules_lead t path [] all among = leads_as t t no_rules (λ q. here (filter_at path) q [] []) no_entries no_entries (nothing_leads t all) (λ q. sym (either_way (same_name (filter_at path) q) [])) (λ q name rows. refl)
  rules_lead t path (r ∷ rs) all among =
      let n = filter_at path in
      let u : PlainTickets = moved t (adding n (given n) r) in
      let first = add_leads t n r all among in
      let v : PlainTickets = after u (flat_map transacted (map (λ (q : PlainRule). Add path (given (filter_at path)) q) rs)) in
      leads_as t v (λ q. here n q (r ∷ []) [] ++ here n q rs []) (λ q. here n q (r ∷ rs) []) (λ q name rows. here n q rows rows) no_entries
      (leads_on t u v (λ q. here n q (r ∷ []) []) (λ q. here n q rs []) (λ q name rows. here n q rows rows) no_entries first (rules_lead u path rs first.all among))
      (λ q. more_rules (same_name n q) r rs) (λ q name rows. either_way (same_name n q) rows)

  -- further parts of a table
  abbrev grown_by : List (List PlainEntry) → Option (List PlainEntry) → Option (List PlainEntry)
  grown_by ps rows = fold (λ o es. grown es o) rows ps

  abbrev further : Word → List (List PlainEntry) → Word → Option (List PlainEntry) → Option (List PlainEntry)
  further table ps name rows = cond (same_table name table) (grown_by ps rows) rows

  more_parts : (a b : Bool) (es : List PlainEntry) (ps : List (List PlainEntry)) (rows : Option (List PlainEntry)) → cond a (cond b (grown_by ps (cond a (cond b (grown es rows) rows) rows)) (cond a (cond b (grown es rows) rows) rows)) (cond a (cond b (grown es rows) rows) rows) ≡ cond a (cond b (grown_by ps (grown es rows)) rows) rows
  more_parts true true es ps rows = refl
  more_parts true false es ps rows = refl
  more_parts false b es ps rows = refl

  both_none : (a b : Bool) → cond a [] [] ++ cond b [] [] ≡ (let none : List PlainRule = [] in none)
  both_none true b = either_way b []
  both_none false b = either_way b []

  parts_lead : (t : PlainTickets) (path table : Word) (ps : List (List PlainEntry)) → AreGiven given names t → is_named names (table_ruleset_at path) ≡ true
      → Leads t (after t (flat_map transacted (map (Extend path (given (table_ruleset_at path)) table) ps))) no_rules (λ q name rows. here (table_ruleset_at path) q (further table ps name rows) rows)
  parts_lead t path table [] all among =
      leads_as t t no_rules no_rules no_entries (λ q name rows. here (table_ruleset_at path) q (further table [] name rows) rows) (nothing_leads t all) (λ q. refl)
      (λ q name rows. sym (ap (λ (x : Option (List PlainEntry)). cond (same_name (table_ruleset_at path) q) x rows) (either_way (same_table name table) rows) ∙ either_way (same_name (table_ruleset_at path) q) rows))
  parts_lead t path table (es ∷ ps) all among =
      let n = table_ruleset_at path in
      let u : PlainTickets = moved t (extended n (given n) table es) in
      let first = extend_leads t n table es all among in
      let v : PlainTickets = after u (flat_map transacted (map (Extend path (given (table_ruleset_at path)) table) ps)) in
      let E : RulesetName → Word → Option (List PlainEntry) → Option (List PlainEntry) = λ q name rows. here n q (extended_by table es name rows) rows in
      let F : RulesetName → Word → Option (List PlainEntry) → Option (List PlainEntry) = λ q name rows. here n q (further table ps name rows) rows in
      leads_as t v (λ q. here n q [] [] ++ no_rules q) no_rules (λ q name rows. F q name (E q name rows)) (λ q name rows. here n q (further table (es ∷ ps) name rows) rows)
      (leads_on t u v (λ q. here n q [] []) no_rules E F first (parts_lead u path table ps first.all among))
      (λ q. append-nil (here n q [] []) ∙ either_way (same_name n q) []) (λ q name rows. more_parts (same_name n q) (same_table name table) es ps rows)

  -- all parts together are all entries
  grown_whole : (n : ℕ) (before es : List PlainEntry) → length es ≤ n → grown_by (parts_within n es) (Some (replaced before)) ≡ Some (replaced (before ++ es))
  unfolding parts_within added
  grown_whole zero before [] few = ap (λ (l : List PlainEntry). Some (replaced l)) (sym (append-nil before))
  grown_whole zero before (e ∷ es) few = absurd (omega (arith, few))
  grown_whole (suc n) before [] few = ap (λ (l : List PlainEntry). Some (replaced l)) (sym (append-nil before))
  grown_whole (suc n) before (e ∷ es) few =
      let all : List PlainEntry = e ∷ es in
      let long : length (drop PART all) ≡ length all - PART = length-drop PART all in
      ap (λ (rows : List PlainEntry). grown_by (parts_within n (drop PART all)) (Some rows)) (sym (fold-append with_entry [] before (take PART all)))
      ∙ grown_whole n (before ++ take PART all) (drop PART all) (omega (arith, few, long))
      ∙ ap (λ (l : List PlainEntry). Some (replaced l)) (append_assoc before (take PART all) (drop PART all) ∙ ap (λ (l : List PlainEntry). before ++ l) (take-append-drop PART all))

  -- what becomes of a table's entries by the lines of a table of a file
  abbrev filled_by : RulesetName → Word → Option (List PlainEntry) → FilledTable → Option (List PlainEntry)
  filled_by q name rows t = here (table_ruleset_at t.path) q (cond (same_table name t.name) (Some (replaced t.table)) rows) rows

  whole_table : (a b : Bool) (ps : List (List PlainEntry)) (first : List PlainEntry) (all : List PlainEntry) (rows : Option (List PlainEntry)) → grown_by ps (Some (replaced first)) ≡ Some (replaced all)
      → cond a (cond b (grown_by ps (cond a (cond b (Some (replaced first)) rows) rows)) (cond a (cond b (Some (replaced first)) rows) rows)) (cond a (cond b (Some (replaced first)) rows) rows) ≡ cond a (cond b (Some (replaced all)) rows) rows
  whole_table true true ps first all rows is = is
  whole_table true false ps first all rows is = refl
  whole_table false b ps first all rows is = refl

  table_leads : (t : PlainTickets) (f : FilledTable) → AreGiven given names t → is_named names (table_ruleset_at f.path) ≡ true → Leads t (after t (flat_map transacted (table_offers given f))) no_rules (λ q name rows. filled_by q name rows f)
  table_leads t f all among =
      let n = table_ruleset_at f.path in
      let es : List PlainEntry = take PART f.table in
      let ps : List (List PlainEntry) = parts (drop PART f.table) in
      let u : PlainTickets = moved t (defined n (given n) f.name es) in
      let first = define_leads t n f.name es all among in
      let v : PlainTickets = after u (flat_map transacted (map (Extend f.path (given n) f.name) ps)) in
      let E : RulesetName → Word → Option (List PlainEntry) → Option (List PlainEntry) = λ q name rows. here n q (defined_as f.name es name rows) rows in
      let F : RulesetName → Word → Option (List PlainEntry) → Option (List PlainEntry) = λ q name rows. here n q (further f.name ps name rows) rows in
      let whole : grown_by ps (Some (replaced es)) ≡ Some (replaced f.table) =
      grown_whole (length (drop PART f.table)) es (drop PART f.table) (omega arith) ∙ ap (λ (l : List PlainEntry). Some (replaced l)) (take-append-drop PART f.table) in
      leads_as t v (λ q. here n q [] [] ++ no_rules q) no_rules (λ q name rows. F q name (E q name rows)) (λ q name rows. filled_by q name rows f)
      (leads_on t u v (λ q. here n q [] []) no_rules E F first (parts_lead u f.path f.name ps first.all among))
      (λ q. append-nil (here n q [] []) ∙ either_way (same_name n q) []) (λ q name rows. whole_table (same_name n q) (same_table name f.name) ps es f.table rows whole)

  -- ---- all of a file

  -- each of these has a ruleset that is named
  abbrev AreNamed : {X : Type 0} → (X → RulesetName) → List X → Type 0
  AreNamed f [] = Unit {0}
  AreNamed f (x ∷ xs) = (is_named names (f x) ≡ true) × AreNamed f xs

  abbrev rules_for : List Ruleset → RulesetName → List PlainRule
  rules_for rs q = flat_map (λ (r : Ruleset). here (filter_of r) q (rules_of r) []) rs

  rulesets_lead : (t : PlainTickets) (rs : List Ruleset) → AreGiven given names t → AreNamed filter_of rs → Leads t (after t (flat_map transacted (flat_map (rule_offers given) rs))) (rules_for rs) no_entries
  rulesets_lead t [] all named = nothing_leads t all
  rulesets_lead t (r ∷ rs) all named =
      let u : PlainTickets = after t (flat_map transacted (rule_offers given r)) in
      let first = rules_lead t r.path (rules_of r) all named.0 in
      let v : PlainTickets = after u (flat_map transacted (flat_map (rule_offers given) rs)) in
      subst (λ (w : PlainTickets). Leads t w (rules_for (r ∷ rs)) no_entries) (sym (after_both t (rule_offers given r) (flat_map (rule_offers given) rs)))
      (leads_on t u v (λ q. here (filter_at r.path) q (rules_of r) []) (rules_for rs) no_entries no_entries first (rulesets_lead u rs first.all named.1))

  tables_lead : (t : PlainTickets) (fs : List FilledTable) → AreGiven given names t → AreNamed (λ (f : FilledTable). table_ruleset_at f.path) fs → Leads t (after t (flat_map transacted (flat_map (table_offers given) fs))) no_rules (λ q name rows. fold (filled_by q name) rows fs)
  tables_lead t [] all named = nothing_leads t all
  tables_lead t (f ∷ fs) all named =
      let u : PlainTickets = after t (flat_map transacted (table_offers given f)) in
      let first = table_leads t f all named.0 in
      let v : PlainTickets = after u (flat_map transacted (flat_map (table_offers given) fs)) in
      subst (λ (w : PlainTickets). Leads t w no_rules (λ q name rows. fold (filled_by q name) rows (f ∷ fs))) (sym (after_both t (table_offers given f) (flat_map (table_offers given) fs)))
      (leads_on t u v no_rules no_rules (λ q name rows. filled_by q name rows f) (λ q name rows. fold (filled_by q name) rows fs) first (tables_lead u fs first.all named.1))

  all_lead : (t : PlainTickets) (c : Conf) → AreGiven given names t → AreNamed filter_of c.rulesets → AreNamed (λ (f : FilledTable). table_ruleset_at f.path) c.tables
      → Leads t (after t (flat_map transacted (offers given c))) (λ q. rules_for c.rulesets q ++ []) (λ q name rows. fold (filled_by q name) rows c.tables)
  all_lead t c all rules tables =
      let u : PlainTickets = after t (flat_map transacted (flat_map (rule_offers given) c.rulesets)) in
      let first = rulesets_lead t c.rulesets all rules in
      let v : PlainTickets = after u (flat_map transacted (flat_map (table_offers given) c.tables)) in
      subst (λ (w : PlainTickets). Leads t w (λ q. rules_for c.rulesets q ++ []) (λ q name rows. fold (filled_by q name) rows c.tables)) (sym (after_both t (flat_map (rule_offers given) c.rulesets) (flat_map (table_offers given) c.tables)))
      (leads_on t u v (rules_for c.rulesets) no_rules no_entries (λ q name rows. fold (filled_by q name) rows c.tables) first (tables_lead u c.tables first.all tables))

  named_all : {X : Type 0} → (f : X → RulesetName) (xs : List X) → ((n : RulesetName) → is_named (map f xs) n ≡ true → is_named names n ≡ true) → AreNamed f xs
  named_all f [] within = tt
  named_all f (x ∷ xs) within = (
    within (f x) (or_left (same_name (f x) (f x)) (is_named (map f xs) (f x)) (names_alike.refl (f x))),
    named_all f xs (λ n is. within n (or_right (same_name (f x) n) (is_named (map f xs) n) is)),
  )

  -- the paths of tables are among those that are named
  paths_named : (fs : List FilledTable) (paths : List Word) → ((p : Word) → is_among p (fold with_path paths fs) ≡ true → is_named names (table_ruleset_at p) ≡ true) → AreNamed (λ (f : FilledTable). table_ruleset_at f.path) fs
  paths_named [] paths within = tt
  paths_named (f ∷ fs) paths within = (within f.path (path_stays fs (with_path paths f) f.path (path_put paths f)), paths_named fs (with_path paths f) within)

-- ---- by itself

-- a file's rules at a path
rules_none : (given : RulesetName → Ticket) (names : List RulesetName) (rs : List Ruleset) (q : RulesetName) → is_named (map filter_of rs) q ≡ false → rules_for given names rs q ≡ []
rules_none given names [] q absent = refl
rules_none given names (r ∷ rs) q absent =
    let both : (same_name (filter_of r) q ≡ false) × (is_named (map filter_of rs) q ≡ false) = or_parts (same_name (filter_of r) q) (is_named (map filter_of rs) q) absent in
    ap (λ (b : Bool). cond b (rules_of r) [] ++ rules_for given names rs q) both.0 ∙ rules_none given names rs q both.1

is_in : (rs : List Ruleset) (r : Ruleset) → Contains rs r → is_named (map filter_of rs) (filter_of r) ≡ true
is_in [] r (k, within, is) = absurd (omega (arith, within))
is_in (x ∷ xs) r (zero, within, is) = or_left (same_name (filter_of x) (filter_of r)) (is_named (map filter_of xs) (filter_of r)) (subst (λ (y : Ruleset). same_name (filter_of x) (filter_of y) ≡ true) is (names_alike.refl (filter_of x)))
is_in (x ∷ xs) r (suc k, within, is) = or_right (same_name (filter_of x) (filter_of r)) (is_named (map filter_of xs) (filter_of r)) (is_in xs r (k, omega (arith, within), is))

differs : (a b : RulesetName) (ns : List RulesetName) (same : Bool) → same_name a b ≡ same → is_named ns a ≡ false → is_named ns b ≡ true → same ≡ false
differs a b ns true is absent there = let both : false ≡ true = sym absent ∙ ap (is_named ns) (name_is a b is) ∙ there in absurd (cc (both))
differs a b ns false is absent there = refl

rules_one : (given : RulesetName → Ticket) (names : List RulesetName) (rs : List Ruleset) (r : Ruleset) → IsDistinct (map filter_of rs) → Contains rs r → rules_for given names rs (filter_of r) ≡ rules_of r
rules_one given names [] r once (k, within, is) = absurd (omega (arith, within))
rules_one given names (x ∷ xs) r once (zero, within, is) =
    subst (λ (y : Ruleset). rules_for given names (x ∷ xs) (filter_of y) ≡ rules_of y) is
    (ap (λ (b : Bool). cond b (rules_of x) [] ++ rules_for given names xs (filter_of x)) (names_alike.refl (filter_of x)) ∙ ap (λ (l : List PlainRule). rules_of x ++ l) (rules_none given names xs (filter_of x) once.0) ∙ append-nil (rules_of x))
rules_one given names (x ∷ xs) r once (suc k, within, is) =
    let inside : Contains xs r = (k, omega (arith, within), is) in
    ap (λ (b : Bool). cond b (rules_of x) [] ++ rules_for given names xs (filter_of r)) (differs (filter_of x) (filter_of r) (map filter_of xs) (same_name (filter_of x) (filter_of r)) refl once.0 (is_in xs r inside))
    ∙ rules_one given names xs r once.1 inside

-- a table of a file
not_both : {A : Type 0} → (a b : Bool) (x y : A) → (a && b) ≡ false → cond a (cond b x y) y ≡ y
not_both true true x y absent = absurd (cc (absent))
not_both true false x y absent = refl
not_both false b x y absent = refl

filled_none : (given : RulesetName → Ticket) (names : List RulesetName) (fs : List FilledTable) (path name : Word) (rows : Option (List PlainEntry)) → list_any (is_table_at path name) fs ≡ false → fold (filled_by given names (table_ruleset_at path) name) rows fs ≡ rows
filled_none given names [] path name rows absent = refl
filled_none given names (f ∷ fs) path name rows absent =
    let both : (is_table_at path name f ≡ false) × (list_any (is_table_at path name) fs ≡ false) = or_parts (is_table_at path name f) (list_any (is_table_at path name) fs) absent in
    ap (λ (o : Option (List PlainEntry)). fold (filled_by given names (table_ruleset_at path) name) o fs) (not_both (same_path f.path path) (same_table name f.name) (Some (replaced f.table)) rows both.0)
    ∙ filled_none given names fs path name rows both.1

filled_here : (given : RulesetName → Ticket) (names : List RulesetName) (f : FilledTable) (rows : Option (List PlainEntry)) → filled_by given names (table_ruleset_at f.path) f.name rows f ≡ Some (replaced f.table)
filled_here given names f rows =
    let path : same_path f.path f.path ≡ true = paths_alike.refl f.path in
    let name : same_table f.name f.name ≡ true = (eq_by_cmp_equiv nat_list_cmp_total).refl f.name in
    ap (λ (b : Bool). cond b (cond (same_table f.name f.name) (Some (replaced f.table)) rows) rows) path ∙ ap (λ (b : Bool). cond b (Some (replaced f.table)) rows) name

filled_one : (given : RulesetName → Ticket) (names : List RulesetName) (fs : List FilledTable) (f : FilledTable) (rows : Option (List PlainEntry)) → AreOnce fs → Contains fs f → fold (filled_by given names (table_ruleset_at f.path) f.name) rows fs ≡ Some (replaced f.table)
filled_one given names [] f rows once (k, within, is) = absurd (omega (arith, within))
filled_one given names (x ∷ xs) f rows once (zero, within, is) =
    subst (λ (y : FilledTable). fold (filled_by given names (table_ruleset_at y.path) y.name) rows (x ∷ xs) ≡ Some (replaced y.table)) is
    (ap (λ (o : Option (List PlainEntry)). fold (filled_by given names (table_ruleset_at x.path) x.name) o xs) (filled_here given names x rows) ∙ filled_none given names xs x.path x.name (Some (replaced x.table)) once.0)
filled_one given names (x ∷ xs) f rows once (suc k, within, is) =
    filled_one given names xs f (filled_by given names (table_ruleset_at f.path) f.name rows x) once.1 (k, omega (arith, within), is)

-- ---- what is named

in_either : (a b : List RulesetName) (n : RulesetName) → is_named (a ++ b) n ≡ (is_named a n || is_named b n)
in_either a b n = list_any-append (λ (x : RulesetName). same_name x n) a b

tables_named : (paths : List Word) (p : Word) → is_named (map table_ruleset_at paths) (table_ruleset_at p) ≡ is_among p paths
tables_named [] p = refl
tables_named (q ∷ paths) p = ap (λ (b : Bool). same_path q p || b) (tables_named paths p)

distinct_front : (a b : List RulesetName) → IsDistinct (a ++ b) → IsDistinct a
distinct_front [] b once = tt
distinct_front (n ∷ a) b once = ((or_parts (is_named a n) (is_named b n) (sym (in_either a b n) ∙ once.0)).0, distinct_front a b once.1)

once_named : (t : PlainTickets) (entries : List RulesetTicket) → commit_check t entries ≡ Ok tt → IsDistinct (names_of entries)
once_named t entries good = otherwise_once entries (not-twice (bad_count (length entries)) (twice_in entries) ((both_passed (list_check entries) (refused_at (λ i. Busy i) (busy_in t entries)) tt good).first))

-- ---- the law

named_at : {X : Type 0} → (given : RulesetName → Ticket) (names : List RulesetName) (f : X → RulesetName) (xs : List X) (x : X) → AreNamed given names f xs → Contains xs x → is_named names (f x) ≡ true
named_at given names f [] x all (k, within, is) = absurd (omega (arith, within))
named_at {X} given names f (y ∷ xs) x all (zero, within, is) = subst (λ (z : X). is_named names (f z) ≡ true) is all.0
named_at given names f (y ∷ xs) x all (suc k, within, is) = named_at given names f xs x all.1 (k, omega (arith, within), is)

module _ (c : Conf) (t : PlainTickets) (d : PlainDurable) (e : PlainChange) (once : AreOnce c.tables) (is : IsLoad c t d e) where
  abbrev names : List RulesetName
  names = ruleset_names c

  abbrev begun : PlainTickets
  begun = after t (gives names)

  abbrev offered : PlainTickets
  offered = after begun (flat_map transacted (offers is.given c))

  abbrev paths : List Word
  paths = table_paths c.tables

  rules_named : AreNamed is.given names filter_of c.rulesets
  rules_named =
      named_all is.given names filter_of c.rulesets (λ n inside. in_either (map filter_of c.rulesets) (map table_ruleset_at paths) n
      ∙ or_left (is_named (map filter_of c.rulesets) n) (is_named (map table_ruleset_at paths) n) inside)

  all_tables_named : AreNamed is.given names (λ (f : FilledTable). table_ruleset_at f.path) c.tables
  all_tables_named =
      paths_named is.given names c.tables [] (λ p inside. in_either (map filter_of c.rulesets) (map table_ruleset_at paths) (table_ruleset_at p)
      ∙ or_right (is_named (map filter_of c.rulesets) (table_ruleset_at p)) (is_named (map table_ruleset_at paths) (table_ruleset_at p)) (tables_named paths p ∙ inside))

  leads : Leads is.given names begun offered (λ q. rules_for is.given names c.rulesets q ++ []) (λ q name rows. fold (filled_by is.given names q name) rows c.tables)
  leads = all_lead is.given names begun c is.begun rules_named all_tables_named

  switched : AreSwitched offered is.entries d (applied d e)
  switched = switches_all offered d is.entries e is.outcome is.committed

  distinct : IsDistinct (map filter_of c.rulesets)
  distinct =
      distinct_front (map filter_of c.rulesets) (map table_ruleset_at paths)
      (subst IsDistinct is.named (once_named offered is.entries (wants_commit offered d is.entries e is.outcome is.committed).good))

  same_named : (n : RulesetName) (b : Bool) → is_named names n ≡ b → is_named (names_of is.entries) n ≡ b
  same_named n b h = ap (λ (ns : List RulesetName). is_named ns n) is.named ∙ h

  no_tables_yet : (path : Word) → is_named names (table_ruleset_at path) ≡ true → (loaded begun (table_ruleset_at path)).tables ≡ []
  no_tables_yet path h = ap tables_in (starts_with_nothing t names (table_ruleset_at path) h)

  rules_of_load : (r : Ruleset) → Contains c.rulesets r → rules_at r.path (applied d e).config.rulesets ≡ rules_of r
  rules_of_load r inside =
      let named : is_named names (filter_of r) ≡ true = named_at is.given names filter_of c.rulesets r rules_named inside in
      let nothing_yet : (loaded begun (filter_of r)).rules ≡ [] = ap rules_in (starts_with_nothing t names (filter_of r) named) in
      switched.named r.path (same_named (filter_of r) true named) ∙ leads.ruled (filter_of r)
      ∙ ap (λ (l : List PlainRule). l ++ (rules_for is.given names c.rulesets (filter_of r) ++ [])) nothing_yet
      ∙ append-nil (rules_for is.given names c.rulesets (filter_of r)) ∙ rules_one is.given names c.rulesets r distinct inside

  tables_of_load : (f : FilledTable) → Contains c.tables f → entries_at (applied d e) f.path f.name ≡ replaced f.table
  tables_of_load f inside =
      let n : RulesetName = table_ruleset_at f.path in
      let named : is_named names n ≡ true = named_at is.given names (λ (g : FilledTable). table_ruleset_at g.path) c.tables f all_tables_named inside in
      let sorted : T (is_sorted name_order (loaded offered n).tables) = leads.sorted n (subst (λ (ts : List PlainDefinedTable). T (is_sorted name_order ts)) (sym (no_tables_yet f.path named)) tt) in
      switched.tables.defined f.path f.name (same_named n true named) sorted
      ∙ ap (λ (o : Option (List PlainEntry)). unwrap_or o (entries_at d f.path f.name)) (leads.filled n f.name ∙ filled_one is.given names c.tables f (find name_order f.name (loaded begun n).tables) once inside)

  others_of_load : (path name : Word) → list_any (is_table_at path name) c.tables ≡ false → (b : Bool) → is_named names (table_ruleset_at path) ≡ b → entries_at (applied d e) path name ≡ entries_at d path name
  others_of_load path name absent true named =
      switched.tables.undefined path name (leads.filled (table_ruleset_at path) name
      ∙ filled_none is.given names c.tables path name (find name_order name (loaded begun (table_ruleset_at path)).tables) absent
      ∙ ap (λ (ts : List PlainDefinedTable). find name_order name ts) (no_tables_yet path named))
  others_of_load path name absent false other = switched.tables.others path name (same_named (table_ruleset_at path) false other)

  loaded_so : IsLoaded c d (applied d e)
  loaded_so = record {
    rules = rules_of_load;
    other_rules = λ path absent. switched.others path (same_named (filter_at path) false absent);
    tables = tables_of_load;
    other_tables = λ path name absent. others_of_load path name absent (is_named names (table_ruleset_at path)) refl;
  }

pub loads_exactly : LoadsExactly
loads_exactly c t d e once is = loaded_so c t d e once is
