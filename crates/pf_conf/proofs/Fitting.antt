-- What a file means is no more than one commit can have.
use Rattle.std.proofs.Common.{◌≡◌, ℕ, zero, suc, ◌+◌, ◌==◌, ◌<◌, ◌≤◌, ◌||◌, Bool, true, false, List, [], ◌∷◌, ◌++◌, map, length, nat_le, Option, Some, None, Ok, Err, refl, lit≤, sym, ap, ◌∙◌, subst, arith, if◌then◌else◌, length-append}
use Rattle.std.specs.{Prelude.All, List.{IsDistinct, list_any, slice_get}, Cmp.eq_by_cmp_equiv, Cmp.Lexicographic.nat_list_cmp_total}
use Rattle.std.proofs.lemmas.{Bool.{leb-true, leb-false}, List.{map-append, length-map, length_push}, List.Elements.{All-nil, All-push}, Map.Keys.IsDistinct-push}
use Rattle.pf_form.specs.Form.Forms.{◌>>=◌}
use Rattle.pf_addr.specs.Path.Paths.{path_text, same_path}
use Rattle.pf_rule.specs.Rules.{PlainRule}
use Rattle.pf_lists.specs.Multiplied.{multiplied}
use Rattle.pf_table.specs.{Entries.PlainEntry, Edits.{conflict_in, replaced}}
use Rattle.pf_table.specs.declared.limits.TheConstants.{TABLE_LIMIT}
use Rattle.pf_tokens.specs.declared.{place.Place.Place, files.File.File, files.TheConstants.READING_LIMIT, flat.Flat.Flat, flat.Macro.Macro}
use Rattle.pf_parse.specs.declared.{fault.Stop.Stop, parser.Mode.Mode, statements.Parsed.Parsed, tree.Braces.Braces, tree.Entry.Entry, tree.Product.Product, tree.Table.Table, tree.Tree.Tree}
use Rattle.pf_parse.specs.declared.fault.Mistake.TheVariants as mistakes
use Rattle.pf_parse.specs.{Stops.fault_at, Reading.Word}
use Rattle.pf_values.specs.declared.interfaces.interface.Interface.{Interface}
use Rattle.pf_conf.specs.Lines.{parsed_with}
use Rattle.pf_conf.specs.declared.{fault.Spot.Spot, found.Conf.Conf, found.FilledTable.FilledTable, found.Found.Found, found.Mention.Mention, found.Ruleset.Ruleset, found.Waiting.Waiting}
use Rattle.pf_conf.specs.declared.found.TheConstants.{RULE_LIMIT, RULESET_LIMIT, LINE_LIMIT}
use Rattle.pf_sources.specs.declared.sources.Gathered.{Gathered}
use Rattle.pf_sources.specs.{Tables.{plain, filled_unless, filled}, Steps.each}
use Rattle.pf_conf.specs.{Found.{nothing_found, is_full, has_rules, has_tables}, Laws.FitsCommit}
use Rattle.pf_conf.specs.Rulesets.{PlacedRule, rule_at, rules_at, with_more, with_product, written_in, skips_in, rules_in, with_ruleset, with_rules, free_path, path_of_braces, Opened, with_braces, with_rulesets}
use Rattle.pf_sources.specs.Sources.{gathered}
use Rattle.pf_conf.specs.Filling.{Defined, with_filled, is_defined, with_table_path, with_table, with_sources, with_definition, with_tables}
use Rattle.pf_conf.specs.Telling.{telling, unread_at, first_spot}
use Rattle.pf_conf.specs.Resolving.{is_main, room_for, free_for, with_notes, with_loads, with_tree, flat_of, after_flat, main_file, commit_length, with_flat, with_file, with_load, with_waiting, load_numbered, loads_from, committed, resolved}
use Rattle.pf_conf.proofs.Kept.{both, each_keeps, if_not, if_room, if_free, if_fits, telling_so}

-- so far one commit can have it
record Fits (s : Found) : Type 0 where
  paths : IsDistinct same_path (map (λ (q : Ruleset). q.path) s.rulesets)
  rulesets : length s.rulesets + length s.table_paths ≤ RULESET_LIMIT
  rules : All (λ (q : Ruleset). length q.rules ≤ RULE_LIMIT) s.rulesets
  tables : All (λ (t : FilledTable). length t.table ≤ TABLE_LIMIT) s.tables

-- ---- rules

abbrev Short : List PlacedRule → Type 0
Short rules = length rules ≤ RULE_LIMIT

more_fits : (p : Place) (rules : List PlacedRule) (more : List PlainRule) (all : List PlacedRule) (b : Bool) → nat_le (length rules + length more) RULE_LIMIT ≡ b → (if b then Ok (rules ++ map (rule_at p) more) else Err (fault_at p mistakes.ManyRules)) ≡ Ok all → Short all
more_fits p rules more all true is from =
    let same : rules ++ map (rule_at p) more ≡ all = cc in
    let long : length (rules ++ map (rule_at p) more) ≡ length rules + length more = length-append rules (map (rule_at p) more) ∙ ap (λ (n : ℕ). length rules + n) (length-map more (rule_at p)) in
    let fits : length rules + length more ≤ RULE_LIMIT = leb-true (length rules + length more) RULE_LIMIT is in
    subst Short same (omega (arith, long, fits))
more_fits p rules more all false is from = absurd (cc)

product_fits : (w : Product) (rules all : List PlacedRule) → Short rules → with_product w rules ≡ Ok all → Short all
unfolding with_product
product_fits w rules all known from =
    let b = both (rules_at w.place (multiplied w.lists)) (with_more w.place rules) all from in
    more_fits w.place rules b.0 all (nat_le (length rules + length b.0) RULE_LIMIT) refl b.2

none_short : Short []
none_short = lit≤ tt

rules_in_fit : (number : ℕ) (tree : Tree) (rules : List PlacedRule) → rules_in number tree ≡ Ok rules → Short rules
unfolding rules_in
rules_in_fit number tree rules from =
    let b = both (each with_product (skips_in number tree) []) (each with_product (written_in number tree.rules)) rules from in
    let skips = each_keeps Short with_product product_fits (skips_in number tree) [] b.0 none_short b.1 in
    each_keeps Short with_product product_fits (written_in number tree.rules) b.0 rules skips b.2

-- ---- rulesets

-- whether a ruleset has this path, by either order of the test
same_any : (path : Word) (qs : List Ruleset) → list_any (same_path path) (map (λ (q : Ruleset). q.path) qs) ≡ list_any (λ (r : Ruleset). same_path r.path path) qs
same_any path [] = refl
same_any path (q ∷ qs) =
    ap (λ (b : Bool). b || list_any (same_path path) (map (λ (r : Ruleset). r.path) qs)) ((eq_by_cmp_equiv nat_list_cmp_total).symm path q.path)
    ∙ ap (λ (b : Bool). same_path q.path path || b) (same_any path qs)

ruleset_fits : (path : Word) (rules : List PlacedRule) (s : Found) → Fits s → has_rules path s ≡ false → is_full s ≡ false → Short rules → Fits (with_ruleset path s rules)
ruleset_fits path rules s known free room short =
    let new : Ruleset = record { path = path; rules = rules } in
    let names : map (λ (q : Ruleset). q.path) (s.rulesets ++ new ∷ []) ≡ map (λ (q : Ruleset). q.path) s.rulesets ++ path ∷ [] = map-append (λ (q : Ruleset). q.path) s.rulesets (new ∷ []) in
    let less : length s.rulesets + length s.table_paths < RULESET_LIMIT = leb-false RULESET_LIMIT (length s.rulesets + length s.table_paths) room in
    let long : length (s.rulesets ++ new ∷ []) ≡ length s.rulesets + 1 = length_push s.rulesets new in
    record {
      paths = subst (IsDistinct same_path) (sym names) (IsDistinct-push (eq_by_cmp_equiv nat_list_cmp_total) (map (λ (q : Ruleset). q.path) s.rulesets) path known.paths (same_any path s.rulesets ∙ free));
      rulesets = omega (arith, less, long);
      rules = All-push (λ (q : Ruleset). Short q.rules) s.rulesets new known.rules short;
      tables = known.tables;
    }

with_rules_fit : (path : Word) (number : ℕ) (tree : Tree) (s t : Found) → Fits s → has_rules path s ≡ false → is_full s ≡ false → with_rules path number tree s ≡ Ok t → Fits t
unfolding with_rules
with_rules_fit path number tree s t known free room from =
    let b = both (rules_in number tree) (λ (rules : List PlacedRule). Ok (with_ruleset path s rules)) t from in
    let same : with_ruleset path s b.0 ≡ t = cc in
    subst Fits same (ruleset_fits path b.0 s known free room (rules_in_fit number tree b.0 b.1))

-- a path that is free has no rules, and there is room
record Free (path : Word) (s : Found) : Type 0 where
  without : has_rules path s ≡ false
  room : is_full s ≡ false

free_by : (p : Place) (path free : Word) (s : Found) (has full : Bool) → has_rules path s ≡ has → is_full s ≡ full
    → (if has then Err (fault_at p (mistakes.RulesTwice (path_text path))) else if full then Err (fault_at p mistakes.ManyRulesets) else Ok path) ≡ Ok free → Free free s
free_by p path free s true full has room from = absurd (cc)
free_by p path free s false true has room from = absurd (cc)
free_by p path free s false false has room from =
    let same : path ≡ free = cc in
    subst (λ (w : Word). Free w s) same (record { without = has; room = room })

is_free : (p : Place) (path : Option Word) (free : Word) (s : Found) → free_path p path s ≡ Ok free → Free free s
is_free p None free s from = absurd (cc)
is_free p (Some path) free s from = free_by p path free s (has_rules path s) (is_full s) refl refl from

braces_fit : (tree : Tree) (b : Braces) (x y : Opened) → Fits x.1 → with_braces tree b x ≡ Ok y → Fits y.1
unfolding with_braces
braces_fit tree b x y known from =
    let first = both (free_path b.place (path_of_braces x.0 b) x.1) (λ (path : Word). with_rules path (length x.0) tree x.1 >>= λ s. Ok (x.0 ++ path ∷ [], s)) y from in
    let next = both (with_rules first.0 (length x.0) tree x.1) (λ (s : Found). Ok (x.0 ++ first.0 ∷ [], s)) y first.2 in
    let same : (x.0 ++ first.0 ∷ [], next.0) ≡ y = cc in
    let free : Free first.0 x.1 = is_free b.place (path_of_braces x.0 b) first.0 x.1 first.1 in
    subst (λ (z : Opened). Fits z.1) same (with_rules_fit first.0 (length x.0) tree x.1 next.0 known free.without free.room next.1)

rulesets_fit : (path : Word) (tree : Tree) (s t : Found) → Fits s → has_rules path s ≡ false → is_full s ≡ false → with_rulesets path tree s ≡ Ok t → Fits t
unfolding with_rulesets
rulesets_fit path tree s t known free room from =
    let first = both (with_rules path 0 tree s) (λ (u : Found). each (with_braces tree) tree.braces (path ∷ [], u) >>= λ x. Ok x.1) t from in
    let next = both (each (with_braces tree) tree.braces (path ∷ [], first.0)) (λ (x : Opened). Ok x.1) t first.2 in
    let all = each_keeps (λ (x : Opened). Fits x.1) (with_braces tree) (braces_fit tree) tree.braces (path ∷ [], first.0) next.0 (with_rules_fit path 0 tree s first.0 known free room first.1) next.1 in
    let same : next.0.1 ≡ t = cc in
    subst Fits same all

-- ---- tables

path_fits : (path : Word) (s t : Found) (has full : Bool) (e : Stop) → is_full s ≡ full → Fits s → (if has then Ok s else if full then Err e else Ok (record s { table_paths = s.table_paths ++ path ∷ [] })) ≡ Ok t → Fits t
path_fits path s t true full e room known from = let same : s ≡ t = cc in subst Fits same known
path_fits path s t false true e room known from = absurd (cc)
path_fits path s t false false e room known from =
    let same : record s { table_paths = s.table_paths ++ path ∷ [] } ≡ t = cc in
    let less : length s.rulesets + length s.table_paths < RULESET_LIMIT = leb-false RULESET_LIMIT (length s.rulesets + length s.table_paths) room in
    let long : length (s.table_paths ++ path ∷ []) ≡ length s.table_paths + 1 = length_push s.table_paths path in
    subst Fits same (record { paths = known.paths; rulesets = omega (arith, less, long); rules = known.rules; tables = known.tables })

abbrev Small : List PlainEntry → Type 0
Small es = length es ≤ TABLE_LIMIT

small_by : (named : Place) (es : List Entry) (fs : List PlainEntry) (n : Option ℕ) (b : Bool) → nat_le (length (replaced (map plain es))) TABLE_LIMIT ≡ b → conflict_in (map plain es) ≡ n → filled named es ≡ Ok fs → Small fs
unfolding filled
small_by named es fs (Some n) b is conflict from = absurd (let no : filled_unless named es (Some n) ≡ Ok fs = sym (ap (filled_unless named es) conflict) ∙ from in cc)
small_by named es fs None true is conflict from =
    let fits : filled_unless named es None ≡ Ok fs = sym (ap (filled_unless named es) conflict) ∙ from in
    let same : replaced (map plain es) ≡ fs = cc in
    subst Small same (leb-true (length (replaced (map plain es))) TABLE_LIMIT is)
small_by named es fs None false is conflict from = absurd (let no : filled_unless named es None ≡ Ok fs = sym (ap (filled_unless named es) conflict) ∙ from in cc)

filled_fits : (path name : Word) (es : List PlainEntry) (read : ℕ) (s : Found) → Fits s → Small es → Fits (with_filled path name es read s)
filled_fits path name es read s known small =
    record {
      paths = known.paths;
      rulesets = known.rulesets;
      rules = known.rules;
      tables = All-push (λ (t : FilledTable). Small t.table) s.tables (record { path = path; name = name; table = es }) known.tables small;
    }

table_fits : (files : List File) (path : Word) (table : Table) (s t : Found) → Fits s → with_table files path table s ≡ Ok t → Fits t
unfolding with_table
table_fits files path table s t known from =
    let a = both (gathered files table.place table.sources s.files_read) (λ (g : Gathered). filled table.place g.entries >>= λ es. with_table_path path table.place s >>= λ u. Ok (with_filled path table.name es g.files_read u)) t from in
    let g : Gathered = a.0 in
    let b = both (filled table.place g.entries) (λ (es : List PlainEntry). with_table_path path table.place s >>= λ u. Ok (with_filled path table.name es g.files_read u)) t a.2 in
    let small : Small b.0 = small_by table.place g.entries b.0 (conflict_in (map plain g.entries)) (nat_le (length (replaced (map plain g.entries))) TABLE_LIMIT) refl refl b.1 in
    let e = both (with_table_path path table.place s) (λ (u : Found). Ok (with_filled path table.name b.0 g.files_read u)) t b.2 in
    let same : with_filled path table.name b.0 g.files_read e.0 ≡ t = cc in
    subst Fits same (filled_fits path table.name b.0 g.files_read e.0 (path_fits path s e.0 (has_tables path s) (is_full s) (fault_at table.place mistakes.ManyRulesets) refl known e.1) small)

sources_fit : (files : List File) (path : Word) (table : Table) (s t : Found) (none : Bool) → Fits s → (if none then Ok s else with_table files path table s) ≡ Ok t → Fits t
sources_fit files path table s t true known from = let same : s ≡ t = cc in subst Fits same known
sources_fit files path table s t false known from = table_fits files path table s t known from

definition_fits : (files : List File) (path : Word) (table : Table) (x y : Defined) → Fits x.1 → with_definition files path table x ≡ Ok y → Fits y.1
unfolding with_definition
definition_fits files path table x y known from =
    let b = both (with_sources files path table x.1) (λ (s : Found). Ok (x.0 ++ table ∷ [], s)) y
    (if_not (is_defined table.name x.0) (with_sources files path table x.1 >>= λ s. Ok (x.0 ++ table ∷ [], s)) (fault_at table.place (mistakes.TableTwice table.name)) y from) in
    let same : (x.0 ++ table ∷ [], b.0) ≡ y = cc in
    subst (λ (z : Defined). Fits z.1) same (sources_fit files path table x.1 b.0 (length table.sources == 0) known b.1)

tables_fit : (files : List File) (path : Word) (ts : List Table) (s t : Found) → Fits s → with_tables files path ts s ≡ Ok t → Fits t
unfolding with_tables
tables_fit files path ts s t known from =
    let b = both (each (with_definition files path) ts ([], s)) (λ (x : Defined). Ok x.1) t from in
    let all = each_keeps (λ (x : Defined). Fits x.1) (with_definition files path) (definition_fits files path) ts ([], s) b.0 known b.1 in
    let same : b.0.1 ≡ t = cc in
    subst Fits same all

-- ---- files

tree_fits : (files : List File) (ms : List Macro) (path : Word) (tree : Tree) (s t : Found) → Fits s → has_rules path s ≡ false → is_full s ≡ false → with_tree files ms path tree s ≡ Ok t → Fits t
unfolding with_tree
tree_fits files ms path tree s t known free room from =
    let a = both (with_rulesets path tree s >>= with_tables files path tree.tables) (λ (u : Found). Ok (with_loads files ms path tree.loads u)) t from in
    let b = both (with_rulesets path tree s) (with_tables files path tree.tables) a.0 a.1 in
    let all = tables_fit files path tree.tables b.0 a.0 (rulesets_fit path tree s b.0 known free room b.1) b.2 in
    let same : with_loads files ms path tree.loads a.0 ≡ t = cc in
    subst Fits same (record { paths = all.paths; rulesets = all.rulesets; rules = all.rules; tables = all.tables })

-- a result that is none, and what it leaves
if_none : {E : Type 0} (s t : Found) (b : Bool) (e : E) → (if b then Err e else Ok s) ≡ Ok t → b ≡ false
if_none s t true e is = absurd (cc)
if_none s t false e is = refl

flat_fits : (files : List File) (interfaces : List Interface) (mode : Mode) (path : Word) (spot : Spot) (flat : Flat) (s t : Found) → Fits s
    → has_rules path s ≡ false → with_flat files interfaces mode path spot flat s ≡ Ok t → Fits t
unfolding with_flat
flat_fits files interfaces mode path spot flat s t known free from =
    let a = both (telling files flat.macros (parsed_with interfaces flat.tokens mode (is_main path)))
    (λ (p : Parsed). room_for spot (with_notes files flat.macros p.notes s)
    >>= λ u. telling files flat.macros (with_tree files flat.macros path p.tree u)) t from in
    let p : Parsed = a.0 in
    let noted : Found = with_notes files flat.macros p.notes s in
    let b = both (room_for spot noted) (λ (u : Found). telling files flat.macros (with_tree files flat.macros path p.tree u)) t a.2 in
    let same : noted ≡ b.0 = if_room spot noted b.0 (is_full noted) b.1 in
    let room : is_full noted ≡ false = if_none noted b.0 (is_full noted) (unread_at spot mistakes.ManyRulesets) b.1 in
    let here : Fits noted = record { paths = known.paths; rulesets = known.rulesets; rules = known.rules; tables = known.tables } in
    tree_fits files flat.macros path p.tree b.0 t (subst Fits same here) (subst (λ (u : Found). has_rules path u ≡ false) same free) (subst (λ (u : Found). is_full u ≡ false) same room)
    (telling_so files flat.macros (with_tree files flat.macros path p.tree b.0) t b.2)

file_fits : (files : List File) (interfaces : List Interface) (mode : Mode) (path : Word) (m : Mention) (s t : Found) → Fits s
    → with_file files interfaces mode path m s ≡ Ok t → Fits t
unfolding with_file
file_fits files interfaces mode path m s t known from =
    let a = both (free_for path m.at s) (λ (u : Found). flat_of files m u.files_read
    >>= λ flat. with_flat files interfaces mode path m.at flat (after_flat flat u)) t from in
    let u : Found = a.0 in
    let b = both (flat_of files m u.files_read)
    (λ (flat : Flat). with_flat files interfaces mode path m.at flat (after_flat flat u)) t a.2 in
    let same : s ≡ u = if_free s u (has_rules path s) (unread_at m.at (mistakes.RulesTwice (path_text path))) a.1 in
    let free : has_rules path s ≡ false = if_none s u (has_rules path s) (unread_at m.at (mistakes.RulesTwice (path_text path))) a.1 in
    let here : Fits u = subst Fits same known in
    flat_fits files interfaces mode path m.at b.0 (after_flat b.0 u) t
    (record { paths = here.paths; rulesets = here.rulesets; rules = here.rules; tables = here.tables })
    (subst (λ (v : Found). has_rules path v ≡ false) same free) b.2

load_fits : (files : List File) (interfaces : List Interface) (mode : Mode) (m : Mention) (path : Option Word) (s t : Found) → Fits s
    → with_load files interfaces mode m path s ≡ Ok t → Fits t
load_fits files interfaces mode m None s t known from = absurd (cc)
load_fits files interfaces mode m (Some path) s t known from = file_fits files interfaces mode path m s t known from

waiting_fits : (files : List File) (interfaces : List Interface) (mode : Mode) (w : Option Waiting) (s t : Found) → Fits s
    → with_waiting files interfaces mode w s ≡ Ok t → Fits t
waiting_fits files interfaces mode None s t known from = let same : s ≡ t = cc in subst Fits same known
waiting_fits files interfaces mode (Some w) s t known from = load_fits files interfaces mode w.mention w.path s t known from

loads_fit : (files : List File) (interfaces : List Interface) (mode : Mode) (n more : ℕ) (s t : Found) → Fits s
    → loads_from files interfaces mode n more s ≡ Ok t → Fits t
unfolding loads_from
loads_fit files interfaces mode n zero s t known from = let same : s ≡ t = cc in subst Fits same known
loads_fit files interfaces mode n (suc more) s t known from =
    let b = both (load_numbered files interfaces mode n s) (λ (u : Found). loads_from files interfaces mode (n + 1) more u) t from in
    loads_fit files interfaces mode (n + 1) more b.0 t (waiting_fits files interfaces mode (slice_get s.waiting n) s b.0 known b.1) b.2

nothing_fits : Fits nothing_found
unfolding IsDistinct
nothing_fits = record { paths = tt; rulesets = lit≤ tt; rules = All-nil (λ (q : Ruleset). length q.rules ≤ RULE_LIMIT); tables = All-nil (λ (t : FilledTable). Small t.table) }

pub fits_commit : (files : List File) (interfaces : List Interface) (mode : Mode) (base name : Word) (c : Conf)
    → resolved files interfaces mode base name ≡ Ok c → FitsCommit c
unfolding resolved
fits_commit files interfaces mode base name c from =
    let a = both (with_file files interfaces mode base (main_file name) nothing_found >>= loads_from files interfaces mode 0 READING_LIMIT)
    (committed (first_spot name)) c from in
    let u : Found = a.0 in
    let b = both (with_file files interfaces mode base (main_file name) nothing_found)
    (loads_from files interfaces mode 0 READING_LIMIT) u a.1 in
    let all : Fits u = loads_fit files interfaces mode 0 READING_LIMIT b.0 u
    (file_fits files interfaces mode base (main_file name) nothing_found b.0 nothing_fits b.1) b.2 in
    let same : record { rulesets = u.rulesets; tables = u.tables; notes = u.notes } ≡ c = if_fits u c (nat_le (commit_length u) LINE_LIMIT) (unread_at (first_spot name) mistakes.LongCommit) a.2 in
    let few : length u.rulesets ≤ RULESET_LIMIT = omega (arith, all.rulesets) in
    subst FitsCommit same (record { paths = all.paths; rulesets = few; rules = all.rules; tables = all.tables })
