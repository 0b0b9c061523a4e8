-- What each ruleset has that is found.
use Rattle.std.proofs.Common.{◌≡◌, ℕ, zero, suc, ◌+◌, ◌==◌, Bool, true, false, List, [], ◌∷◌, ◌++◌, map, length, nat_le, Option, Some, None, Result, Ok, Err, refl, ap, subst, if◌then◌else◌}
use Rattle.std.specs.Prelude.{All}
use Rattle.std.specs.{List.slice_get, Option.option_to_list}
use Rattle.std.proofs.lemmas.List.Elements.{All-nil, All-push, All-append, All-map}
use Rattle.pf_form.specs.Form.Forms.{◌>>=◌, Read, reads, ended, read_all}
use Rattle.pf_rule.specs.{Rules.{PlainRule}, RuleGrammar.rule}
use Rattle.pf_rule.specs.declared.fault.Mistake.{Mistake as RuleMistake}
use Rattle.pf_rule.specs.declared.fault.Mistake.TheVariants.{MixedFamily, PortNeedsProto}
use Rattle.pf_lists.specs.{Product.{Word, spelled}, Multiplied.{icmp_fault, unless_fault, rule_read, rule_of, rules_of, at_least_one, multiplied}}
use Rattle.pf_lists.specs.declared.rules.{Mistake.Mistake, TheConstants.COMBINATION_LIMIT}
use Rattle.pf_tokens.specs.declared.{place.Place.Place, files.File.File, files.TheConstants.READING_LIMIT, flat.Flat.Flat}
use Rattle.pf_parse.specs.declared.{fault.Stop.Stop, parser.Mode.Mode, tree.Braces.Braces, tree.Product.Product, tree.Table.Table, tree.Tree.Tree, statements.Parsed.Parsed}
use Rattle.pf_conf.specs.declared.{fault.Spot.Spot, fault.Unread.Unread, found.Conf.Conf, found.Found.Found, found.Mention.Mention, found.Ruleset.Ruleset, found.Waiting.Waiting}
use Rattle.pf_form.specs.declared.form.fault.Kind.{Kind}
use Rattle.pf_table.specs.Entries.{PlainEntry}
use Rattle.pf_sources.specs.declared.sources.Gathered.{Gathered}
use Rattle.pf_lists.specs.declared.rules.Mistake.TheVariants.{ManyCombinations}
use Rattle.pf_addr.specs.Path.Paths.{path_text}
use Rattle.pf_conf.specs.declared.found.TheConstants.{RULE_LIMIT, LINE_LIMIT}
use Rattle.pf_parse.specs.Stops.{fault_at}
use Rattle.pf_values.specs.declared.interfaces.interface.Interface.{Interface}
use Rattle.pf_conf.specs.Lines.{parsed_with}
use Rattle.pf_sources.specs.{Tables.filled, Steps.each}
use Rattle.pf_conf.specs.Found.{nothing_found, is_full, has_rules, has_tables}
use Rattle.pf_conf.specs.Rulesets.{PlacedRule, rule_at, rules_at, with_more, with_product, written_in, skips_in, rules_in, with_ruleset, with_rules, free_path, path_of_braces, Opened, with_braces, with_rulesets}
use Rattle.pf_sources.specs.Sources.{gathered}
use Rattle.pf_conf.specs.Filling.{Defined, with_filled, is_defined, with_table_path, with_table, with_sources, with_definition, with_tables}
use Rattle.pf_parse.specs.declared.fault.Mistake.TheVariants as mistakes
use Rattle.pf_tokens.specs.declared.flat.Macro.{Macro}
use Rattle.pf_conf.specs.Telling.{telling, unread_at, first_spot}
use Rattle.pf_conf.specs.Resolving.{is_main, room_for, free_for, with_notes, with_loads, with_tree, flat_of, after_flat, main_file, commit_length, with_flat, with_file, with_load, with_waiting, load_numbered, loads_from, committed, resolved}

-- ---- steps

-- where a step comes to something, both parts did
pub both : {A B E : Type 0} (q : Result A E) (f : A → Result B E) (x : B) → (q >>= f) ≡ Ok x → (a : A) × (q ≡ Ok a) × (f a ≡ Ok x)
both (Ok a) f x is = (a, refl, is)
both (Err e) f x is = absurd (cc)

pub each_keeps : {A S E : Type 0} (P : S → Type 0) (step : A → S → Result S E) → ((a : A) (s t : S) → P s → step a s ≡ Ok t → P t) → (xs : List A) (s t : S) → P s → each step xs s ≡ Ok t → P t
unfolding each
each_keeps P step keeps [] s t known is = let same : s ≡ t = cc in subst P same known
each_keeps P step keeps (x ∷ xs) s t known is =
    let b = both (step x s) (each step xs) t is in
    each_keeps P step keeps xs b.0 t (keeps x s b.0 known b.1) b.2

-- ---- rules

-- a rule that is read as a whole
abbrev whole : PlainRule → Result (Result PlainRule RuleMistake) (Kind × List Word)
whole r = Ok (Ok r)

faultless : (r s : PlainRule) (fault : Option Mistake) → unless_fault s fault ≡ Ok (Some r) → whole s ≡ whole r
faultless r s None is = let same : s ≡ r = cc in ap whole same
faultless r s (Some m) is = absurd (cc)

read_so : (r : PlainRule) (q : Read (Result PlainRule RuleMistake)) → rule_read q ≡ Ok (Some r) → (q >>= ended) ≡ Ok (Ok r)
read_so r (Ok (Ok s, [])) is = faultless r s (icmp_fault s.protocol s.family) is
read_so r (Ok (Ok s, w ∷ ws)) is = absurd (cc)
read_so r (Ok (Err MixedFamily, ws)) is = absurd (cc)
read_so r (Ok (Err PortNeedsProto, ws)) is = absurd (cc)
read_so r (Err e) is = absurd (cc)

rule_so : (ws : List Word) (r : PlainRule) → rule_of ws ≡ Ok (Some r) → read_all rule ws ≡ Ok (Ok r)
unfolding rule_of
rule_so ws r is = read_so r (reads rule ws) is

-- a rule that is read as a whole is so
abbrev pub ReadIs : (PlainRule → Type 0) → Type 0
ReadIs P = (ws : List Word) (r : PlainRule) → read_all rule ws ≡ Ok (Ok r) → P r

one_rule : (P : PlainRule → Type 0) → ReadIs P → (ws : List Word) (r : Option PlainRule) → rule_of ws ≡ Ok r → All P (option_to_list r)
one_rule P is ws None from = All-nil P
one_rule P is ws (Some r) from = All-push P [] r (All-nil P) (is ws r (rule_so ws r from))

ways_so : (P : PlainRule → Type 0) → ReadIs P → (wss : List (List Word)) (rs : List PlainRule) → rules_of wss ≡ Ok rs → All P rs
unfolding rules_of
ways_so P is [] rs from = let none : [] ≡ rs = cc in subst (All P) none (All-nil P)
ways_so P is (ws ∷ wss) rs from =
    let b = both (rule_of ws) (λ (r : Option PlainRule). rules_of wss >>= λ qs. Ok (option_to_list r ++ qs)) rs from in
    let d = both (rules_of wss) (λ (qs : List PlainRule). Ok (option_to_list b.0 ++ qs)) rs b.2 in
    let all : option_to_list b.0 ++ d.0 ≡ rs = cc in
    subst (All P) all (All-append P (option_to_list b.0) d.0 (one_rule P is ws b.0 b.1) (ways_so P is wss d.0 d.1))

some_so : (P : PlainRule → Type 0) (rs qs : List PlainRule) → All P rs → at_least_one rs ≡ Ok qs → All P qs
some_so P [] qs known is = absurd (cc)
some_so P (r ∷ rs) qs known is = let same : r ∷ rs ≡ qs = cc in subst (All P) same known

pub if_so : {A E : Type 0} (b : Bool) (q : Result A E) (e : E) (x : A) → (if b then q else Err e) ≡ Ok x → q ≡ Ok x
if_so true q e x is = is
if_so false q e x is = absurd (cc)

multiplied_so : (P : PlainRule → Type 0) → ReadIs P → (lists : List (List (List Word))) (rs : List PlainRule) → multiplied lists ≡ Ok rs → All P rs
multiplied_so P is lists rs from =
    let b = both (rules_of (spelled lists)) at_least_one rs (if_so (nat_le (length (spelled lists)) COMBINATION_LIMIT) (rules_of (spelled lists) >>= at_least_one) ManyCombinations rs from) in
    some_so P b.0 rs (ways_so P is (spelled lists) b.0 b.1) b.2

-- ---- placed rules

abbrev pub Placed : (PlainRule → Type 0) → List PlacedRule → Type 0
Placed P rules = All (λ (r : PlacedRule). P r.is) rules

rules_at_so : (p : Place) (q : Result (List PlainRule) Mistake) (rs : List PlainRule) → rules_at p q ≡ Ok rs → q ≡ Ok rs
rules_at_so p (Ok qs) rs is = let same : qs ≡ rs = cc in ap (λ (xs : List PlainRule). Ok xs) same
rules_at_so p (Err m) rs is = absurd (cc)

more_so : (P : PlainRule → Type 0) (p : Place) (rules : List PlacedRule) (more : List PlainRule) (all : List PlacedRule) → Placed P rules → All P more → with_more p rules more ≡ Ok all → Placed P all
more_so P p rules more all known fresh is =
    let from : Ok (rules ++ map (rule_at p) more) ≡ Ok all = if_so (nat_le (length rules + length more) RULE_LIMIT) (Ok (rules ++ map (rule_at p) more)) (fault_at p mistakes.ManyRules) all is in
    let same : rules ++ map (rule_at p) more ≡ all = cc in
    subst (Placed P) same (All-append (λ (r : PlacedRule). P r.is) rules (map (rule_at p) more) known (All-map (λ (r : PlacedRule). P r.is) (rule_at p) more fresh))

product_so : (P : PlainRule → Type 0) → ReadIs P → (w : Product) (rules all : List PlacedRule) → Placed P rules → with_product w rules ≡ Ok all → Placed P all
unfolding with_product
product_so P is w rules all known from =
    let b = both (rules_at w.place (multiplied w.lists)) (with_more w.place rules) all from in
    more_so P w.place rules b.0 all known (multiplied_so P is w.lists b.0 (rules_at_so w.place (multiplied w.lists) b.0 b.1)) b.2

rules_in_so : (P : PlainRule → Type 0) → ReadIs P → (number : ℕ) (tree : Tree) (rules : List PlacedRule) → rules_in number tree ≡ Ok rules → Placed P rules
unfolding rules_in
rules_in_so P is number tree rules from =
    let b = both (each with_product (skips_in number tree) []) (each with_product (written_in number tree.rules)) rules from in
    let skips = each_keeps (Placed P) with_product (product_so P is) (skips_in number tree) [] b.0 (All-nil (λ (r : PlacedRule). P r.is)) b.1 in
    each_keeps (Placed P) with_product (product_so P is) (written_in number tree.rules) b.0 rules skips b.2

-- ---- rulesets

abbrev pub Ruled : (PlacedRule → Type 0) → Found → Type 0
Ruled P s = All (λ (q : Ruleset). All P q.rules) s.rulesets

-- the rules of a tree are so
abbrev pub TreeSo : (PlacedRule → Type 0) → Tree → Type 0
TreeSo P tree = (number : ℕ) (rules : List PlacedRule) → rules_in number tree ≡ Ok rules → All P rules

with_rules_so : (P : PlacedRule → Type 0) (path : Word) (number : ℕ) (tree : Tree) → TreeSo P tree → (s t : Found) → Ruled P s → with_rules path number tree s ≡ Ok t → Ruled P t
unfolding with_rules
with_rules_so P path number tree so s t known from =
    let b = both (rules_in number tree) (λ (rules : List PlacedRule). Ok (with_ruleset path s rules)) t from in
    let same : with_ruleset path s b.0 ≡ t = cc in
    subst (Ruled P) same (All-push (λ (q : Ruleset). All P q.rules) s.rulesets _ known (so number b.0 b.1))

braces_so : (P : PlacedRule → Type 0) (tree : Tree) → TreeSo P tree → (b : Braces) (x y : Opened) → Ruled P x.1 → with_braces tree b x ≡ Ok y → Ruled P y.1
unfolding with_braces
braces_so P tree so b x y known from =
    let first = both (free_path b.place (path_of_braces x.0 b) x.1) (λ (path : Word). with_rules path (length x.0) tree x.1 >>= λ s. Ok (x.0 ++ path ∷ [], s)) y from in
    let next = both (with_rules first.0 (length x.0) tree x.1) (λ (s : Found). Ok (x.0 ++ first.0 ∷ [], s)) y first.2 in
    let same : (x.0 ++ first.0 ∷ [], next.0) ≡ y = cc in
    subst (λ (z : Opened). Ruled P z.1) same (with_rules_so P first.0 (length x.0) tree so x.1 next.0 known next.1)

rulesets_so : (P : PlacedRule → Type 0) (path : Word) (tree : Tree) → TreeSo P tree → (s t : Found) → Ruled P s → with_rulesets path tree s ≡ Ok t → Ruled P t
unfolding with_rulesets
rulesets_so P path tree so s t known from =
    let first = both (with_rules path 0 tree s) (λ (u : Found). each (with_braces tree) tree.braces (path ∷ [], u) >>= λ x. Ok x.1) t from in
    let next = both (each (with_braces tree) tree.braces (path ∷ [], first.0)) (λ (x : Opened). Ok x.1) t first.2 in
    let all = each_keeps (λ (x : Opened). Ruled P x.1) (with_braces tree) (λ b x y ruled one. braces_so P tree so b x y ruled one) tree.braces (path ∷ [], first.0) next.0 (with_rules_so P path 0 tree so s first.0 known first.1) next.1 in
    let same : next.0.1 ≡ t = cc in
    subst (Ruled P) same all

-- ---- tables change no ruleset

path_by : (P : PlacedRule → Type 0) (path : Word) (p : Place) (s t : Found) (has full : Bool) (e : Stop) → Ruled P s → (if has then Ok s else if full then Err e else Ok (record s { table_paths = s.table_paths ++ path ∷ [] })) ≡ Ok t → Ruled P t
path_by P path p s t true full e known from = let same : s ≡ t = cc in subst (Ruled P) same known
path_by P path p s t false true e known from = absurd (cc)
path_by P path p s t false false e known from =
    let same : record s { table_paths = s.table_paths ++ path ∷ [] } ≡ t = cc in
    subst (Ruled P) same known

table_so : (P : PlacedRule → Type 0) (files : List File) (path : Word) (table : Table) (s t : Found) → Ruled P s → with_table files path table s ≡ Ok t → Ruled P t
unfolding with_table
table_so P files path table s t known from =
    let a = both (gathered files table.place table.sources s.files_read) (λ (g : Gathered). filled table.place g.entries >>= λ es. with_table_path path table.place s >>= λ u. Ok (with_filled path table.name es g.files_read u)) t from in
    let g : Gathered = a.0 in
    let b = both (filled table.place g.entries) (λ (es : List PlainEntry). with_table_path path table.place s >>= λ u. Ok (with_filled path table.name es g.files_read u)) t a.2 in
    let e = both (with_table_path path table.place s) (λ (u : Found). Ok (with_filled path table.name b.0 g.files_read u)) t b.2 in
    let same : with_filled path table.name b.0 g.files_read e.0 ≡ t = cc in
    subst (Ruled P) same (path_by P path table.place s e.0 (has_tables path s) (is_full s) (fault_at table.place mistakes.ManyRulesets) known e.1)

sources_so : (P : PlacedRule → Type 0) (files : List File) (path : Word) (table : Table) (s t : Found) (none : Bool) → Ruled P s → (if none then Ok s else with_table files path table s) ≡ Ok t → Ruled P t
sources_so P files path table s t true known from = let same : s ≡ t = cc in subst (Ruled P) same known
sources_so P files path table s t false known from = table_so P files path table s t known from

pub if_not : {A E : Type 0} (b : Bool) (q : Result A E) (e : E) (x : A) → (if b then Err e else q) ≡ Ok x → q ≡ Ok x
if_not true q e x is = absurd (cc)
if_not false q e x is = is

definition_so : (P : PlacedRule → Type 0) (files : List File) (path : Word) (table : Table) (x y : Defined) → Ruled P x.1 → with_definition files path table x ≡ Ok y → Ruled P y.1
unfolding with_definition
definition_so P files path table x y known from =
    let b = both (with_sources files path table x.1) (λ (s : Found). Ok (x.0 ++ table ∷ [], s)) y
    (if_not (is_defined table.name x.0) (with_sources files path table x.1 >>= λ s. Ok (x.0 ++ table ∷ [], s)) (fault_at table.place (mistakes.TableTwice table.name)) y from) in
    let same : (x.0 ++ table ∷ [], b.0) ≡ y = cc in
    subst (λ (z : Defined). Ruled P z.1) same (sources_so P files path table x.1 b.0 (length table.sources == 0) known b.1)

tables_so : (P : PlacedRule → Type 0) (files : List File) (path : Word) (ts : List Table) (s t : Found) → Ruled P s → with_tables files path ts s ≡ Ok t → Ruled P t
unfolding with_tables
tables_so P files path ts s t known from =
    let b = both (each (with_definition files path) ts ([], s)) (λ (x : Defined). Ok x.1) t from in
    let all = each_keeps (λ (x : Defined). Ruled P x.1) (with_definition files path) (λ table x y so one. definition_so P files path table x y so one) ts ([], s) b.0 known b.1 in
    let same : b.0.1 ≡ t = cc in
    subst (Ruled P) same all

-- ---- files

pub if_room : (spot : Spot) (s t : Found) (full : Bool) → (if full then Err (unread_at spot mistakes.ManyRulesets) else Ok s) ≡ Ok t → s ≡ t
if_room spot s t true is = absurd (cc)
if_room spot s t false is = cc

pub if_free : (s t : Found) (has : Bool) (e : Unread) → (if has then Err e else Ok s) ≡ Ok t → s ≡ t
if_free s t true e is = absurd (cc)
if_free s t false e is = cc

pub if_fits : (s : Found) (c : Conf) (fits : Bool) (e : Unread) → (if fits then Ok (record { rulesets = s.rulesets; tables = s.tables; notes = s.notes }) else Err e) ≡ Ok c → record { rulesets = s.rulesets; tables = s.tables; notes = s.notes } ≡ c
if_fits s c true e is = cc
if_fits s c false e is = absurd (cc)

tree_so : (P : PlacedRule → Type 0) (files : List File) (ms : List Macro) (path : Word) (tree : Tree) → TreeSo P tree → (s t : Found) → Ruled P s → with_tree files ms path tree s ≡ Ok t → Ruled P t
unfolding with_tree
tree_so P files ms path tree so s t known from =
    let a = both (with_rulesets path tree s >>= with_tables files path tree.tables) (λ (u : Found). Ok (with_loads files ms path tree.loads u)) t from in
    let b = both (with_rulesets path tree s) (with_tables files path tree.tables) a.0 a.1 in
    let all = tables_so P files path tree.tables b.0 a.0 (rulesets_so P path tree so s b.0 known b.1) b.2 in
    let same : with_loads files ms path tree.loads a.0 ≡ t = cc in
    subst (Ruled P) same all

pub telling_so : {A : Type 0} (files : List File) (ms : List Macro) (q : Result A Stop) (x : A) → telling files ms q ≡ Ok x → q ≡ Ok x
telling_so files ms (Ok y) x is = let same : y ≡ x = cc in ap (λ z. Ok z) same
telling_so files ms (Err e) x is = absurd (cc)

-- the rules of all trees are so that files are
abbrev pub FilesSo : (PlacedRule → Type 0) → List File → List Interface → Type 0
FilesSo P files interfaces = (m : Mention) (read : ℕ) (flat : Flat) (mode : Mode) (main : Bool) (p : Parsed)
    → flat_of files m read ≡ Ok flat → parsed_with interfaces flat.tokens mode main ≡ Ok p → TreeSo P p.tree

flat_so : (P : PlacedRule → Type 0) (files : List File) (interfaces : List Interface) (mode : Mode) (path : Word) (spot : Spot)
    (flat : Flat) → ((p : Parsed) → parsed_with interfaces flat.tokens mode (is_main path) ≡ Ok p → TreeSo P p.tree) → (s t : Found)
    → Ruled P s → with_flat files interfaces mode path spot flat s ≡ Ok t → Ruled P t
unfolding with_flat
flat_so P files interfaces mode path spot flat so s t known from =
    let a = both (telling files flat.macros (parsed_with interfaces flat.tokens mode (is_main path)))
    (λ (p : Parsed). room_for spot (with_notes files flat.macros p.notes s)
    >>= λ u. telling files flat.macros (with_tree files flat.macros path p.tree u)) t from in
    let p : Parsed = a.0 in
    let b = both (room_for spot (with_notes files flat.macros p.notes s)) (λ (u : Found). telling files flat.macros (with_tree files flat.macros path p.tree u)) t a.2 in
    let noted : Found = with_notes files flat.macros p.notes s in
    let same : noted ≡ b.0 = if_room spot noted b.0 (is_full noted) b.1 in
    tree_so P files flat.macros path p.tree
    (so p (telling_so files flat.macros (parsed_with interfaces flat.tokens mode (is_main path)) p a.1)) b.0 t
    (subst (Ruled P) same known) (telling_so files flat.macros (with_tree files flat.macros path p.tree b.0) t b.2)

file_so : (P : PlacedRule → Type 0) (files : List File) (interfaces : List Interface) → FilesSo P files interfaces
    → (mode : Mode) (path : Word) (m : Mention) (s t : Found) → Ruled P s → with_file files interfaces mode path m s ≡ Ok t → Ruled P t
unfolding with_file
file_so P files interfaces so mode path m s t known from =
    let a = both (free_for path m.at s) (λ (u : Found). flat_of files m u.files_read
    >>= λ flat. with_flat files interfaces mode path m.at flat (after_flat flat u)) t from in
    let u : Found = a.0 in
    let b = both (flat_of files m u.files_read)
    (λ (flat : Flat). with_flat files interfaces mode path m.at flat (after_flat flat u)) t a.2 in
    let same : s ≡ u = if_free s u (has_rules path s) (unread_at m.at (mistakes.RulesTwice (path_text path))) a.1 in
    flat_so P files interfaces mode path m.at b.0 (λ p one. so m u.files_read b.0 mode (is_main path) p b.1 one) (after_flat b.0 u) t
    (subst (Ruled P) same known) b.2

load_so : (P : PlacedRule → Type 0) (files : List File) (interfaces : List Interface) → FilesSo P files interfaces
    → (mode : Mode) (m : Mention) (path : Option Word) (s t : Found) → Ruled P s → with_load files interfaces mode m path s ≡ Ok t
    → Ruled P t
load_so P files interfaces so mode m None s t known from = absurd (cc)
load_so P files interfaces so mode m (Some path) s t known from = file_so P files interfaces so mode path m s t known from

waiting_so : (P : PlacedRule → Type 0) (files : List File) (interfaces : List Interface) → FilesSo P files interfaces
    → (mode : Mode) (w : Option Waiting) (s t : Found) → Ruled P s → with_waiting files interfaces mode w s ≡ Ok t → Ruled P t
waiting_so P files interfaces so mode None s t known from = let same : s ≡ t = cc in subst (Ruled P) same known
waiting_so P files interfaces so mode (Some w) s t known from = load_so P files interfaces so mode w.mention w.path s t known from

loads_so : (P : PlacedRule → Type 0) (files : List File) (interfaces : List Interface) → FilesSo P files interfaces
    → (mode : Mode) (n more : ℕ) (s t : Found) → Ruled P s → loads_from files interfaces mode n more s ≡ Ok t → Ruled P t
unfolding loads_from
loads_so P files interfaces so mode n zero s t known from = let same : s ≡ t = cc in subst (Ruled P) same known
loads_so P files interfaces so mode n (suc more) s t known from =
    let b = both (load_numbered files interfaces mode n s) (λ (u : Found). loads_from files interfaces mode (n + 1) more u) t from in
    loads_so P files interfaces so mode (n + 1) more b.0 t
    (waiting_so P files interfaces so mode (slice_get s.waiting n) s b.0 known b.1) b.2

-- the rules of what files mean
pub rules_so : (P : PlacedRule → Type 0) (files : List File) (interfaces : List Interface) → FilesSo P files interfaces
    → (mode : Mode) (base name : Word) (c : Conf) → resolved files interfaces mode base name ≡ Ok c
    → All (λ (q : Ruleset). All P q.rules) c.rulesets
unfolding resolved
rules_so P files interfaces so mode base name c from =
    let a = both (with_file files interfaces mode base (main_file name) nothing_found >>= loads_from files interfaces mode 0 READING_LIMIT)
    (committed (first_spot name)) c from in
    let u : Found = a.0 in
    let b = both (with_file files interfaces mode base (main_file name) nothing_found)
    (loads_from files interfaces mode 0 READING_LIMIT) u a.1 in
    let all = loads_so P files interfaces so mode 0 READING_LIMIT b.0 u
    (file_so P files interfaces so mode base (main_file name) nothing_found b.0 (All-nil (λ (q : Ruleset). All P q.rules)) b.1) b.2 in
    let same : record { rulesets = u.rulesets; tables = u.tables; notes = u.notes } ≡ c = if_fits u c (nat_le (commit_length u) LINE_LIMIT) (unread_at (first_spot name) mistakes.LongCommit) a.2 in
    subst (λ (d : Conf). All (λ (q : Ruleset). All P q.rules) d.rulesets) same all

-- each is one that was read of words
pub rules_are_read : (P : PlainRule → Type 0) → ReadIs P
    → (files : List File) (interfaces : List Interface) (mode : Mode) (base name : Word) (c : Conf)
    → resolved files interfaces mode base name ≡ Ok c → All (λ (q : Ruleset). Placed P q.rules) c.rulesets
rules_are_read P is files interfaces mode base name c from =
    rules_so (λ (r : PlacedRule). P r.is) files interfaces
    (λ m read flat at main p one two number rules given. rules_in_so P is number p.tree rules given) mode base name c from
