-- Each table is filled once, and one commit has room for all rulesets.
use Rattle.std.proofs.Common.{◌≡◌, ℕ, zero, suc, ◌+◌, ◌==◌, ◌<◌, ◌≤◌, ◌||◌, ◌&&◌, Bool, true, false, List, [], ◌∷◌, ◌++◌, length, nat_le, get_or, Option, Some, None, Result, Ok, Err, refl, lit≤, sym, ap, ◌∙◌, subst, arith, if◌then◌else◌}
use Rattle.std.specs.{Prelude.All, List.{list_any, slice_get}, Str.bytes_eq}
use Rattle.std.proofs.lemmas.{Bool.{leb-true, leb-false, or_left, or_right}, List.length_push, List.Elements.{All-nil, All-push}, List.Folds.list_any-append, List.Sums.fold-append, Map.Text.is_eq-slice_cmp, Slice.Eq.bytes_eq-Decides}
use Rattle.pf_form.specs.Form.Forms.{◌>>=◌}
use Rattle.pf_addr.specs.Path.{Names.same_name, Paths.{path_text, same_path}}
use Rattle.pf_table.specs.Entries.{PlainEntry}
use Rattle.pf_tokens.specs.declared.{place.Place.Place, files.File.File, files.TheConstants.READING_LIMIT, flat.Flat.Flat, flat.Macro.Macro}
use Rattle.pf_parse.specs.declared.{fault.Stop.Stop, parser.Mode.Mode, statements.Parsed.Parsed, tree.Braces.Braces, tree.Table.Table, tree.Tree.Tree}
use Rattle.pf_parse.specs.declared.fault.Mistake.TheVariants as mistakes
use Rattle.pf_parse.specs.{Stops.fault_at, Reading.Word}
use Rattle.pf_conf.specs.declared.{fault.Spot.Spot, fault.Unread.Unread, found.Conf.Conf, found.FilledTable.FilledTable, found.Ruleset.Ruleset}
use Rattle.pf_conf.specs.declared.found.TheConstants.{RULESET_LIMIT, LINE_LIMIT}
use Rattle.pf_sources.specs.declared.sources.Gathered.{Gathered}
use Rattle.pf_sources.specs.{Tables.filled, Steps.each}
use Rattle.pf_conf.specs.Found.{nothing_found, is_full, has_rules, has_tables}
use Rattle.pf_conf.specs.Rulesets.{PlacedRule, rules_in, with_ruleset, with_rules, free_path, path_of_braces, Opened, with_braces, with_rulesets}
use Rattle.pf_sources.specs.Sources.{gathered}
use Rattle.pf_conf.specs.Filling.{Defined, with_filled, is_defined, with_table_path, with_table, with_sources, with_definition, with_tables}
use Rattle.pf_values.specs.declared.interfaces.interface.Interface.{Interface}
use Rattle.pf_conf.specs.Lines.{parsed_with}
use Rattle.pf_conf.specs.Telling.{telling, unread_at, first_spot}
use Rattle.pf_conf.specs.Resolving.{is_main, room_for, free_for, with_notes, with_loads, with_tree, flat_of, after_flat, main_file, commit_length, with_flat, with_file, with_load, with_waiting, load_numbered, loads_from, committed, resolved}
use Rattle.pf_conf.proofs.Kept.{both, each_keeps, if_not, if_room, if_free, telling_so}
use Rattle.pf_load.specs.Files.Types.{Found, Mention, Waiting}
use Rattle.pf_conf.specs.Commit.Naming.{with_path, table_paths}
use Rattle.pf_load.specs.Laws.{is_table_at, AreOnce}
use Rattle.pf_load.specs.Files.Commits.{CommitHasRoom}

-- ---- names and paths

path_is : (p q : Word) → same_path p q ≡ true → p ≡ q
path_is p q same = (bytes_eq-Decides p q).0 (sym (is_eq-slice_cmp p q) ∙ same)

path_itself : (p : Word) → same_path p p ≡ true
path_itself p = is_eq-slice_cmp p p ∙ (bytes_eq-Decides p p).1 refl

name_is : (m n : Word) → same_name m n ≡ true → m ≡ n
name_is m n same = (bytes_eq-Decides m n).0 (sym (is_eq-slice_cmp m n) ∙ same)

-- ---- rulesets come, and none goes

abbrev Roomy : Found → Type 0
Roomy s = length s.rulesets + length s.table_paths ≤ RULESET_LIMIT

record Grows (s t : Found) : Type 0 where
  tables : t.tables ≡ s.tables
  paths : t.table_paths ≡ s.table_paths
  rules : (p : Word) → has_rules p s ≡ true → has_rules p t ≡ true
  room : Roomy t

grows_on : (s t u : Found) → Grows s t → Grows t u → Grows s u
grows_on s t u a b = record {
  tables = b.tables ∙ a.tables;
  paths = b.paths ∙ a.paths;
  rules = λ p is. b.rules p (a.rules p is);
  room = b.room;
}

-- and the rules of this path are there
abbrev GrowsAt : Word → Found → Found → Type 0
GrowsAt path s t = Grows s t × (has_rules path t ≡ true)

has_more : (p : Word) (qs : List Ruleset) (q : Ruleset) → list_any (λ (r : Ruleset). same_path r.path p) qs ≡ true → list_any (λ (r : Ruleset). same_path r.path p) (qs ++ q ∷ []) ≡ true
has_more p qs q is =
    list_any-append (λ (r : Ruleset). same_path r.path p) qs (q ∷ []) ∙ ap (λ (b : Bool). b || list_any (λ (r : Ruleset). same_path r.path p) (q ∷ [])) is

has_last : (p : Word) (qs : List Ruleset) (q : Ruleset) → same_path q.path p ≡ true → list_any (λ (r : Ruleset). same_path r.path p) (qs ++ q ∷ []) ≡ true
has_last p qs q is =
    let test : Ruleset → Bool = λ r. same_path r.path p in
    list_any-append test qs (q ∷ []) ∙ or_right (list_any test qs) (list_any test (q ∷ [])) (or_left (test q) false is)

ruleset_grows : (path : Word) (rules : List PlacedRule) (s : Found) → is_full s ≡ false → GrowsAt path s (with_ruleset path s rules)
ruleset_grows path rules s room =
    let new : Ruleset = record { path = path; rules = rules } in
    let less : length s.rulesets + length s.table_paths < RULESET_LIMIT = leb-false RULESET_LIMIT (length s.rulesets + length s.table_paths) room in
    let long : length (s.rulesets ++ new ∷ []) ≡ length s.rulesets + 1 = length_push s.rulesets new in
    (record { tables = refl; paths = refl; rules = λ p is. has_more p s.rulesets new is; room = omega (arith, less, long) }, has_last path s.rulesets new (path_itself path))

with_rules_grow : (path : Word) (number : ℕ) (tree : Tree) (s t : Found) → is_full s ≡ false → with_rules path number tree s ≡ Ok t → GrowsAt path s t
unfolding with_rules
with_rules_grow path number tree s t room from =
    let b = both (rules_in number tree) (λ (rules : List PlacedRule). Ok (with_ruleset path s rules)) t from in
    let same : with_ruleset path s b.0 ≡ t = cc in
    subst (GrowsAt path s) same (ruleset_grows path b.0 s room)

room_by : (p : Place) (path free : Word) (s : Found) (has full : Bool) → is_full s ≡ full
    → (if has then Err (fault_at p (mistakes.RulesTwice (path_text path))) else if full then Err (fault_at p mistakes.ManyRulesets) else Ok path) ≡ Ok free → is_full s ≡ false
room_by p path free s true full room from = absurd (cc)
room_by p path free s false true room from = absurd (cc)
room_by p path free s false false room from = room

path_is_free : (p : Place) (path : Option Word) (free : Word) (s : Found) → free_path p path s ≡ Ok free → is_full s ≡ false
path_is_free p None free s from = absurd (cc)
path_is_free p (Some path) free s from = room_by p path free s (has_rules path s) (is_full s) refl from

braces_grow : (path : Word) (s : Found) (tree : Tree) (b : Braces) (x y : Opened) → GrowsAt path s x.1 → with_braces tree b x ≡ Ok y → GrowsAt path s y.1
unfolding with_braces
braces_grow path s tree b x y known from =
    let first = both (free_path b.place (path_of_braces x.0 b) x.1) (λ (free : Word). with_rules free (length x.0) tree x.1 >>= λ t. Ok (x.0 ++ free ∷ [], t)) y from in
    let next = both (with_rules first.0 (length x.0) tree x.1) (λ (t : Found). Ok (x.0 ++ first.0 ∷ [], t)) y first.2 in
    let same : (x.0 ++ first.0 ∷ [], next.0) ≡ y = cc in
    let grown = with_rules_grow first.0 (length x.0) tree x.1 next.0 (path_is_free b.place (path_of_braces x.0 b) first.0 x.1 first.1) next.1 in
    subst (λ (z : Opened). GrowsAt path s z.1) same (grows_on s x.1 next.0 known.0 grown.0, grown.0.rules path known.1)

rulesets_grow : (path : Word) (tree : Tree) (s t : Found) → is_full s ≡ false → with_rulesets path tree s ≡ Ok t → GrowsAt path s t
unfolding with_rulesets
rulesets_grow path tree s t room from =
    let first = both (with_rules path 0 tree s) (λ (u : Found). each (with_braces tree) tree.braces (path ∷ [], u) >>= λ x. Ok x.1) t from in
    let next = both (each (with_braces tree) tree.braces (path ∷ [], first.0)) (λ (x : Opened). Ok x.1) t first.2 in
    let all = each_keeps (λ (x : Opened). GrowsAt path s x.1) (with_braces tree) (braces_grow path s tree) tree.braces (path ∷ [], first.0) next.0 (with_rules_grow path 0 tree s first.0 room first.1) next.1 in
    let same : next.0.1 ≡ t = cc in
    subst (GrowsAt path s) same all

-- ---- what holds between files

record Once (s : Found) : Type 0 where
  once : AreOnce s.tables
  ruled : All (λ (t : FilledTable). has_rules t.path s ≡ true) s.tables
  paths : table_paths s.tables ≡ s.table_paths
  room : Roomy s

once_grown : (s t : Found) → Once s → Grows s t → Once t
once_grown s t known grown =
    let P : List FilledTable → Type 0 = λ ts. All (λ (u : FilledTable). has_rules u.path t ≡ true) ts in
    record {
      once = subst AreOnce (sym grown.tables) known.once;
      ruled = subst P (sym grown.tables) (λ k d within. grown.rules (get_or s.tables k d).path (known.ruled k d within));
      paths = ap table_paths grown.tables ∙ known.paths ∙ sym grown.paths;
      room = grown.room;
    }

-- ---- a file's tables

-- Of those that stand at the file's path each has the name of a table that came before.
record Filling (path : Word) (before : List Table) (s : Found) : Type 0 where
  once : Once s
  here : has_rules path s ≡ true
  named : All (λ (u : FilledTable). same_path u.path path ≡ true → is_defined u.name before ≡ true) s.tables

once_push : (ts : List FilledTable) (t : FilledTable) → AreOnce ts → All (λ (u : FilledTable). is_table_at u.path u.name t ≡ false) ts → AreOnce (ts ++ t ∷ [])
once_push [] t once others = (refl, tt)
once_push (u ∷ us) t once others =
    let test : FilledTable → Bool = is_table_at u.path u.name in
    let here : test t ≡ false = others 0 u (omega arith) in
    (list_any-append test us (t ∷ []) ∙ ap (λ (b : Bool). b || list_any test (t ∷ [])) once.0 ∙ ap (λ (b : Bool). b || false) here, once_push us t once.1 (λ k d within. others (suc k) d (omega arith)))

stays_defined : (name : Word) (before : List Table) (t : Table) → is_defined name before ≡ true → is_defined name (before ++ t ∷ []) ≡ true
stays_defined name before t is =
    list_any-append (λ (u : Table). bytes_eq u.name name) before (t ∷ []) ∙ ap (λ (b : Bool). b || is_defined name (t ∷ [])) is

is_defined_last : (before : List Table) (t : Table) → is_defined t.name (before ++ t ∷ []) ≡ true
is_defined_last before t =
    let test : Table → Bool = λ u. bytes_eq u.name t.name in
    list_any-append test before (t ∷ []) ∙ or_right (list_any test before) (list_any test (t ∷ [])) (or_left (test t) false ((bytes_eq-Decides t.name t.name).1 refl))

other_by : (path : Word) (before : List Table) (t : Table) (u : FilledTable) (a b : Bool) → is_defined t.name before ≡ false → (same_path u.path path ≡ true → is_defined u.name before ≡ true) → same_path path u.path ≡ a → same_name u.name t.name ≡ b → (a && b) ≡ false
other_by path before t u true true new known here same =
    let at : path ≡ u.path = path_is path u.path here in
    let name : u.name ≡ t.name = name_is u.name t.name same in
    let there : is_defined u.name before ≡ true = known (subst (λ (p : Word). same_path p path ≡ true) at (path_itself path)) in
    absurd (let no : is_defined t.name before ≡ true = sym (ap (λ (n : Word). is_defined n before) name) ∙ there in cc (no, new))
other_by path before t u true false new known here same = refl
other_by path before t u false b new known here same = refl

one_more : (path : Word) (before : List Table) (t : Table) (es : List PlainEntry) (read : ℕ) (s : Found) (paths : List Word) → Filling path before s → is_defined t.name before ≡ false
    → with_path s.table_paths (record { path = path; name = t.name; table = es }) ≡ paths → length s.rulesets + length paths ≤ RULESET_LIMIT
    → Filling path (before ++ t ∷ []) (with_filled path t.name es read (record s { table_paths = paths }))
one_more path before t es read s paths known new is room =
    let added : FilledTable = record { path = path; name = t.name; table = es } in
    let old : Once s = known.once in
    record {
      once = record {
        once = once_push s.tables added old.once (λ k d within. let u : FilledTable = get_or s.tables k d in other_by path before t u (same_path path u.path) (same_name u.name t.name) new (known.named k d within) refl refl);
        ruled = All-push (λ (u : FilledTable). has_rules u.path s ≡ true) s.tables added old.ruled known.here;
        paths = fold-append with_path [] s.tables (added ∷ []) ∙ ap (λ (ps : List Word). with_path ps added) old.paths ∙ is;
        room = room;
      };
      here = known.here;
      named = All-push (λ (u : FilledTable). same_path u.path path ≡ true → is_defined u.name (before ++ t ∷ []) ≡ true) s.tables added
          (λ k d within at. stays_defined (get_or s.tables k d).name before t (known.named k d within at)) (λ at. is_defined_last before t);
    }

not_filled : (path : Word) (before : List Table) (t : Table) (s : Found) → Filling path before s → Filling path (before ++ t ∷ []) s
not_filled path before t s known =
    record { once = known.once; here = known.here; named = λ k d within at. stays_defined (get_or s.tables k d).name before t (known.named k d within at) }

path_by : (P : Found → Type 0) (path : Word) (s u : Found) (has full : Bool) (e : Stop) → (has ≡ true → P s) → (has ≡ false → full ≡ false → P (record s { table_paths = s.table_paths ++ path ∷ [] }))
    → (if has then Ok s else if full then Err e else Ok (record s { table_paths = s.table_paths ++ path ∷ [] })) ≡ Ok u → P u
path_by P path s u true full e there new from = let same : s ≡ u = cc in subst P same (there refl)
path_by P path s u false true e there new from = absurd (cc)
path_by P path s u false false e there new from = let same : record s { table_paths = s.table_paths ++ path ∷ [] } ≡ u = cc in subst P same (new refl refl)

table_fills : (files : List File) (path : Word) (before : List Table) (t : Table) (s v : Found) → is_defined t.name before ≡ false → Filling path before s → with_table files path t s ≡ Ok v → Filling path (before ++ t ∷ []) v
unfolding with_table
table_fills files path before t s v new known from =
    let a = both (gathered files t.place t.sources s.files_read) (λ (g : Gathered). filled t.place g.entries >>= λ es. with_table_path path t.place s >>= λ u. Ok (with_filled path t.name es g.files_read u)) v from in
    let g : Gathered = a.0 in
    let b = both (filled t.place g.entries) (λ (es : List PlainEntry). with_table_path path t.place s >>= λ u. Ok (with_filled path t.name es g.files_read u)) v a.2 in
    let es : List PlainEntry = b.0 in
    let e = both (with_table_path path t.place s) (λ (u : Found). Ok (with_filled path t.name es g.files_read u)) v b.2 in
    let same : with_filled path t.name es g.files_read e.0 ≡ v = cc in
    let choose : Bool → List Word = λ b. if b then s.table_paths else (s.table_paths ++ path ∷ []) in
    subst (Filling path (before ++ t ∷ [])) same
    (path_by (λ (u : Found). Filling path (before ++ t ∷ []) (with_filled path t.name es g.files_read u)) path s e.0 (has_tables path s) (is_full s) (fault_at t.place mistakes.ManyRulesets)
    (λ there. one_more path before t es g.files_read s s.table_paths known new (ap choose there) known.once.room)
    (λ absent room. one_more path before t es g.files_read s (s.table_paths ++ path ∷ []) known new (ap choose absent)
    (let less : length s.rulesets + length s.table_paths < RULESET_LIMIT = leb-false RULESET_LIMIT (length s.rulesets + length s.table_paths) room in
    let long : length (s.table_paths ++ path ∷ []) ≡ length s.table_paths + 1 = length_push s.table_paths path in
    omega (arith, less, long)))
    e.1)

sources_fill : (files : List File) (path : Word) (before : List Table) (t : Table) (s v : Found) (none : Bool) → is_defined t.name before ≡ false → Filling path before s → (if none then Ok s else with_table files path t s) ≡ Ok v → Filling path (before ++ t ∷ []) v
sources_fill files path before t s v true new known from =
    let same : s ≡ v = cc in
    subst (Filling path (before ++ t ∷ [])) same (not_filled path before t s known)
sources_fill files path before t s v false new known from = table_fills files path before t s v new known from

is_new : {A E : Type 0} (b : Bool) (q : Result A E) (e : E) (x : A) → (if b then Err e else q) ≡ Ok x → b ≡ false
is_new true q e x from = absurd (cc)
is_new false q e x from = refl

definition_fills : (files : List File) (path : Word) (t : Table) (x y : Defined) → Filling path x.0 x.1 → with_definition files path t x ≡ Ok y → Filling path y.0 y.1
unfolding with_definition
definition_fills files path t x y known from =
    let sources : Result Defined Stop = with_sources files path t x.1 >>= λ s. Ok (x.0 ++ t ∷ [], s) in
    let e : Stop = fault_at t.place (mistakes.TableTwice t.name) in
    let new : is_defined t.name x.0 ≡ false = is_new (is_defined t.name x.0) sources e y from in
    let b = both (with_sources files path t x.1) (λ (s : Found). Ok (x.0 ++ t ∷ [], s)) y (if_not (is_defined t.name x.0) sources e y from) in
    let same : (x.0 ++ t ∷ [], b.0) ≡ y = cc in
    subst (λ (z : Defined). Filling path z.0 z.1) same (sources_fill files path x.0 t x.1 b.0 (length t.sources == 0) new known b.1)

tables_fill : (files : List File) (path : Word) (ts : List Table) (s t : Found) → Filling path [] s → with_tables files path ts s ≡ Ok t → Once t
unfolding with_tables
tables_fill files path ts s t known from =
    let b = both (each (with_definition files path) ts ([], s)) (λ (x : Defined). Ok x.1) t from in
    let all : Filling path b.0.0 b.0.1 = each_keeps (λ (x : Defined). Filling path x.0 x.1) (with_definition files path) (definition_fills files path) ts ([], s) b.0 known b.1 in
    let same : b.0.1 ≡ t = cc in
    subst Once same all.once

-- ---- files

-- no table stands at a path that has no rules
none_at : (path : Word) (s : Found) → Once s → has_rules path s ≡ false → All (λ (u : FilledTable). same_path u.path path ≡ true → is_defined u.name [] ≡ true) s.tables
none_at path s known free k d within at =
    let is : (get_or s.tables k d).path ≡ path = path_is (get_or s.tables k d).path path at in
    absurd (let no : has_rules path s ≡ true = sym (ap (λ (p : Word). has_rules p s) is) ∙ known.ruled k d within in cc (no, free))

tree_once : (files : List File) (ms : List Macro) (path : Word) (tree : Tree) (s t : Found) → Once s → has_rules path s ≡ false → is_full s ≡ false → with_tree files ms path tree s ≡ Ok t → Once t
unfolding with_tree
tree_once files ms path tree s t known free room from =
    let a = both (with_rulesets path tree s >>= with_tables files path tree.tables) (λ (u : Found). Ok (with_loads files ms path tree.loads u)) t from in
    let b = both (with_rulesets path tree s) (with_tables files path tree.tables) a.0 a.1 in
    let u : Found = b.0 in
    let grown : GrowsAt path s u = rulesets_grow path tree s u room b.1 in
    let P : List FilledTable → Type 0 = λ ts. All (λ (v : FilledTable). same_path v.path path ≡ true → is_defined v.name [] ≡ true) ts in
    let none : P u.tables = subst P (sym grown.0.tables) (none_at path s known free) in
    let all : Once a.0 = tables_fill files path tree.tables u a.0 (record { once = once_grown s u known grown.0; here = grown.1; named = none }) b.2 in
    let same : with_loads files ms path tree.loads a.0 ≡ t = cc in
    subst Once same (record { once = all.once; ruled = all.ruled; paths = all.paths; room = all.room })

not_full : (spot : Spot) (s t : Found) (full : Bool) → (if full then Err (unread_at spot mistakes.ManyRulesets) else Ok s) ≡ Ok t → full ≡ false
not_full spot s t true from = absurd (cc)
not_full spot s t false from = refl

flat_once : (files : List File) (interfaces : List Interface) (mode : Mode) (path : Word) (spot : Spot) (flat : Flat) (s t : Found) → Once s
    → has_rules path s ≡ false → with_flat files interfaces mode path spot flat s ≡ Ok t → Once t
unfolding with_flat
flat_once files interfaces mode path spot flat s t known free from =
    let a = both (telling files flat.macros (parsed_with interfaces flat.tokens mode (is_main path)))
    (λ (p : Parsed). room_for spot (with_notes files flat.macros p.notes s)
    >>= λ u. telling files flat.macros (with_tree files flat.macros path p.tree u)) t from in
    let p : Parsed = a.0 in
    let noted : Found = with_notes files flat.macros p.notes s in
    let b = both (room_for spot noted) (λ (u : Found). telling files flat.macros (with_tree files flat.macros path p.tree u)) t a.2 in
    let same : noted ≡ b.0 = if_room spot noted b.0 (is_full noted) b.1 in
    let room : is_full noted ≡ false = not_full spot noted b.0 (is_full noted) b.1 in
    let here : Once noted = record { once = known.once; ruled = known.ruled; paths = known.paths; room = known.room } in
    tree_once files flat.macros path p.tree b.0 t (subst Once same here) (subst (λ (u : Found). has_rules path u ≡ false) same free) (subst (λ (u : Found). is_full u ≡ false) same room)
    (telling_so files flat.macros (with_tree files flat.macros path p.tree b.0) t b.2)

free_one : (s t : Found) (has : Bool) (e : Unread) → (if has then Err e else Ok s) ≡ Ok t → has ≡ false
free_one s t true e from = absurd (cc)
free_one s t false e from = refl

file_once : (files : List File) (interfaces : List Interface) (mode : Mode) (path : Word) (m : Mention) (s t : Found) → Once s
    → with_file files interfaces mode path m s ≡ Ok t → Once t
unfolding with_file
file_once files interfaces mode path m s t known from =
    let a = both (free_for path m.at s) (λ (u : Found). flat_of files m u.files_read
    >>= λ flat. with_flat files interfaces mode path m.at flat (after_flat flat u)) t from in
    let u : Found = a.0 in
    let b = both (flat_of files m u.files_read)
    (λ (flat : Flat). with_flat files interfaces mode path m.at flat (after_flat flat u)) t a.2 in
    let e : Unread = unread_at m.at (mistakes.RulesTwice (path_text path)) in
    let same : s ≡ u = if_free s u (has_rules path s) e a.1 in
    let free : has_rules path s ≡ false = free_one s u (has_rules path s) e a.1 in
    let here : Once u = subst Once same known in
    flat_once files interfaces mode path m.at b.0 (after_flat b.0 u) t
    (record { once = here.once; ruled = here.ruled; paths = here.paths; room = here.room })
    (subst (λ (v : Found). has_rules path v ≡ false) same free) b.2

load_once : (files : List File) (interfaces : List Interface) (mode : Mode) (m : Mention) (path : Option Word) (s t : Found) → Once s
    → with_load files interfaces mode m path s ≡ Ok t → Once t
load_once files interfaces mode m None s t known from = absurd (cc)
load_once files interfaces mode m (Some path) s t known from = file_once files interfaces mode path m s t known from

waiting_once : (files : List File) (interfaces : List Interface) (mode : Mode) (w : Option Waiting) (s t : Found) → Once s
    → with_waiting files interfaces mode w s ≡ Ok t → Once t
waiting_once files interfaces mode None s t known from = let same : s ≡ t = cc in subst Once same known
waiting_once files interfaces mode (Some w) s t known from = load_once files interfaces mode w.mention w.path s t known from

loads_once : (files : List File) (interfaces : List Interface) (mode : Mode) (n more : ℕ) (s t : Found) → Once s
    → loads_from files interfaces mode n more s ≡ Ok t → Once t
unfolding loads_from
loads_once files interfaces mode n zero s t known from = let same : s ≡ t = cc in subst Once same known
loads_once files interfaces mode n (suc more) s t known from =
    let b = both (load_numbered files interfaces mode n s) (λ (u : Found). loads_from files interfaces mode (n + 1) more u) t from in
    loads_once files interfaces mode (n + 1) more b.0 t (waiting_once files interfaces mode (slice_get s.waiting n) s b.0 known b.1) b.2

nothing_once : Once nothing_found
nothing_once = record { once = tt; ruled = All-nil (λ (t : FilledTable). has_rules t.path nothing_found ≡ true); paths = refl; room = lit≤ tt }

-- ---- what files mean

abbrev conf_of : Found → Conf
conf_of s = record { rulesets = s.rulesets; tables = s.tables; notes = s.notes }

record Committed (s : Found) (c : Conf) : Type 0 where
  same : conf_of s ≡ c
  line : commit_length s ≤ LINE_LIMIT

committed_by : (s : Found) (c : Conf) (fits : Bool) (e : Unread) → nat_le (commit_length s) LINE_LIMIT ≡ fits → (if fits then Ok (conf_of s) else Err e) ≡ Ok c → Committed s c
committed_by s c true e is from = record { same = cc; line = leb-true (commit_length s) LINE_LIMIT is }
committed_by s c false e is from = absurd (cc)

-- what was found before the commit
found_once : (files : List File) (interfaces : List Interface) (mode : Mode) (base name : Word) (c : Conf)
    → resolved files interfaces mode base name ≡ Ok c → (s : Found) × Once s × Committed s c
unfolding resolved
found_once files interfaces mode base name c from =
    let a = both (with_file files interfaces mode base (main_file name) nothing_found >>= loads_from files interfaces mode 0 READING_LIMIT)
    (committed (first_spot name)) c from in
    let u : Found = a.0 in
    let b = both (with_file files interfaces mode base (main_file name) nothing_found)
    (loads_from files interfaces mode 0 READING_LIMIT) u a.1 in
    let all : Once u = loads_once files interfaces mode 0 READING_LIMIT b.0 u
    (file_once files interfaces mode base (main_file name) nothing_found b.0 nothing_once b.1) b.2 in
    (u, all, committed_by u c (nat_le (commit_length u) LINE_LIMIT) (unread_at (first_spot name) mistakes.LongCommit) refl a.2)

pub tables_once : (files : List File) (interfaces : List Interface) (mode : Mode) (base name : Word) (c : Conf)
    → resolved files interfaces mode base name ≡ Ok c → AreOnce c.tables
tables_once files interfaces mode base name c from =
    let f = found_once files interfaces mode base name c from in
    subst (λ (d : Conf). AreOnce d.tables) f.2.same f.1.once

pub room_for_all : (files : List File) (interfaces : List Interface) (mode : Mode) (base name : Word) (c : Conf)
    → resolved files interfaces mode base name ≡ Ok c → CommitHasRoom c
room_for_all files interfaces mode base name c from =
    let f = found_once files interfaces mode base name c from in
    let s : Found = f.0 in
    let all : List Word → Type 0 = λ ps. length s.rulesets + length ps ≤ RULESET_LIMIT in
    let line : List Word → Type 0 = λ ps. commit_length (record s { table_paths = ps }) ≤ LINE_LIMIT in
    subst CommitHasRoom f.2.same (record { rulesets = subst all (sym f.1.paths) f.1.room; line = subst line (sym f.1.paths) f.2.line })
