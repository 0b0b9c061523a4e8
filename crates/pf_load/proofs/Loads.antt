-- Each load reads a file, so that there are fewer of them than may be read.
use Rattle.std.proofs.Common.{◌≡◌, ℕ, zero, suc, ◌+◌, ◌-◌, ◌==◌, ◌<◌, ◌≤◌, Bool, true, false, List, [], ◌∷◌, ◌++◌, length, Option, Some, None, Result, Ok, Err, refl, sym, ap, ◌∙◌, subst, arith, inl, inr, if◌then◌else◌}
use Rattle.std.specs.List.{slice_get}
use Rattle.std.proofs.lemmas.{Bool.cases_lt, Option.slice_get_past}
use Rattle.pf_form.specs.Form.Forms.{◌>>=◌}
use Rattle.pf_addr.specs.Path.Paths.{path_text}
use Rattle.pf_table.specs.Entries.{PlainEntry}
use Rattle.pf_tokens.specs.declared.{place.Place.Place, token.Token.Token, files.File.File, files.TheConstants.READING_LIMIT, flat.Flat.Flat, flat.Macro.Macro, flat.TheConstants.INCLUDE_LIMIT}
use Rattle.pf_tokens.specs.declared.fault.TokenStop.{TokenStop}
use Rattle.pf_tokens.specs.declared.fault.TokenStop.TheVariants as token_stops
use Rattle.pf_tokens.specs.{Places.{start_of, text_of}, Files.text_of_file, Flat.read_file}
use Rattle.pf_parse.specs.declared.{parser.Mode.Mode, statements.Parsed.Parsed, tree.Braces.Braces, tree.Entry.Entry, tree.Entries.Entries, tree.Entries.TheVariants.{Listed, File as FromFile}, tree.Table.Table, tree.Tree.Tree}
use Rattle.pf_parse.specs.declared.fault.Mistake.TheVariants as mistakes
use Rattle.pf_parse.specs.{Stops.fault_at, Reading.Word, Lines.parsed, Entries.{file_entries, onto}}
use Rattle.pf_conf.specs.declared.{fault.Spot.Spot, fault.Unread.Unread}
use Rattle.pf_sources.specs.declared.sources.Gathered.{Gathered}
use Rattle.pf_sources.specs.{Tables.filled, Steps.each}
use Rattle.pf_conf.specs.Found.{nothing_found, is_full, has_rules}
use Rattle.pf_conf.specs.Rulesets.{PlacedRule, rules_in, with_ruleset, with_rules, free_path, path_of_braces, Opened, with_braces, with_rulesets}
use Rattle.pf_sources.specs.Sources.{of_tokens, with_file_entries, with_filled_entries, with_source, before_sources, gathered}
use Rattle.pf_conf.specs.Filling.{Defined, with_filled, is_defined, with_table_path, with_table, with_sources, with_definition, with_tables}
use Rattle.pf_values.specs.declared.interfaces.interface.Interface.{Interface}
use Rattle.pf_conf.specs.Lines.{parsed_with}
use Rattle.pf_conf.specs.Telling.{telling, telling_at, telling_with, unread_at}
use Rattle.pf_conf.specs.Resolving.{is_main, room_for, free_for, with_notes, with_loads, with_tree, no_flat, flat_of, after_flat, main_file, with_flat, with_file, with_load, with_waiting, load_numbered, loads_from}
use Rattle.pf_conf.proofs.Kept.{both, each_keeps, if_not, if_room, if_free, telling_so}
use Rattle.pf_load.specs.Files.Types.{Found, Mention, Waiting}
use Rattle.pf_load.specs.Files.Loads.{IsOfMain}
use Rattle.pf_load.proofs.Readings.{Within, file_counts, file_within}

abbrev FoundWithin : ℕ → Found → Type 0
FoundWithin low s = Within low s.files_read

-- ---- rulesets read no file

rules_within : (low : ℕ) (path : Word) (number : ℕ) (tree : Tree) (s t : Found) → FoundWithin low s → with_rules path number tree s ≡ Ok t → FoundWithin low t
unfolding with_rules
rules_within low path number tree s t known from =
    let b = both (rules_in number tree) (λ (rules : List PlacedRule). Ok (with_ruleset path s rules)) t from in
    let same : with_ruleset path s b.0 ≡ t = cc in
    subst (FoundWithin low) same known

braces_within : (low : ℕ) (tree : Tree) (b : Braces) (x y : Opened) → FoundWithin low x.1 → with_braces tree b x ≡ Ok y → FoundWithin low y.1
unfolding with_braces
braces_within low tree b x y known from =
    let first = both (free_path b.place (path_of_braces x.0 b) x.1) (λ (path : Word). with_rules path (length x.0) tree x.1 >>= λ s. Ok (x.0 ++ path ∷ [], s)) y from in
    let next = both (with_rules first.0 (length x.0) tree x.1) (λ (s : Found). Ok (x.0 ++ first.0 ∷ [], s)) y first.2 in
    let same : (x.0 ++ first.0 ∷ [], next.0) ≡ y = cc in
    subst (λ (z : Opened). FoundWithin low z.1) same (rules_within low first.0 (length x.0) tree x.1 next.0 known next.1)

rulesets_within : (low : ℕ) (path : Word) (tree : Tree) (s t : Found) → FoundWithin low s → with_rulesets path tree s ≡ Ok t → FoundWithin low t
unfolding with_rulesets
rulesets_within low path tree s t known from =
    let first = both (with_rules path 0 tree s) (λ (u : Found). each (with_braces tree) tree.braces (path ∷ [], u) >>= λ x. Ok x.1) t from in
    let next = both (each (with_braces tree) tree.braces (path ∷ [], first.0)) (λ (x : Opened). Ok x.1) t first.2 in
    let all = each_keeps (λ (x : Opened). FoundWithin low x.1) (with_braces tree) (braces_within low tree) tree.braces (path ∷ [], first.0) next.0 (rules_within low path 0 tree s first.0 known first.1) next.1 in
    let same : next.0.1 ≡ t = cc in
    subst (FoundWithin low) same all

-- ---- tables may read files

of_tokens_ok : {A : Type 0} (r : Result A TokenStop) (x : A) → of_tokens r ≡ Ok x → r ≡ Ok x
of_tokens_ok (Ok y) x is = let same : y ≡ x = cc in ap (λ z. Ok z) same
of_tokens_ok (Err e) x is = absurd (cc)

abbrev GatheredWithin : ℕ → Gathered → Type 0
GatheredWithin low g = Within low g.files_read

file_entries_within : (low : ℕ) (files : List File) (t : Token) (g h : Gathered) → GatheredWithin low g → with_file_entries files t g ≡ Ok h → GatheredWithin low h
unfolding with_file_entries
file_entries_within low files t g h known from =
    let text : Result (ℕ × List ℕ) TokenStop = text_of_file files g.files_read t.place (text_of t.text) in
    let a = both (of_tokens text) (λ (found : ℕ × List ℕ). onto g.entries (file_entries found.0 found.1) >>= λ es. Ok (record { files_read = g.files_read + 1; entries = es })) h from in
    let found : ℕ × List ℕ = a.0 in
    let b = both (onto g.entries (file_entries found.0 found.1)) (λ (es : List Entry). Ok (record { files_read = g.files_read + 1; entries = es })) h a.2 in
    let room : g.files_read < READING_LIMIT = file_counts files g.files_read t.place (text_of t.text) found (of_tokens_ok text found a.1) in
    let same : record { files_read = g.files_read + 1; entries = b.0 } ≡ h = cc in
    subst (GatheredWithin low) same (omega (arith, known.0), omega (arith, room))

source_within : (low : ℕ) (files : List File) (named : Place) (source : Entries) (g h : Gathered) → GatheredWithin low g → with_source files named source g ≡ Ok h → GatheredWithin low h
unfolding with_source
source_within low files named (Listed es) g h known from = let same : record g { entries = g.entries ++ es } ≡ h = cc in subst (GatheredWithin low) same known
source_within low files named (FromFile t) g h known from =
    let b = both (filled named g.entries) (λ (es : List PlainEntry). with_file_entries files t (with_filled_entries named g es)) h from in
    file_entries_within low files t (with_filled_entries named g b.0) h known b.2

table_within : (low : ℕ) (files : List File) (path : Word) (table : Table) (s t : Found) → FoundWithin low s → with_table files path table s ≡ Ok t → FoundWithin low t
unfolding with_table
table_within low files path table s t known from =
    let a = both (gathered files table.place table.sources s.files_read) (λ (g : Gathered). filled table.place g.entries >>= λ es. with_table_path path table.place s >>= λ u. Ok (with_filled path table.name es g.files_read u)) t from in
    let g : Gathered = a.0 in
    let b = both (filled table.place g.entries) (λ (es : List PlainEntry). with_table_path path table.place s >>= λ u. Ok (with_filled path table.name es g.files_read u)) t a.2 in
    let e = both (with_table_path path table.place s) (λ (u : Found). Ok (with_filled path table.name b.0 g.files_read u)) t b.2 in
    let all : GatheredWithin low g = each_keeps (GatheredWithin low) (with_source files table.place) (source_within low files table.place) table.sources (before_sources s.files_read) g known a.1 in
    let same : with_filled path table.name b.0 g.files_read e.0 ≡ t = cc in
    subst (FoundWithin low) same all

sources_within : (low : ℕ) (files : List File) (path : Word) (table : Table) (s t : Found) (none : Bool) → FoundWithin low s → (if none then Ok s else with_table files path table s) ≡ Ok t → FoundWithin low t
sources_within low files path table s t true known from = let same : s ≡ t = cc in subst (FoundWithin low) same known
sources_within low files path table s t false known from = table_within low files path table s t known from

definition_within : (low : ℕ) (files : List File) (path : Word) (table : Table) (x y : Defined) → FoundWithin low x.1 → with_definition files path table x ≡ Ok y → FoundWithin low y.1
unfolding with_definition
definition_within low files path table x y known from =
    let b = both (with_sources files path table x.1) (λ (s : Found). Ok (x.0 ++ table ∷ [], s)) y
    (if_not (is_defined table.name x.0) (with_sources files path table x.1 >>= λ s. Ok (x.0 ++ table ∷ [], s)) (fault_at table.place (mistakes.TableTwice table.name)) y from) in
    let same : (x.0 ++ table ∷ [], b.0) ≡ y = cc in
    subst (λ (z : Defined). FoundWithin low z.1) same (sources_within low files path table x.1 b.0 (length table.sources == 0) known b.1)

tables_within : (low : ℕ) (files : List File) (path : Word) (ts : List Table) (s t : Found) → FoundWithin low s → with_tables files path ts s ≡ Ok t → FoundWithin low t
unfolding with_tables
tables_within low files path ts s t known from =
    let b = both (each (with_definition files path) ts ([], s)) (λ (x : Defined). Ok x.1) t from in
    let all = each_keeps (λ (x : Defined). FoundWithin low x.1) (with_definition files path) (definition_within low files path) ts ([], s) b.0 known b.1 in
    let same : b.0.1 ≡ t = cc in
    subst (FoundWithin low) same all

-- ---- a file

tree_within : (low : ℕ) (files : List File) (ms : List Macro) (path : Word) (tree : Tree) (s t : Found) → FoundWithin low s → with_tree files ms path tree s ≡ Ok t → FoundWithin low t
unfolding with_tree
tree_within low files ms path tree s t known from =
    let a = both (with_rulesets path tree s >>= with_tables files path tree.tables) (λ (u : Found). Ok (with_loads files ms path tree.loads u)) t from in
    let b = both (with_rulesets path tree s) (with_tables files path tree.tables) a.0 a.1 in
    let all : FoundWithin low a.0 = tables_within low files path tree.tables b.0 a.0 (rulesets_within low path tree s b.0 known b.1) b.2 in
    let same : with_loads files ms path tree.loads a.0 ≡ t = cc in
    subst (FoundWithin low) same all

flat_within : (low : ℕ) (files : List File) (interfaces : List Interface) (mode : Mode) (path : Word) (spot : Spot) (flat : Flat)
    (s t : Found) → FoundWithin low s → with_flat files interfaces mode path spot flat s ≡ Ok t → FoundWithin low t
unfolding with_flat
flat_within low files interfaces mode path spot flat s t known from =
    let a = both (telling files flat.macros (parsed_with interfaces flat.tokens mode (is_main path)))
    (λ (p : Parsed). room_for spot (with_notes files flat.macros p.notes s)
    >>= λ u. telling files flat.macros (with_tree files flat.macros path p.tree u)) t from in
    let p : Parsed = a.0 in
    let noted : Found = with_notes files flat.macros p.notes s in
    let b = both (room_for spot noted) (λ (u : Found). telling files flat.macros (with_tree files flat.macros path p.tree u)) t a.2 in
    let same : noted ≡ b.0 = if_room spot noted b.0 (is_full noted) b.1 in
    tree_within low files flat.macros path p.tree b.0 t (subst (FoundWithin low) same known) (telling_so files flat.macros (with_tree files flat.macros path p.tree b.0) t b.2)

telling_at_ok : {A : Type 0} (spot : Spot) (r : Result A TokenStop) (x : A) → telling_at spot r ≡ Ok x → r ≡ Ok x
telling_at_ok spot (Ok y) x is = let same : y ≡ x = cc in ap (λ z. Ok z) same
telling_at_ok spot (Err (token_stops.Faulty f)) x is = absurd (cc)
telling_at_ok spot (Err (token_stops.Needs name)) x is = absurd (cc)
telling_at_ok spot (Err token_stops.Memory) x is = absurd (cc)

telling_with_ok : {A : Type 0} (files : List File) (r : Result A (TokenStop × List Macro)) (x : A) → telling_with files r ≡ Ok x → r ≡ Ok x
telling_with_ok files (Ok y) x is = let same : y ≡ x = cc in ap (λ z. Ok z) same
telling_with_ok files (Err (e, ms)) x is = absurd (cc)

flat_of_within : (files : List File) (m : Mention) (read : ℕ) (flat : Flat) → flat_of files m read ≡ Ok flat → Within (read + 1) flat.files_read
unfolding flat_of
flat_of_within files m read flat from =
    let text : Result (ℕ × List ℕ) TokenStop = text_of_file files read (start_of 0) m.name in
    let a = both (telling_at m.named text) (λ (found : ℕ × List ℕ). telling_with files (read_file files INCLUDE_LIMIT found.0 found.1 (no_flat read))) flat from in
    let found : ℕ × List ℕ = a.0 in
    let room : read < READING_LIMIT = file_counts files read (start_of 0) m.name found (telling_at_ok m.named text found a.1) in
    let one : Within (read + 1) (read + 1) = (omega arith, omega (arith, room)) in
    file_within (read + 1) files INCLUDE_LIMIT found.0 found.1 (no_flat read) flat one (telling_with_ok files (read_file files INCLUDE_LIMIT found.0 found.1 (no_flat read)) flat a.2)

pub one_more_read : (files : List File) (interfaces : List Interface) (mode : Mode) (path : Word) (m : Mention) (s t : Found)
    → with_file files interfaces mode path m s ≡ Ok t → FoundWithin (s.files_read + 1) t
unfolding with_file
one_more_read files interfaces mode path m s t from =
    let a = both (free_for path m.at s) (λ (u : Found). flat_of files m u.files_read
    >>= λ flat. with_flat files interfaces mode path m.at flat (after_flat flat u)) t from in
    let u : Found = a.0 in
    let b = both (flat_of files m u.files_read)
    (λ (flat : Flat). with_flat files interfaces mode path m.at flat (after_flat flat u)) t a.2 in
    let same : s ≡ u = if_free s u (has_rules path s) (unread_at m.at (mistakes.RulesTwice (path_text path))) a.1 in
    let more : FoundWithin (u.files_read + 1) t = flat_within (u.files_read + 1) files interfaces mode path m.at b.0 (after_flat b.0 u) t
    (flat_of_within files m u.files_read b.0 b.1) b.2 in
    subst (λ (v : Found). FoundWithin (v.files_read + 1) t) (sym same) more

-- ---- loads

-- past the last load nothing is done
idle : (files : List File) (interfaces : List Interface) (mode : Mode) (n more : ℕ) (s : Found) → length s.waiting ≤ n
    → loads_from files interfaces mode n more s ≡ Ok s
unfolding loads_from
idle files interfaces mode n zero s past = refl
idle files interfaces mode n (suc more) s past =
    ap (λ (w : Option Waiting). with_waiting files interfaces mode w s >>= λ t. loads_from files interfaces mode (n + 1) more t)
    (slice_get_past s.waiting n past) ∙ idle files interfaces mode (n + 1) more s (omega (arith, past))

some_there : (ws : List Waiting) (n : ℕ) → n < length ws → slice_get ws n ≡ None → ⊥
some_there [] n within none = omega (arith, within)
some_there (w ∷ ws) zero within none = cc
some_there (w ∷ ws) (suc n) within none = some_there ws n (omega (arith, within)) none

load_reads : (files : List File) (interfaces : List Interface) (mode : Mode) (m : Mention) (path : Option Word) (s t : Found)
    → with_load files interfaces mode m path s ≡ Ok t → FoundWithin (s.files_read + 1) t
load_reads files interfaces mode m None s t from = absurd (cc)
load_reads files interfaces mode m (Some path) s t from = one_more_read files interfaces mode path m s t from

waiting_reads : (files : List File) (interfaces : List Interface) (mode : Mode) (n : ℕ) (s t : Found) (w : Option Waiting)
    → n < length s.waiting → slice_get s.waiting n ≡ w → with_waiting files interfaces mode w s ≡ Ok t → FoundWithin (s.files_read + 1) t
waiting_reads files interfaces mode n s t None within is from = absurd (some_there s.waiting n within is)
waiting_reads files interfaces mode n s t (Some w) within is from = load_reads files interfaces mode w.mention w.path s t from

-- So far as many files were read as loads, and the main file.
record InTurn (n : ℕ) (s : Found) : Type 0 where
  read : n < s.files_read
  room : s.files_read ≤ READING_LIMIT

next_turn : (files : List File) (interfaces : List Interface) (mode : Mode) (n : ℕ) (s t : Found) → InTurn n s → n < length s.waiting
    → load_numbered files interfaces mode n s ≡ Ok t → InTurn (n + 1) t
next_turn files interfaces mode n s t turn within from =
    let more : FoundWithin (s.files_read + 1) t = waiting_reads files interfaces mode n s t (slice_get s.waiting n) within refl from in
    record { read = omega (arith, more.0, turn.read); room = more.1 }

same_after : (r : Result Found Unread) (f g : Found → Result Found Unread) → ((t : Found) → r ≡ Ok t → f t ≡ g t) → (r >>= f) ≡ (r >>= g)
same_after (Ok t) f g same = same t refl
same_after (Err e) f g same = refl

more_turns : (files : List File) (interfaces : List Interface) (mode : Mode) (n k extra : ℕ) (s : Found) → InTurn n s
    → READING_LIMIT ≤ n + k → loads_from files interfaces mode n (k + extra) s ≡ loads_from files interfaces mode n k s
unfolding loads_from
more_turns files interfaces mode n zero extra s turn enough = absurd (omega (arith, turn.read, turn.room, enough))
more_turns files interfaces mode n (suc k) extra s turn enough =
    let longer : suc k + extra ≡ suc (k + extra) = omega arith in
    ap (λ (m : ℕ). loads_from files interfaces mode n m s) longer
    ∙ elim (cases_lt n (length s.waiting)) [
      | inl within ↦ same_after (load_numbered files interfaces mode n s)
          (λ (t : Found). loads_from files interfaces mode (n + 1) (k + extra) t)
          (λ (t : Found). loads_from files interfaces mode (n + 1) k t)
          (λ t from. more_turns files interfaces mode (n + 1) k extra t (next_turn files interfaces mode n s t turn within from)
          (omega (arith, enough)))
      | inr past ↦ idle files interfaces mode n (suc (k + extra)) s past ∙ sym (idle files interfaces mode n (suc k) s past)
    ]

none_waits : (files : List File) (interfaces : List Interface) (mode : Mode) (n k : ℕ) (s t : Found) → InTurn n s → READING_LIMIT ≤ n + k
    → loads_from files interfaces mode n k s ≡ Ok t → length t.waiting < READING_LIMIT
unfolding loads_from
none_waits files interfaces mode n zero s t turn enough from = absurd (omega (arith, turn.read, turn.room, enough))
none_waits files interfaces mode n (suc k) s t turn enough from =
    elim (cases_lt n (length s.waiting)) [
      | inl within ↦
          let b = both (load_numbered files interfaces mode n s) (λ (u : Found). loads_from files interfaces mode (n + 1) k u) t from in
          none_waits files interfaces mode (n + 1) k b.0 t (next_turn files interfaces mode n s b.0 turn within b.1)
          (omega (arith, enough)) b.2
      | inr past ↦
          let done : Ok s ≡ Ok t = sym (idle files interfaces mode n (suc k) s past) ∙ from in
          let same : s ≡ t = cc in
          subst (λ (u : Found). length u.waiting < READING_LIMIT) same (omega (arith, past, turn.read, turn.room))
    ]

first_turn : (files : List File) (interfaces : List Interface) (mode : Mode) (base name : Word) (s : Found)
    → IsOfMain files interfaces mode base name s → InTurn 0 s
first_turn files interfaces mode base name s from =
    let more : Within (0 + 1) s.files_read = one_more_read files interfaces mode base (main_file name) nothing_found s from in
    record { read = omega (arith, more.0); room = more.1 }

pub more_loads : (files : List File) (interfaces : List Interface) (mode : Mode) (base name : Word) (s : Found) (more : ℕ)
    → IsOfMain files interfaces mode base name s → READING_LIMIT ≤ more
    → loads_from files interfaces mode 0 more s ≡ loads_from files interfaces mode 0 READING_LIMIT s
more_loads files interfaces mode base name s more from enough =
    let split : more ≡ READING_LIMIT + (more - READING_LIMIT) = omega (arith, enough) in
    ap (λ (m : ℕ). loads_from files interfaces mode 0 m s) split
    ∙ more_turns files interfaces mode 0 READING_LIMIT (more - READING_LIMIT) s (first_turn files interfaces mode base name s from)
    (omega arith)

pub no_load_waits : (files : List File) (interfaces : List Interface) (mode : Mode) (base name : Word) (s t : Found)
    → IsOfMain files interfaces mode base name s → loads_from files interfaces mode 0 READING_LIMIT s ≡ Ok t
    → length t.waiting < READING_LIMIT
no_load_waits files interfaces mode base name s t from loaded = none_waits files interfaces mode 0 READING_LIMIT s t
    (first_turn files interfaces mode base name s from) (omega arith) loaded
