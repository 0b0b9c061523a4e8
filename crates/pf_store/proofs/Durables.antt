-- What is kept: what its types guarantee fits its form, its data determine it, and so do its bytes.
use Rattle.std.proofs.{Common.{◌+◌, ◌++◌, ◌*◌, ◌^◌, ◌≡◌, ◌≢◌, ◌≤◌, ◌==◌, ◌&&◌, not, ℕ, Bool, true, false, T, List, [], ◌∷◌, length, map, cond, Some, None, Ok, Err, refl, sym, ap, ◌∙◌, true≢false, arith}, lemmas.{List.length-map, Bool.{and_parts, Decides.nat_tests}, Cmp.{alike_right, tied_itself, nat_list_cmp_total}}}
use Rattle.std.specs.{Prelude.{nat_le, replicate, if◌then◌else◌}, declared.{cmp.Ordering.Ordering, cmp.Ordering.TheVariants.Less, cmp.Ordering.TheVariants.Equal, cmp.Ordering.TheVariants.Greater}, Cmp.IsTotalOrder, FinMap.{find, is_sorted}, FinMap.Entries.below_all, List.{list_all, AllByRecursion}, Ordering.{is_eq, is_lt, ordering_reverse}}
use Rattle.pf_addr.specs.Path.Paths.{path_order}
use Rattle.pf_form.specs.{Bytes.{BasicForms.number_bytes, Forms.{Shape, Value, ByteForm, number, pair, back, that, Fits, Spells, reads, writes, onto}, Lists.{in_order, ordered}}, Laws.Bytes.{Onto.onto_is, Texts.one_value}}
use Rattle.pf_addr.specs.{NetForms.family, Path.PathForms.{path_form, table_name_form}}
use Rattle.pf_form.specs.{Bytes.Codes.below, declared.bytes.fault.Fault.TheVariants.Bad}
use Rattle.pf_anchor.specs.{declared.limits.TheConstants.{RULESET_LIMIT, TABLE_COUNT_LIMIT}, Rulesets.{PlainPlaced, IsMap}, Tables.{PlainPlacedTable, table_order, IsTableMap}}
use Rattle.pf_anchor.proofs.TableMaps.{table_order_total}
use Rattle.pf_core.specs.Durable.Changes.{PlainDurable, kept_nothing}
use Rattle.pf_rule.specs.Sum.{Layouts.plain_rule}
use Rattle.pf_state.specs.{Layouts.States.{StateShape, has_expiry, states_form, plain_states, state_in}, States.{PlainState, stands, all_stand}}
use Rattle.pf_state.proofs.LayoutsBack.{states_back}
use Rattle.pf_table.specs.EntryForms.{entry, plain_entry}
use Rattle.pf_map.proofs.Tests.{first_of, second_of, less_of}
use Rattle.pf_store.proofs.InOrder.{in_order_of, sorted_of}
use Rattle.pf_store.specs.declared.snapshots.{rulesets.StoredRuleset.StoredRuleset, tables.StoredPlaced.StoredPlaced}
use Rattle.pf_anchor.specs.Forms.{at_most, RulesShape, rules_form, named_form, entries_form, has_some, ruleset_before, are_rulesets, rulesets_form, plain_ruled, PlacedShape, placed_before, are_tables, placed_form, kept_tables_form, plain_tabled, ruled_in, tabled_in, configured}
use Rattle.pf_core.specs.Durable.Forms.{DurableShape, tick_form, none_is_due, durable_form, plain_durable, durable_in}
use Rattle.pf_store.specs.{Durables.{durable_has_form, IsDurable, example_kept, example_rest, example_bytes}, Snapshots.{kept_form, zeros_of, empty_form, EndsInSnapshot, KeptShape}}
use Rattle.pf_store.proofs.RecordedForms.{entries_read_back}

-- ---- lists

pub few : {A B : Type 0} (limit : ℕ) (xs : List A) (f : A → B) → at_most limit (map f xs) ≡ at_most limit xs
few limit xs f = ap (λ n. nat_le n limit) (length-map xs f)

at_most_is : {A : Type 0} (limit : ℕ) (xs : List A) → length xs ≤ limit → at_most limit xs ≡ true
at_most_is limit xs le = grind (arith, nat_tests, le)

some_is : {X : Type 0} (x : X) (xs : List X) → has_some (x ∷ xs) ≡ true
some_is x xs = let filled : (length (x ∷ xs) == 0) ≡ false = grind (arith, nat_tests) in ap not filled

pub some_mapped : {A B : Type 0} (f : A → B) (xs : List A) → has_some (map f xs) ≡ has_some xs
some_mapped f xs = ap (λ n. not (n == 0)) (length-map xs f)

-- items are in order exactly if what they are seen as is
pub seen_in_order : {A B : Type 0} (before : B → B → Bool) (view : A → B) (xs : List A)
    → in_order before (map view xs) ≡ in_order (λ x y. before (view x) (view y)) xs
seen_in_order before view [] = refl
seen_in_order before view (x ∷ []) = refl
seen_in_order before view (x ∷ y ∷ xs) = ap (λ b. before (view x) (view y) && b) (seen_in_order before view (y ∷ xs))

that_read : {a : Shape} (test : Value a → Bool) (f : ByteForm a) (before rest : List ℕ) (x : Value a) → reads f before ≡ Ok (x, rest)
    → test x ≡ true → reads (that test f) before ≡ Ok (x, rest)
that_read test f before rest x read is = rw (read, is) refl

that_refused : {a : Shape} (test : Value a → Bool) (f : ByteForm a) (before rest : List ℕ) (x : Value a) → reads f before ≡ Ok (x, rest)
    → test x ≡ false → reads (that test f) before ≡ Err (Bad (length before))
that_refused test f before rest x read is = rw (read, is) refl

pair_read : {a b : Shape} (f : ByteForm a) (g : ByteForm b) (before between rest : List ℕ) (x : Value a) (y : Value b) → reads f before ≡ Ok (x, between)
    → reads g between ≡ Ok (y, rest) → reads (pair f g) before ≡ Ok ((x, y), rest)
pair_read f g before between rest x y first second = rw (first, second) refl

seen_again : {A B C : Type 0} (f : A → B) (g : B → C) (xs : List A) → map (λ x. g (f x)) xs ≡ map g (map f xs)
seen_again f g [] = refl
seen_again f g (x ∷ xs) = ap (λ ys. g (f x) ∷ ys) (seen_again f g xs)

-- ---- maps of lists

module _ {K X : Type 0} {R : K → K → Ordering} (o : IsTotalOrder R) where
  -- what comes after a key isn't found at it
  tied_none : (k x : K) → R k x ≡ Equal → (es : List (K × List X)) → T (below_all R x es) → find R k es ≡ None
  tied_none k x tied [] low = refl
  tied_none k x tied (e ∷ es) low =
      let less : R k e.0 ≡ Less =
      o.antisymm k e.0
      ∙ ap ordering_reverse (alike_right o k x e.0 tied ∙ o.antisymm e.0 x ∙ ap ordering_reverse (less_of _ (first_of _ _ low))) in
      rw less (tied_none k x tied es (second_of (is_lt (R x e.0)) _ low))

  -- a map of lists has no empty one
  all_some : (es : List (K × List X)) → T (is_sorted R es) → ((k : K) → find R k es ≢ Some []) → list_all (λ e. has_some e.1) es ≡ true
  all_some [] is filled = refl
  all_some (e ∷ es) is filled = rw (here e.1 refl) (all_some es (second_of (below_all R e.0 es) _ is) rest) where
    here : (xs : List X) → e.1 ≡ xs → has_some e.1 ≡ true
    here [] none =
        absurd (filled e.0 (ap (λ (r : Ordering). cond (is_eq r) (Some e.1) (find R e.0 es)) (tied_itself o e.0)
        ∙ ap (λ (xs : List X). Some xs) none))
    here (x ∷ xs) some = ap (λ (ys : List X). has_some ys) some ∙ some_is x xs

    rest : (k : K) → find R k es ≢ Some []
    rest k there = filled k (by (R k e.0) refl) where
      by : (r : Ordering) → R k e.0 ≡ r → find R k (e ∷ es) ≡ Some []
      by Less less = rw less there
      by Equal tied = let none = tied_none k e.0 tied es (first_of (below_all R e.0 es) _ is) in absurd (cc (none, there))
      by Greater greater = rw greater there

-- ---- rulesets

rules_kept : (rs : List PlainPlaced) → list_all (λ v. has_some v.1) (map plain_ruled rs) ≡ list_all (λ r. has_some r.1) rs
rules_kept [] = refl
rules_kept (r ∷ rs) = rw (some_mapped plain_rule r.1, rules_kept rs) refl

pub rulesets_fit : (version : ℕ) (rs : List PlainPlaced) → IsMap rs → length rs ≤ RULESET_LIMIT → AllByRecursion (Fits (rules_form version)) (map plain_ruled rs)
    → Fits (rulesets_form version) (map plain_ruled rs)
unfolding rulesets_form
rulesets_fit version rs is le each =
    let some : list_all (λ r. has_some r.1) rs ≡ true = all_some nat_list_cmp_total rs is.sorted is.filled in (
      (
        (omega (arith, le, length-map rs plain_ruled), each),
        seen_in_order ruleset_before plain_ruled rs
            ∙ in_order_of nat_list_cmp_total rs is.sorted,
      ),
      rw (few RULESET_LIMIT rs plain_ruled, at_most_is RULESET_LIMIT rs le, rules_kept rs, some) refl,
    )

-- rows that are read in order
pub rulesets_sorted : (rows : List StoredRuleset) → in_order ruleset_before (map (λ r. plain_ruled r.placed) rows) ≡ true
    → T (is_sorted path_order (map (λ r. r.placed) rows))
rulesets_sorted rows is =
    let plain : StoredRuleset → Value RulesShape = λ r. plain_ruled r.placed in
    let placed : StoredRuleset → PlainPlaced = λ r. r.placed in
    sorted_of nat_list_cmp_total (map placed rows) (seen_in_order (λ a b. is_lt (path_order a.0 b.0)) placed rows
    ∙ sym (seen_in_order ruleset_before plain rows) ∙ is)

pub rulesets_are : (rows : List StoredRuleset)
    → are_rulesets (map (λ r. plain_ruled r.placed) rows) ≡ (nat_le (length rows) RULESET_LIMIT && list_all (λ r. has_some r.placed.1) rows)
rulesets_are rows =
    ap (λ n. nat_le n RULESET_LIMIT && list_all (λ v. has_some v.1) (map plain rows)) (length-map rows plain)
    ∙ ap (λ b. nat_le (length rows) RULESET_LIMIT && b) (filled rows) where
      plain : StoredRuleset → Value RulesShape
      plain r = plain_ruled r.placed

      filled : (rs : List StoredRuleset) → list_all (λ v. has_some v.1) (map plain rs) ≡ list_all (λ r. has_some r.placed.1) rs
      filled [] = refl
      filled (r ∷ rs) = rw (some_mapped plain_rule r.placed.1, filled rs) refl

pub rulesets_filled : (rows : List StoredRuleset)
    → (nat_le (length rows) RULESET_LIMIT && list_all (λ r. has_some r.placed.1) rows) ≡ true
    → list_all (λ r. has_some r.1) (map (λ r. r.placed) rows) ≡ true
rulesets_filled rows is = seen rows ∙ (and_parts (nat_le (length rows) RULESET_LIMIT) (list_all (λ r. has_some r.placed.1) rows) is).1 where
  seen : (rs : List StoredRuleset) → list_all (λ r. has_some r.1) (map (λ r. r.placed) rs) ≡ list_all (λ r. has_some r.placed.1) rs
  seen [] = refl
  seen (r ∷ rs) = rw (seen rs) refl

pub rulesets_read : (version : ℕ) (rows : List StoredRuleset) (before rest : List ℕ)
    → reads (ordered ruleset_before 4 (rules_form version)) before ≡ Ok (map (λ r. plain_ruled r.placed) rows, rest)
    → (nat_le (length rows) RULESET_LIMIT && list_all (λ r. has_some r.placed.1) rows) ≡ true
    → reads (rulesets_form version) before ≡ Ok (map plain_ruled (map (λ r. r.placed) rows), rest)
unfolding rulesets_form
rulesets_read version rows before rest read is =
    let placed : StoredRuleset → PlainPlaced = λ r. r.placed in
    that_read are_rulesets (ordered ruleset_before 4 (rules_form version)) before rest
    (map (λ r. plain_ruled (placed r)) rows) read (rulesets_are rows ∙ is)
    ∙ ap (λ (vs : List (Value RulesShape)). Ok (vs, rest)) (seen_again placed plain_ruled rows)

-- ---- tables

entries_kept : (ts : List PlainPlacedTable) → list_all (λ v. has_some v.1.1) (map plain_tabled ts) ≡ list_all (λ t. has_some t.1) ts
entries_kept [] = refl
entries_kept (t ∷ ts) = rw (some_mapped plain_entry t.1, entries_kept ts) refl

pub tables_fit : (ts : List PlainPlacedTable) → IsTableMap ts → length ts ≤ TABLE_COUNT_LIMIT
    → AllByRecursion (Fits placed_form) (map plain_tabled ts) → Fits kept_tables_form (map plain_tabled ts)
unfolding kept_tables_form
tables_fit ts is le each =
    let some : list_all (λ t. has_some t.1) ts ≡ true = all_some table_order_total ts is.sorted is.filled in (
      (
        (omega (arith, le, length-map ts plain_tabled), each),
        seen_in_order placed_before plain_tabled ts
            ∙ in_order_of table_order_total ts is.sorted,
      ),
      rw (few TABLE_COUNT_LIMIT ts plain_tabled, at_most_is TABLE_COUNT_LIMIT ts le, entries_kept ts, some) refl,
    )

pub tables_sorted : (rows : List StoredPlaced) → in_order placed_before (map (λ r. plain_tabled r.placed) rows) ≡ true
    → T (is_sorted table_order (map (λ r. r.placed) rows))
tables_sorted rows is =
    let plain : StoredPlaced → Value PlacedShape = λ r. plain_tabled r.placed in
    let placed : StoredPlaced → PlainPlacedTable = λ r. r.placed in
    sorted_of table_order_total (map placed rows) (seen_in_order (λ a b. is_lt (table_order a.0 b.0)) placed rows
    ∙ sym (seen_in_order placed_before plain rows) ∙ is)

pub tables_are : (rows : List StoredPlaced)
    → are_tables (map (λ r. plain_tabled r.placed) rows)
    ≡ (nat_le (length rows) TABLE_COUNT_LIMIT && list_all (λ r. has_some r.placed.1) rows)
tables_are rows =
    ap (λ n. nat_le n TABLE_COUNT_LIMIT && list_all (λ v. has_some v.1.1) (map plain rows)) (length-map rows plain)
    ∙ ap (λ b. nat_le (length rows) TABLE_COUNT_LIMIT && b) (filled rows) where
      plain : StoredPlaced → Value PlacedShape
      plain r = plain_tabled r.placed

      filled : (rs : List StoredPlaced) → list_all (λ v. has_some v.1.1) (map plain rs) ≡ list_all (λ r. has_some r.placed.1) rs
      filled [] = refl
      filled (r ∷ rs) = rw (some_mapped plain_entry r.placed.1, filled rs) refl

pub tables_filled : (rows : List StoredPlaced)
    → (nat_le (length rows) TABLE_COUNT_LIMIT && list_all (λ r. has_some r.placed.1) rows) ≡ true
    → list_all (λ t. has_some t.1) (map (λ r. r.placed) rows) ≡ true
tables_filled rows is =
    seen rows ∙ (and_parts (nat_le (length rows) TABLE_COUNT_LIMIT) (list_all (λ r. has_some r.placed.1) rows) is).1 where
      seen : (rs : List StoredPlaced) → list_all (λ t. has_some t.1) (map (λ r. r.placed) rs) ≡ list_all (λ r. has_some r.placed.1) rs
      seen [] = refl
      seen (r ∷ rs) = rw (seen rs) refl

pub tables_read : (rows : List StoredPlaced) (before rest : List ℕ)
    → reads (ordered placed_before 4 placed_form) before ≡ Ok (map (λ r. plain_tabled r.placed) rows, rest)
    → (nat_le (length rows) TABLE_COUNT_LIMIT && list_all (λ r. has_some r.placed.1) rows) ≡ true
    → reads kept_tables_form before ≡ Ok (map plain_tabled (map (λ r. r.placed) rows), rest)
unfolding kept_tables_form
tables_read rows before rest read is =
    let placed : StoredPlaced → PlainPlacedTable = λ r. r.placed in
    that_read are_tables (ordered placed_before 4 placed_form) before rest
    (map (λ r. plain_tabled (placed r)) rows) read (tables_are rows ∙ is)
    ∙ ap (λ (vs : List (Value PlacedShape)). Ok (vs, rest)) (seen_again placed plain_tabled rows)

-- ---- determined by its data

tables_read_back : (ts : List PlainPlacedTable) → map tabled_in (map plain_tabled ts) ≡ ts
tables_read_back [] = refl
tables_read_back (t ∷ ts) = λ i. (t.0, entries_read_back t.1 i) ∷ tables_read_back ts i

pub durable_read_back : (d : PlainDurable) → map ruled_in (map plain_ruled d.config.rulesets) ≡ d.config.rulesets → durable_in (plain_durable d) ≡ d
durable_read_back d rulesets = λ i. record d { config = configured (rulesets i) (tables_read_back d.config.tables i); states = states_back d.states i }

-- ---- what has bytes

pub durable_formed : (version : ℕ) (d : PlainDurable) → Fits (durable_form version) (plain_durable d) → durable_has_form d ≡ true
unfolding durable_form rulesets_form kept_tables_form
durable_formed version d fits =
    let rs : List (Value RulesShape) = map plain_ruled d.config.rulesets in
    let ts : List (Value PlacedShape) = map plain_tabled d.config.tables in
    let rulesets : at_most RULESET_LIMIT rs ≡ true =
    (and_parts (at_most RULESET_LIMIT rs) (list_all (λ r. has_some r.1) rs) fits.0.1.1.0.1).0 in
    let tables : at_most TABLE_COUNT_LIMIT ts ≡ true =
    (and_parts (at_most TABLE_COUNT_LIMIT ts) (list_all (λ t. has_some t.1.1) ts) fits.0.1.1.1.0.1).0 in
    rw (sym (few RULESET_LIMIT d.config.rulesets plain_ruled), rulesets)
    (rw (sym (few TABLE_COUNT_LIMIT d.config.tables plain_tabled), tables) refl)

-- what is within all limits has bytes
pub within_formed : (d : PlainDurable) → length d.config.rulesets ≤ RULESET_LIMIT → length d.config.tables ≤ TABLE_COUNT_LIMIT → durable_has_form d ≡ true
within_formed d rulesets tables = rw (at_most_is RULESET_LIMIT d.config.rulesets rulesets, at_most_is TABLE_COUNT_LIMIT d.config.tables tables) refl

pub durable_formless : (version : ℕ) (d : PlainDurable) (bytes : List ℕ) → durable_has_form d ≡ false → IsDurable version d bytes → ⊥
durable_formless version d bytes none is =
    true≢false (sym (durable_formed version d is.spelled.fits) ∙ none)

-- ---- its bytes

pub durable_spelled : (version : ℕ) (d : PlainDurable) (bytes : List ℕ) → durable_in (plain_durable d) ≡ d → Spells (durable_form version) (plain_durable d) bytes
    → IsDurable version d bytes
durable_spelled version d bytes read_back is = record { spelled = is; read_back = sym read_back }

-- they are appended to others
pub ends_in_snapshot : (version : ℕ) (d : PlainDurable) (before bytes : List ℕ) → durable_in (plain_durable d) ≡ d → Fits (durable_form version) (plain_durable d)
    → bytes ≡ onto (durable_form version) (plain_durable d) before → EndsInSnapshot version d before bytes
ends_in_snapshot version d before bytes read_back fits is = record {
  snapshot = writes (durable_form version) (plain_durable d);
  written = durable_spelled version d (writes (durable_form version) (plain_durable d)) read_back (record { fits = fits; written = refl });
  appended = is ∙ onto_is (durable_form version) (plain_durable d) before;
}

-- bytes are those of at most one thing kept
pub one_durable : (version : ℕ) (d e : PlainDurable) (bytes : List ℕ) → IsDurable version d bytes → IsDurable version e bytes → d ≡ e
one_durable version d e bytes a b = a.read_back ∙ ap durable_in (one_value (durable_form version) bytes (plain_durable d) (plain_durable e) a.spelled b.spelled) ∙ sym b.read_back

-- ---- part by part

-- the form of the parts, by whether there is a tick
abbrev parts : ℕ → Bool → ByteForm DurableShape
parts version has = pair (number 4) (pair (tick_form has) (kept_form version))

parts_read : (version : ℕ) (has : Bool) (b0 b1 b2 rest : List ℕ) (epoch tick : ℕ) (kept : Value KeptShape)
    → reads (number 4) b0 ≡ Ok (epoch, b1) → reads (tick_form has) b1 ≡ Ok (tick, b2) → reads (kept_form version) b2 ≡ Ok (kept, rest)
    → reads (parts version has) b0 ≡ Ok ((epoch, (tick, kept)), rest)
parts_read version has b0 b1 b2 rest epoch tick kept first second third =
    pair_read (number 4) (pair (tick_form has) (kept_form version)) b0 b1 rest epoch (tick, kept) first
    (pair_read (tick_form has) (kept_form version) b1 b2 rest tick kept second third)

-- none of the states is due at a tick exactly if none is as their data say
pub none_due : (tick : ℕ) (es : List PlainState) → list_all (λ s. stands tick (state_in s).1) (plain_states es) ≡ all_stand tick es
none_due tick [] = refl
none_due tick (e ∷ es) = ap (λ (b : Bool). stands tick e.1 && b) (none_due tick es)

-- they are a snapshot if none of the states is due, and otherwise they go wrong at its first byte
module _ (version : ℕ) (b0 b1 b2 rest : List ℕ) (epoch tick : ℕ) (rs : List PlainPlaced) (ts : List PlainPlacedTable) (ss : List PlainState)
    (first : reads (number 4) b0 ≡ Ok (epoch, b1)) (second : reads (tick_form (has_expiry version)) b1 ≡ Ok (tick, b2))
    (third : reads (kept_form version) b2 ≡ Ok ((map plain_ruled rs, (map plain_tabled ts, plain_states ss)), rest)) where
  read : reads (parts version (has_expiry version)) b0 ≡ Ok ((epoch, (tick, (map plain_ruled rs, (map plain_tabled ts, plain_states ss)))), rest)
  read = parts_read version (has_expiry version) b0 b1 b2 rest epoch tick (map plain_ruled rs, (map plain_tabled ts, plain_states ss)) first second third

  pub durable_read : all_stand tick ss ≡ true
      → reads (durable_form version) b0 ≡ Ok (plain_durable (record { epoch = epoch; tick = tick; config = configured rs ts; states = ss }), rest)
  unfolding durable_form
  durable_read standing =
      that_read none_is_due (parts version (has_expiry version)) b0 rest (epoch, (tick, (map plain_ruled rs, (map plain_tabled ts, plain_states ss)))) read (none_due tick ss ∙ standing)

  pub durable_refused : all_stand tick ss ≡ false → reads (durable_form version) b0 ≡ Err (Bad (length b0))
  unfolding durable_form
  durable_refused due =
      that_refused none_is_due (parts version (has_expiry version)) b0 rest (epoch, (tick, (map plain_ruled rs, (map plain_tabled ts, plain_states ss)))) read (none_due tick ss ∙ due)

-- ---- the snapshot of nothing

abbrev nothing_plain : ℕ → Value DurableShape
nothing_plain epoch = (epoch, (0, ([], ([], []))))

-- the form, by whether there is a tick
abbrev formed : ℕ → Bool → ByteForm DurableShape
formed version has = that none_is_due (parts version has)

-- the tick 0 is allowed by all
no_tick : (has : Bool) → Fits (tick_form has) 0
unfolding tick_form
no_tick true = omega arith
no_tick false = refl

nothing_by : (version epoch : ℕ) (has : Bool)
    → writes (formed version has) (nothing_plain epoch) ≡ writes (back (number 4) (replicate (if has then 20 else 12) 0)) epoch
unfolding tick_form rulesets_form kept_tables_form number_bytes
nothing_by version epoch true = refl
nothing_by version epoch false = refl

nothing_written : (version epoch : ℕ) → writes (durable_form version) (nothing_plain epoch) ≡ writes (empty_form version) epoch
unfolding durable_form empty_form
nothing_written version epoch = nothing_by version epoch (has_expiry version)

pub nothing_is_empty : (version epoch : ℕ) (bytes : List ℕ) → IsDurable version (kept_nothing epoch) bytes → Spells (empty_form version) epoch bytes
unfolding durable_form empty_form
nothing_is_empty version epoch bytes is =
    record { fits = is.spelled.fits.0.0; written = is.spelled.written ∙ nothing_written version epoch }

pub empty_is_nothing : (version epoch : ℕ) (bytes : List ℕ) → Spells (empty_form version) epoch bytes → IsDurable version (kept_nothing epoch) bytes
unfolding durable_form rulesets_form kept_tables_form empty_form
empty_is_nothing version epoch bytes is = record {
  spelled = record {
    fits = (
      (
        is.fits,
        (no_tick (has_expiry version), ((((omega arith, tt), refl), refl), ((((omega arith, tt), refl), refl), ((omega arith, tt), refl)))),
      ),
      refl,
    );
    written = is.written ∙ sym (nothing_written version epoch);
  };
  read_back = refl;
}

-- ---- an example

abbrev example_table : Value PlacedShape
example_table = ([], (116 ∷ [], (4, (8, (0, 10 * 2 ^ 24))) ∷ []))

entry_of_example_fits : Fits entry (4, (8, (0, 10 * 2 ^ 24)))
unfolding entry family below
entry_of_example_fits = (((omega arith, refl), (omega arith, ((omega arith, refl), omega arith))), refl)

example_fits : Fits placed_form example_table
unfolding placed_form path_form named_form table_name_form entries_form
example_fits =
    (((omega arith, tt), refl), (((omega arith, (omega arith, tt)), refl), (((omega arith, (entry_of_example_fits, tt)), refl), refl)))

example_by : (version : ℕ) (has : Bool)
    → replicate 4 0 ++ (replicate (if has then 8 else 0) 0 ++ example_rest) ≡ writes (formed version has) (plain_durable example_kept)
unfolding tick_form rulesets_form kept_tables_form placed_form path_form named_form table_name_form entries_form entry family below number_bytes
example_by version true = refl
example_by version false = refl

example_written : (version : ℕ) → example_bytes version ≡ writes (durable_form version) (plain_durable example_kept)
unfolding durable_form
example_written version = example_by version (has_expiry version)

pub example_is : (version : ℕ) → IsDurable version example_kept (example_bytes version)
unfolding durable_form rulesets_form kept_tables_form
example_is version = record {
  spelled = record {
    fits = (
      (
        omega arith,
        (
          no_tick (has_expiry version),
          ((((omega arith, tt), refl), refl), ((((omega arith, (example_fits, tt)), refl), refl), ((omega arith, tt), refl))),
        ),
      ),
      refl,
    );
    written = (example_written version);
  };
  read_back = refl;
}

zeros_by : (version : ℕ) (has : Bool) → replicate (4 + (if has then 20 else 12)) 0 ≡ writes (formed version has) (nothing_plain 0)
unfolding tick_form rulesets_form kept_tables_form number_bytes
zeros_by version true = refl
zeros_by version false = refl

zeros_written : (version : ℕ) → replicate (4 + zeros_of version) 0 ≡ writes (durable_form version) (nothing_plain 0)
unfolding durable_form
zeros_written version = zeros_by version (has_expiry version)

pub zeros_are : (version : ℕ) → IsDurable version (kept_nothing 0) (replicate (4 + zeros_of version) 0)
unfolding durable_form rulesets_form kept_tables_form
zeros_are version = record {
  spelled = record {
    fits = (
      (
        omega arith,
        (no_tick (has_expiry version), ((((omega arith, tt), refl), refl), ((((omega arith, tt), refl), refl), ((omega arith, tt), refl)))),
      ),
      refl,
    );
    written = zeros_written version;
  };
  read_back = refl;
}
