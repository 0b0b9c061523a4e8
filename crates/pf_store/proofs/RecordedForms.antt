-- Data determine what is recorded, and bytes determine the data.
use Rattle.std.proofs.{Common.{◌≡◌, ◌<◌, ◌^◌, ◌==◌, ◌&&◌, ◌+◌, ◌++◌, not, ℕ, Bool, true, false, List, [], ◌∷◌, length, map, take, get_or, refl, sym, ap, ◌∙◌, subst, inl, inr, arith}, lemmas.{List.{length-map, take_more, map-append}, Bool.Decides.nat_tests}}
use Rattle.std.specs.{Prelude.nat_le, List.{list_all, AllByRecursion}}
use Rattle.pf_form.specs.{Bytes.{BasicForms.number_bytes, Forms.{list, Value, ByteForm, Fits, Spells, number, or, counted, onto}}, Laws.Bytes.{Onto.onto_is, Texts.one_value}}
use Rattle.pf_state.specs.{declared.step.StateStep.StateStep, Layouts.{States.{has_expiry, name_form}, Steps.{plain_step, step_form, step_in}}}
use Rattle.pf_state.proofs.LayoutsBack.{step_back}
use Rattle.pf_table.specs.{Entries.PlainEntry, EntryForms.{entry_of}, Laws.EntryForms.entry_again}
use Rattle.pf_ticket.specs.NamedTables.{PlainDefinedTable}
use Rattle.pf_core.specs.Durable.Changes.{PlainChange, expires}
use Rattle.pf_core.specs.declared.group.TheConstants.{GROUP_LIMIT}
use Rattle.pf_store.specs.declared.encoding.recorded.Recorded.{Recorded, TheVariants.Made as made, TheVariants.Opens as opens}
use Rattle.pf_anchor.specs.Forms.{plain_entries, entries_in, plain_named, named_in}
use Rattle.pf_store.specs.Groups.{ChangeShape, ItemShape, change_form, edit_form, expire_form, items_form, item_form, tables_form, defined_form, group_form, item_in, plain_record, record_in, is_commit, is_group, made_all, has_item_form, has_form, have_form, IsRecorded}

pub entries_read_back : (es : List PlainEntry) → entries_in (plain_entries es) ≡ es
entries_read_back [] = refl
entries_read_back (e ∷ es) = λ i. entry_again e i ∷ entries_read_back es i

pub tables_read_back : (ts : List PlainDefinedTable) → map named_in (map plain_named ts) ≡ ts
tables_read_back [] = refl
tables_read_back (t ∷ ts) = λ i. (t.0, entries_read_back t.1 i) ∷ tables_read_back ts i

pub steps_read_back : (xs : List StateStep) → map step_in (map plain_step xs) ≡ xs
steps_read_back [] = refl
steps_read_back (x ∷ xs) = λ i. step_back x i ∷ steps_read_back xs i

-- one more of a list that is the same there and back
pub again_taken : {A B : Type 0} (f : A → B) (g : B → A) (xs : List A) (i : ℕ) (x : A) → i < length xs → x ≡ get_or xs i x
    → map g (map f (take i xs)) ≡ take i xs → g (f x) ≡ x → map g (map f (take (i + 1) xs)) ≡ take (i + 1) xs
again_taken {A} f g xs i x within here before one =
    let more : take (i + 1) xs ≡ take i xs ++ x ∷ [] = take_more xs i x within ∙ ap (λ (y : A). take i xs ++ y ∷ []) (sym here) in
    rw more (ap (λ ys. map g ys) (map-append f (take i xs) (x ∷ [])) ∙ map-append g (map f (take i xs)) (f x ∷ []) ∙ rw (before, one) refl)

-- ---- a tick in bytes

-- the form of changes, by whether there are ticks
abbrev formed_by : ℕ → Bool → ByteForm ChangeShape
formed_by version has =
    or 1 (items_form version) (or 2 edit_form (or 3 edit_form (or 4 edit_form
    (or 5 (counted 4 (step_form version)) (or 6 name_form (or 7 (number 4) (expire_form has)))))))

fits_by : (version tick : ℕ) (has : Bool) → has ≡ true → tick < 2 ^ 64 → Fits (formed_by version has) (plain_record (made (expires tick)))
unfolding expire_form
fits_by version tick true is short = (((((((omega (arith, short), refl), refl), refl), refl), refl), refl), refl)
fits_by version tick false is short = absurd (cc (is))

pub tick_fits : (version tick : ℕ) → has_expiry version ≡ true → tick < 2 ^ 64 → Fits (change_form version) (plain_record (made (expires tick)))
unfolding change_form
tick_fits version tick is short = fits_by version tick (has_expiry version) is short

written_by : (version tick : ℕ) (out : List ℕ) (has : Bool) → has ≡ true → onto (formed_by version has) (plain_record (made (expires tick))) out ≡ (out ++ 8 ∷ []) ++ number_bytes 8 tick
unfolding expire_form
written_by version tick out true is = refl
written_by version tick out false is = absurd (cc (is))

pub tick_written : (version tick : ℕ) (out : List ℕ) → has_expiry version ≡ true
    → onto (change_form version) (plain_record (made (expires tick))) out ≡ (out ++ 8 ∷ []) ++ number_bytes 8 tick
unfolding change_form
tick_written version tick out is = written_by version tick out (has_expiry version) is

-- ---- which changes have bytes

item_has_form : (version : ℕ) (v : Value ItemShape) → Fits (item_form version) v → has_item_form (item_in v) ≡ true
unfolding item_form tables_form defined_form
item_has_form version (inl v) fits = refl
item_has_form version (inr v) fits = rw (length-map v.1 named_in) fits.0.1.1

items_have_form : (version : ℕ) (vs : List (Value ItemShape)) → AllByRecursion (Fits (item_form version)) vs → list_all has_item_form (map item_in vs) ≡ true
items_have_form version [] each = refl
items_have_form version (v ∷ vs) each = rw (item_has_form version v each.0) (items_have_form version vs each.1)

-- what data say has bytes if the data fit
pub formed_of : (version : ℕ) (v : Value ChangeShape) → Fits (change_form version) v → has_form (record_in v) ≡ true
unfolding change_form edit_form items_form
formed_of version (inl vs) fits =
    let same : length (map item_in vs) ≡ length vs = length-map vs item_in in
    let many : is_commit (map item_in vs) ≡ true = rw same fits.1 in
    rw many (items_have_form version vs fits.0.1)
formed_of version (inr (inl v)) fits = grind (arith, nat_tests, length-map v.1.1 entry_of, fits.0.1.1.0)
formed_of version (inr (inr (inl v))) fits = grind (arith, nat_tests, length-map v.1.1 entry_of, fits.0.0.1.1.0)
formed_of version (inr (inr (inr (inl v)))) fits = grind (arith, nat_tests, length-map v.1.1 entry_of, fits.0.0.0.1.1.0)
formed_of version (inr (inr (inr (inr (inl steps))))) fits = grind (arith, nat_tests, length-map steps step_in, fits.0.0.0.0.0)
formed_of version (inr (inr (inr (inr (inr (inl name)))))) fits = refl
formed_of version (inr (inr (inr (inr (inr (inr (inl epoch))))))) fits = grind (arith, nat_tests, fits.0.0.0.0.0.0)
formed_of version (inr (inr (inr (inr (inr (inr (inr tick))))))) fits = refl

-- if data determine what is recorded, and fit, it has bytes
pub formed : (version : ℕ) (r : Recorded) → record_in (plain_record r) ≡ r → Fits (change_form version) (plain_record r) → has_form r ≡ true
formed version r read_back fits = subst (λ x. has_form x ≡ true) read_back (formed_of version (plain_record r) fits)

-- ---- groups

each_formed : (version : ℕ) (vs : List (Value ChangeShape)) → AllByRecursion (Fits (change_form version)) vs → list_all has_form (map record_in vs) ≡ true
each_formed version [] each = refl
each_formed version (v ∷ vs) each = rw (formed_of version v each.0) (each_formed version vs each.1)

-- if data determine what a group records, and fit, it has bytes
pub group_formed : (version : ℕ) (rs : List Recorded) → map record_in (map plain_record rs) ≡ rs → Fits (group_form version) (map plain_record rs) → have_form rs ≡ true
unfolding group_form
group_formed version rs read_back fits =
    let many : is_group rs ≡ true = subst (λ n. (not (n == 0) && nat_le n GROUP_LIMIT) ≡ true) (length-map rs plain_record) fits.1 in
    let each : list_all has_form rs ≡ true = subst (λ xs. list_all has_form xs ≡ true) read_back (each_formed version (map plain_record rs) fits.0.1) in
    rw (many) each

-- what was read from bytes has bytes
pub recorded_formed : (version : ℕ) (rs : List Recorded) (payload : List ℕ) → IsRecorded version rs payload → have_form rs ≡ true
recorded_formed version rs payload is = group_formed version rs (sym is.read_back) is.spelled.fits

-- changes, each in the form in which it was handed in
pub as_made : {C : Type 0} (as_plain : C → PlainChange) (cs : List C) → map (λ c. plain_record (made (as_plain c))) cs ≡ map plain_record (made_all (map as_plain cs))
as_made as_plain [] = refl
as_made as_plain (c ∷ cs) = ap (λ l. plain_record (made (as_plain c)) ∷ l) (as_made as_plain cs)

all_made : {C : Type 0} (as_plain : C → PlainChange) (cs : List C) → list_all (λ c. has_form (made (as_plain c))) cs ≡ list_all has_form (made_all (map as_plain cs))
all_made as_plain [] = refl
all_made as_plain (c ∷ cs) = ap (λ b. has_form (made (as_plain c)) && b) (all_made as_plain cs)

-- as many as were handed in
as_many : {C : Type 0} (as_plain : C → PlainChange) (cs : List C) → is_group (made_all (map as_plain cs)) ≡ is_group cs
as_many as_plain cs = ap (λ n. not (n == 0) && nat_le n GROUP_LIMIT) (length-map (map as_plain cs) made ∙ length-map cs as_plain)

pub formed_as : {C : Type 0} (as_plain : C → PlainChange) (cs : List C) → (is_group cs && list_all (λ c. has_form (made (as_plain c))) cs) ≡ have_form (made_all (map as_plain cs))
formed_as as_plain cs = rw (as_many as_plain cs, all_made as_plain cs) refl

-- ---- its bytes

pub spelled : (version : ℕ) (rs : List Recorded) (bytes : List ℕ) → map record_in (map plain_record rs) ≡ rs → Spells (group_form version) (map plain_record rs) bytes
    → IsRecorded version rs bytes
spelled version rs bytes read_back is = record { spelled = is; read_back = sym read_back }

pub group_pushed : (version : ℕ) (rs : List Recorded) (out : List ℕ) → Fits (group_form version) (map plain_record rs)
    → out ≡ onto (group_form version) (map plain_record rs) [] → Spells (group_form version) (map plain_record rs) out
group_pushed version rs out fits is = record { fits = fits; written = is ∙ onto_is (group_form version) (map plain_record rs) [] }

-- those of an opening
pub opening_spelled : (version epoch : ℕ) (out : List ℕ) → epoch < 256 ^ 4 → out ≡ onto (number 4) epoch (1 ∷ 7 ∷ [])
    → Spells (group_form version) (map plain_record (opens epoch ∷ [])) out
unfolding group_form change_form number_bytes
opening_spelled version epoch out lt is =
    group_pushed version (opens epoch ∷ []) out ((omega arith, (((((((lt, refl), refl), refl), refl), refl), refl), tt)), refl) is

pub opening_pushed : (version epoch : ℕ) (out : List ℕ) → epoch < 256 ^ 4 → out ≡ onto (number 4) epoch (1 ∷ 7 ∷ []) → IsRecorded version (opens epoch ∷ []) out
opening_pushed version epoch out lt is = spelled version (opens epoch ∷ []) out refl (opening_spelled version epoch out lt is)

-- bytes are those of at most one group
pub one_group : (version : ℕ) (rs ss : List Recorded) (bytes : List ℕ) → IsRecorded version rs bytes → IsRecorded version ss bytes → rs ≡ ss
one_group version rs ss bytes a b =
    a.read_back ∙ ap (map record_in) (one_value (group_form version) bytes (map plain_record rs) (map plain_record ss) a.spelled b.spelled) ∙ sym b.read_back
