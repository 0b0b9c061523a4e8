-- What a bank's records keep, in bytes, in each version: a group of changes and openings. First their number in one byte, 1 to 64, and
-- then each.
--
--   1 commit: how many rulesets it replaces, in one byte, 1 to 64, and then each:
--       1 and the rules at a path: the path, their number in four bytes, each rule
--       2 and the tables at a path that were defined: the path, their number in four bytes, and of each its name and its entries
--   2 add, 3 delete, 4 set: the path and the name of a table, and the entries as handed in
--   5 steps that act on the states: their number in four bytes, each step
--   6 the removal of a state: its name
--   7 an opening: its epoch in four bytes
--   8 a tick, in eight bytes: in versions that have expiries alone
--
-- Entries come after their number in four bytes. Those of a table that was defined are in its order, no network twice, and the tables in
-- that of their names.
use Rattle.std.specs.{Prelude.{◌≡◌, ℕ, ◌==◌, ◌^◌, ◌&&◌, not, nat_le, nat_lt, Bool, true, false, if◌then◌else◌, List, [], ◌∷◌, length, map}, List.list_all, Ordering.is_lt}
use Rattle.std.proofs.Common.{inl, inr}
use Rattle.pf_addr.specs.Path.{Names.name_order, PathForms.{TextShape, path_form, table_name_form}}
use Rattle.pf_form.specs.Bytes.{Forms.{Shape, nat, both, either, list, Value, ByteForm, Spells, nothing, number, front, or, pair, counted, that}, Lists.ordered}
use Rattle.pf_anchor.specs.Forms.{at_most, RulesShape, rules_form, plain_ruled, ruled_in, NamedShape, named_form, plain_entries, plain_named, entries_in, named_in, allows_ruleset}
use Rattle.pf_journal.specs.{Journal.IsOf, declared.journal.Record.Record}
use Rattle.pf_core.specs.{declared.durable.change.Item.Item, Durable.Changes.{PlainChange, commits, adds, deletes, sets, acts, removes, expires}}
use Rattle.pf_core.specs.declared.durable.change.Item.TheVariants as item
use Rattle.pf_store.specs.declared.encoding.recorded.Recorded.{Recorded, TheVariants.Made as made, TheVariants.Opens as opens}
use Rattle.pf_state.specs.Layouts.{States.{NameShape, name_form, plain_name, name_in, has_expiry}, Steps.{StepShape, step_form, plain_step, step_in, allows_steps}}
use Rattle.pf_table.specs.EntryForms.{EntryShape, entry}
use Rattle.pf_ticket.specs.declared.limits.TheConstants.{ENTRY_LIMIT, OFFERED_TABLE_LIMIT}
use Rattle.pf_core.specs.declared.group.TheConstants.{GROUP_LIMIT}

-- ---- what a commit replaces

abbrev pub named_before : Value NamedShape → Value NamedShape → Bool
named_before a b = is_lt (name_order a.0 b.0)

abbrev pub TablesShape : Shape
TablesShape = both TextShape (list NamedShape)

unfoldable pub defined_form : ByteForm (list NamedShape)
defined_form = that (at_most OFFERED_TABLE_LIMIT) (ordered named_before 4 named_form)

unfoldable pub tables_form : ByteForm TablesShape
tables_form = pair path_form defined_form

abbrev pub ItemShape : Shape
ItemShape = either RulesShape TablesShape

unfoldable pub item_form : ℕ → ByteForm ItemShape
item_form version = or 1 (rules_form version) (front (2 ∷ []) tables_form)

-- as many as a commit may name
abbrev pub is_commit : {A : Type 0} → List A → Bool
is_commit items = not (length items == 0) && nat_le (length items) ENTRY_LIMIT

unfoldable pub items_form : ℕ → ByteForm (list ItemShape)
items_form version = that is_commit (counted 1 (item_form version))

-- ---- changes

abbrev pub EditShape : Shape
EditShape = both TextShape (both TextShape (list EntryShape))

unfoldable pub edit_form : ByteForm EditShape
edit_form = pair path_form (pair table_name_form (counted 4 entry))

-- of the versions that have expiries
unfoldable pub expire_form : Bool → ByteForm nat
expire_form has = if has then front (8 ∷ []) (number 8) else that (λ tick. false) (nothing 0)

abbrev pub ChangeShape : Shape
ChangeShape =
    either (list ItemShape) (either EditShape (either EditShape (either EditShape (either (list StepShape) (either NameShape (either nat nat))))))

unfoldable pub change_form : ℕ → ByteForm ChangeShape
change_form version =
    or 1 (items_form version) (or 2 edit_form (or 3 edit_form (or 4 edit_form
    (or 5 (counted 4 (step_form version)) (or 6 name_form (or 7 (number 4) (expire_form (has_expiry version))))))))

-- as many as one record keeps
abbrev pub is_group : {A : Type 0} → List A → Bool
is_group rs = not (length rs == 0) && nat_le (length rs) GROUP_LIMIT

unfoldable pub group_form : ℕ → ByteForm (list ChangeShape)
group_form version = that is_group (counted 1 (change_form version))

-- ---- what a change's bytes say

abbrev pub plain_item : Item → Value ItemShape
plain_item (item.Rules r) = inl (plain_ruled r)
plain_item (item.Tables p named) = inr (p, map plain_named named)

-- the data of each kind, among those of all kinds
abbrev pub as_commit : Value (list ItemShape) → Value ChangeShape
as_commit v = inl v

abbrev pub as_add : Value EditShape → Value ChangeShape
as_add v = inr (inl v)

abbrev pub as_delete : Value EditShape → Value ChangeShape
as_delete v = inr (inr (inl v))

abbrev pub as_set : Value EditShape → Value ChangeShape
as_set v = inr (inr (inr (inl v)))

abbrev pub as_steps : Value (list StepShape) → Value ChangeShape
as_steps v = inr (inr (inr (inr (inl v))))

abbrev pub as_removal : Value NameShape → Value ChangeShape
as_removal v = inr (inr (inr (inr (inr (inl v)))))

abbrev pub as_opening : Value nat → Value ChangeShape
as_opening v = inr (inr (inr (inr (inr (inr (inl v))))))

abbrev pub as_tick : Value nat → Value ChangeShape
as_tick v = inr (inr (inr (inr (inr (inr (inr v))))))

abbrev pub plain_record : Recorded → Value ChangeShape
plain_record (made (commits items)) = as_commit (map plain_item items)
plain_record (made (adds p name xs)) = as_add (p, (name, plain_entries xs))
plain_record (made (deletes p name xs)) = as_delete (p, (name, plain_entries xs))
plain_record (made (sets p name xs)) = as_set (p, (name, plain_entries xs))
plain_record (made (acts steps)) = as_steps (map plain_step steps)
plain_record (made (removes name)) = as_removal (plain_name name)
plain_record (made (expires tick)) = as_tick tick
plain_record (opens epoch) = as_opening epoch

-- ---- what is read from bytes

abbrev pub item_in : Value ItemShape → Item
item_in (inl v) = item.Rules (ruled_in v)
item_in (inr v) = item.Tables v.0 (map named_in v.1)

abbrev pub record_in : Value ChangeShape → Recorded
record_in (inl items) = made (commits (map item_in items))
record_in (inr (inl v)) = made (adds v.0 v.1.0 (entries_in v.1.1))
record_in (inr (inr (inl v))) = made (deletes v.0 v.1.0 (entries_in v.1.1))
record_in (inr (inr (inr (inl v)))) = made (sets v.0 v.1.0 (entries_in v.1.1))
record_in (inr (inr (inr (inr (inl steps))))) = made (acts (map step_in steps))
record_in (inr (inr (inr (inr (inr (inl name)))))) = made (removes (name_in name))
record_in (inr (inr (inr (inr (inr (inr (inl epoch))))))) = opens epoch
record_in (inr (inr (inr (inr (inr (inr (inr tick))))))) = made (expires tick)

-- ---- which changes have bytes

abbrev is_short : {A : Type 0} → List A → Bool
is_short xs = nat_lt (length xs) (2 ^ 32)

abbrev pub has_item_form : Item → Bool
has_item_form (item.Rules r) = true
has_item_form (item.Tables p named) = at_most OFFERED_TABLE_LIMIT named

-- a commit has as many items as it may name, each with no more tables than a ticket takes; the number of a list fits in four bytes
abbrev pub has_form : Recorded → Bool
has_form (made (commits items)) = is_commit items && list_all has_item_form items
has_form (made (adds p name xs)) = is_short xs
has_form (made (deletes p name xs)) = is_short xs
has_form (made (sets p name xs)) = is_short xs
has_form (made (acts steps)) = is_short steps
has_form (made (removes name)) = true
has_form (made (expires tick)) = true
has_form (opens epoch) = nat_lt epoch (2 ^ 32)

-- What a command can want: it has bytes unless it is longer than any bank, since then its lists are short too.
abbrev pub can_be_wanted : PlainChange → Bool
can_be_wanted (commits items) = is_commit items && list_all has_item_form items
can_be_wanted (adds p name xs) = true
can_be_wanted (deletes p name xs) = true
can_be_wanted (sets p name xs) = true
can_be_wanted (acts steps) = true
can_be_wanted (removes name) = true
can_be_wanted (expires tick) = true

-- ---- which versions allow what is recorded

abbrev pub allows_item : ℕ → Item → Bool
allows_item version (item.Rules r) = allows_ruleset version r
allows_item version (item.Tables p named) = true

-- of what is recorded only commits have rules, and only steps states
abbrev pub allows_record : ℕ → Recorded → Bool
allows_record version (made (commits items)) = list_all (allows_item version) items
allows_record version (made (adds p name xs)) = true
allows_record version (made (deletes p name xs)) = true
allows_record version (made (sets p name xs)) = true
allows_record version (made (acts steps)) = allows_steps version steps
allows_record version (made (removes name)) = true
allows_record version (made (expires tick)) = has_expiry version
allows_record version (opens epoch) = true

abbrev pub allows_group : ℕ → List Recorded → Bool
allows_group version rs = list_all (allows_record version) rs

-- ---- groups

-- these changes, as a record has them
abbrev pub made_all : List PlainChange → List Recorded
made_all es = map made es

-- as many as one record keeps, and each has bytes
abbrev pub have_form : List Recorded → Bool
have_form rs = is_group rs && list_all has_form rs

-- The number of a group comes first, 1 to 64.
abbrev pub begins_group : List ℕ → Bool
begins_group [] = false
begins_group (n ∷ rest) = nat_le 1 n && nat_le n GROUP_LIMIT

-- whether they have bytes in a version: it allows them too
abbrev pub have_form_in : ℕ → List Recorded → Bool
have_form_in version rs = have_form rs && allows_group version rs

-- The payload is the bytes of a group, in a version: its data spell them, and determine it.
pub record IsRecorded (version : ℕ) (rs : List Recorded) (payload : List ℕ) : Type 0 where
  pub spelled : Spells (group_form version) (map plain_record rs) payload
  pub read_back : rs ≡ map record_in (map plain_record rs)

-- The record's payload is the bytes of this group, in a version.
pub record IsRecordOf (version : ℕ) (rs : List Recorded) (whole : Record) : Type 0 where
  pub payload : List ℕ
  pub is : IsOf payload whole
  pub recorded : IsRecorded version rs payload
