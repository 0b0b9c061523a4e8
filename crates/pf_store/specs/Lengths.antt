-- How many bytes what is kept takes in a bank, in the version that is written: in a snapshot, and in a record's payload.
use Rattle.std.specs.Prelude.{ℕ, ◌+◌, List, [], ◌∷◌}
use Rattle.pf_form.specs.Bytes.Forms.{length_of}
use Rattle.pf_snap.specs.declared.header.TheConstants.{NEWEST}
use Rattle.pf_anchor.specs.Forms.{named_form, plain_named, plain_entries}
use Rattle.pf_core.specs.{declared.durable.change.Item.Item, Durable.{Changes.PlainDurable, Forms.durable_length}}
use Rattle.pf_state.specs.{declared.step.StateStep.StateStep, Layouts.Steps.{step_form, plain_step}}
use Rattle.pf_table.specs.Entries.{PlainEntry}
use Rattle.pf_ticket.specs.NamedTables.{PlainDefinedTable}
use Rattle.pf_store.specs.{declared.encoding.recorded.Recorded.Recorded, Groups.{item_form, plain_item, edit_form, change_form, plain_record}}

abbrev pub total : {A : Type 0} → (A → ℕ) → List A → ℕ
total f [] = 0
total f (x ∷ xs) = f x + total f xs

abbrev pub snapshot_length : PlainDurable → ℕ
snapshot_length d = durable_length NEWEST d

-- ---- a record's payload

-- a ruleset of a commit, or a path's tables
abbrev pub item_length : Item → ℕ
item_length i = length_of (item_form NEWEST) (plain_item i)

-- a table, without its path
abbrev pub named_length : PlainDefinedTable → ℕ
named_length t = length_of named_form (plain_named t)

abbrev pub edit_length : List ℕ → List ℕ → List PlainEntry → ℕ
edit_length p name es = length_of edit_form (p, (name, plain_entries es))

abbrev pub step_length : StateStep → ℕ
step_length x = length_of (step_form NEWEST) (plain_step x)

-- a change or an opening, with the byte of its kind
abbrev pub recorded_length : Recorded → ℕ
recorded_length r = length_of (change_form NEWEST) (plain_record r)

-- a group: its number of changes and openings in one byte, and each
abbrev pub payload_length : List Recorded → ℕ
payload_length rs = 1 + total recorded_length rs
