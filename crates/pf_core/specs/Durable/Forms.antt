-- What is kept, in bytes, in each version: a snapshot.
--
--   the epoch in four bytes
--   from version `EXPIRY_FROM` on the tick in eight; before it there is none, and the tick is 0
--   the rulesets: their number in four bytes, and each
--   the tables: their number in four bytes, and each
--   the states: their number in four bytes, and each state, in the order of their names; no two have the same flow, and none is due at the
--   tick
use Rattle.std.specs.{Prelude.{ℕ, ◌==◌, ◌&&◌, ◌||◌, Bool, map, if◌then◌else◌}, List.list_all}
use Rattle.pf_form.specs.Bytes.Forms.{Shape, nat, both, list, Value, ByteForm, nothing, number, pair, that, length_of}
use Rattle.pf_anchor.specs.Forms.{RulesShape, rulesets_form, plain_ruled, ruled_in, PlacedShape, kept_tables_form, plain_tabled, tabled_in, configured, allows_config}
use Rattle.pf_state.specs.{Layouts.States.{StateShape, has_expiry, states_form, plain_states, state_in, all_allowed}, States.stands}
use Rattle.pf_core.specs.Durable.Changes.{PlainDurable}

abbrev pub DurableShape : Shape
DurableShape = both nat (both nat (both (list RulesShape) (both (list PlacedShape) (list StateShape))))

-- in a version without expiries the tick is 0, in no byte
unfoldable pub tick_form : Bool → ByteForm nat
tick_form has = if has then number 8 else nothing 0

-- no state is due at the tick
abbrev pub none_is_due : Value DurableShape → Bool
none_is_due v = list_all (λ s. stands v.1.0 (state_in s).1) v.1.1.1.1

unfoldable pub durable_form : ℕ → ByteForm DurableShape
durable_form version = that none_is_due
    (pair (number 4) (pair (tick_form (has_expiry version)) (pair (rulesets_form version) (pair kept_tables_form (states_form version)))))

abbrev pub plain_durable : PlainDurable → Value DurableShape
plain_durable d = (d.epoch, (d.tick, (map plain_ruled d.config.rulesets, (map plain_tabled d.config.tables, plain_states d.states))))

abbrev pub durable_in : Value DurableShape → PlainDurable
durable_in v = record {
  epoch = v.0;
  tick = v.1.0;
  config = configured (map ruled_in v.1.1.0) (map tabled_in v.1.1.1.0);
  states = map state_in v.1.1.1.1;
}

-- whether a version allows the tick and the states: one without expiries allows no tick but 0, and no state with an expiry
abbrev pub allows_ticks : ℕ → PlainDurable → Bool
allows_ticks version d = (has_expiry version || (d.tick == 0)) && all_allowed version d.states

-- whether a version allows what is kept
abbrev pub allows : ℕ → PlainDurable → Bool
allows version d = allows_config version d.config && allows_ticks version d

-- how many bytes a snapshot has
abbrev pub durable_length : ℕ → PlainDurable → ℕ
durable_length version d = length_of (durable_form version) (plain_durable d)
