-- What follows from the definitions; the contracts of law functions say that it holds.
use Rattle.std.specs.{Prelude.{◌≡◌, ◌≢◌, ◌⊎◌, ⊤, ℕ, ◌≤◌, true, List, [], ◌∷◌, length, Ok}, List.AllByRecursion}
use Rattle.pf_table.specs.{Edits.{added, deleted, replaced}, Entries.PlainEntry, Tables.AreEntries}
use Rattle.pf_map.specs.ListMaps.{list_by}
use Rattle.pf_anchor.specs.declared.limits.TheConstants.{RULE_LIMIT, RULESET_LIMIT, TABLE_COUNT_LIMIT}
use Rattle.pf_anchor.specs.{Configurations.IsConfiguration, Laws.Configurations.rules_by, Rulesets.rules_at, Tables.{table_order, IsTableMap}}
use Rattle.pf_state.specs.{declared.{state.StateName.StateName, step.StateStep.StateStep}, States.{PlainState, IsStates, all_stand}, Steps.{after as stepped_on, without_state, without_due}}
use Rattle.pf_core.specs.declared.durable.change.Item.{Item}
use Rattle.pf_core.specs.Durable.Changes.{PlainDurable, PlainChange, commits, adds, deletes, sets, acts, removes, expires, rulesets_in, tables_in, entries_at, applied, after, fits}

-- what is kept after a commit, whole
pub record IsReplaced (d : PlainDurable) (items : List Item) (new : PlainDurable) : Type 0 where
  pub epoch : new.epoch ≡ d.epoch
  pub tick : new.tick ≡ d.tick
  pub states : new.states ≡ d.states
  pub maps : IsConfiguration new.config
  pub rules : (q : List ℕ) → rules_at q new.config.rulesets ≡ rules_by (rulesets_in items) q (rules_at q d.config.rulesets)
  pub tables : (p name : List ℕ) → entries_at new p name ≡ list_by table_order (tables_in items) (p, name) (entries_at d p name)

abbrev pub ReplacesExactly : Type 0
ReplacesExactly = (d : PlainDurable) (items : List Item) → IsConfiguration d.config → IsReplaced d items (applied d (commits items))

-- ---- edits of tables

-- the table at this path and name has these entries, and all else is as before
pub record IsEdited (d : PlainDurable) (p name : List ℕ) (es : List PlainEntry) (new : PlainDurable) : Type 0 where
  pub epoch : new.epoch ≡ d.epoch
  pub tick : new.tick ≡ d.tick
  pub rulesets : new.config.rulesets ≡ d.config.rulesets
  pub states : new.states ≡ d.states
  pub here : entries_at new p name ≡ es
  pub others : (q other : List ℕ) → (p ≢ q) ⊎ (name ≢ other) → entries_at new q other ≡ entries_at d q other
  pub map : IsTableMap d.config.tables → IsTableMap new.config.tables

-- an edit changes exactly the table at its path and name
pub record EditsExactly : Type 0 where
  pub by_add : (d : PlainDurable) (p name : List ℕ) (xs : List PlainEntry) →
      IsEdited d p name (added (entries_at d p name) xs) (applied d (adds p name xs))
  pub by_delete : (d : PlainDurable) (p name : List ℕ) (xs : List PlainEntry) →
      IsEdited d p name (deleted (entries_at d p name) xs) (applied d (deletes p name xs))
  pub by_set : (d : PlainDurable) (p name : List ℕ) (xs : List PlainEntry) → IsEdited d p name (replaced xs) (applied d (sets p name xs))
  -- so a table that is killed is gone
  pub by_kill : (d : PlainDurable) (p name : List ℕ) → IsEdited d p name [] (applied d (sets p name []))

-- deleting entries from a table that isn't there doesn't make one
abbrev pub DeletesNothing : Type 0
DeletesNothing = (d : PlainDurable) (p name : List ℕ) (xs : List PlainEntry) → entries_at d p name ≡ [] →
    entries_at (applied d (deletes p name xs)) p name ≡ []

-- ---- changes of states

-- the tick and the states are these, and all else is as before: no ruleset and no table changes with a peer's records
pub record IsStepped (d : PlainDurable) (now : ℕ) (ss : List PlainState) (new : PlainDurable) : Type 0 where
  pub epoch : new.epoch ≡ d.epoch
  pub tick : new.tick ≡ now
  pub config : new.config ≡ d.config
  pub states : new.states ≡ ss

-- a change of states changes nothing else, and only a tick the tick
pub record StepsExactly : Type 0 where
  pub by_steps : (d : PlainDurable) (steps : List StateStep) → IsStepped d d.tick (stepped_on d.states steps) (applied d (acts steps))
  pub by_removal : (d : PlainDurable) (name : StateName) → IsStepped d d.tick (without_state d.states name) (applied d (removes name))
  pub by_tick : (d : PlainDurable) (tick : ℕ) → IsStepped d tick (without_due d.states tick) (applied d (expires tick))

-- ---- ticks

-- each of these changes fits what those before it leave
abbrev pub FitInTurn : PlainDurable → List PlainChange → Type 0
FitInTurn d [] = ⊤
FitInTurn d (e ∷ es) = (fits d e ≡ Ok tt) × FitInTurn (applied d e) es

-- changes that fit don't set the tick back
abbrev pub TickStaysOrRises : Type 0
TickStaysOrRises = (d : PlainDurable) (changes : List PlainChange) → FitInTurn d changes → d.tick ≤ (after d changes).tick

-- ---- limits

-- what is kept is a configuration, tables and states with nothing there twice, all within the limits, and no state is due
pub record IsWithin (d : PlainDurable) : Type 0 where
  pub maps : IsConfiguration d.config
  pub rulesets : length d.config.rulesets ≤ RULESET_LIMIT
  pub rules : (p : List ℕ) → length (rules_at p d.config.rulesets) ≤ RULE_LIMIT
  pub tables : length d.config.tables ≤ TABLE_COUNT_LIMIT
  pub entries : (p name : List ℕ) → AreEntries (entries_at d p name)
  pub states : IsStates d.states
  pub standing : all_stand d.tick d.states ≡ true

-- what a commit replaces is within the limits, and in order
pub record AreFew (items : List Item) : Type 0 where
  pub rules : AllByRecursion (λ r. length r.1 ≤ RULE_LIMIT) (rulesets_in items)
  pub entries : AllByRecursion (λ t. AreEntries t.1) (tables_in items)

-- a change that fits leaves what is kept within the limits
pub record StaysWithin (d : PlainDurable) : Type 0 where
  pub by_commit : (items : List Item) → AreFew items → fits d (commits items) ≡ Ok tt → IsWithin (applied d (commits items))
  pub by_add : (p name : List ℕ) (xs : List PlainEntry) → fits d (adds p name xs) ≡ Ok tt → IsWithin (applied d (adds p name xs))
  pub by_delete : (p name : List ℕ) (xs : List PlainEntry) → IsWithin (applied d (deletes p name xs))
  pub by_set : (p name : List ℕ) (xs : List PlainEntry) → fits d (sets p name xs) ≡ Ok tt → IsWithin (applied d (sets p name xs))
  pub by_steps : (steps : List StateStep) → fits d (acts steps) ≡ Ok tt → IsWithin (applied d (acts steps))
  pub by_removal : (name : StateName) → IsWithin (applied d (removes name))
  pub by_tick : (tick : ℕ) → IsWithin (applied d (expires tick))

abbrev pub KeepsWithin : Type 0
KeepsWithin = (d : PlainDurable) → IsWithin d → StaysWithin d
