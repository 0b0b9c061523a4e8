-- Snapshots as they are written.
use Rattle.std.specs.{Prelude.{◌≡◌, ℕ, ◌+◌, nat_le, Bool, true, T, List, ◌++◌, length, replicate, if◌then◌else◌}, FinMap.is_sorted, List.list_all}
use Rattle.pf_addr.specs.Path.Paths.{path_order}
use Rattle.pf_anchor.specs.{Forms.{RulesShape, PlacedShape, has_some, rulesets_form, kept_tables_form}, Rulesets.PlainPlaced, Tables.{PlainPlacedTable, table_order}}
use Rattle.pf_form.specs.Bytes.Forms.{Shape, both, list, nat, ByteForm, number, back, pair}
use Rattle.pf_snap.specs.{Ready.IsNext, declared.{header.TheConstants.NEWEST, next_bank.NextBank.NextBank}}
use Rattle.pf_state.specs.Layouts.States.{StateShape, has_expiry, states_form}
use Rattle.pf_core.specs.Durable.Changes.{PlainDurable}
use Rattle.pf_store.specs.Durables.{IsDurable}

-- how many zeros stand behind the epoch in the snapshot of nothing: the numbers of rulesets, tables and states, in four bytes each; and the
-- tick, in eight, in a version that has one
abbrev pub zeros_of : ℕ → ℕ
zeros_of version = if has_expiry version then 20 else 12

-- The snapshot of nothing: the epoch in four bytes, and these zeros.
unfoldable pub empty_form : ℕ → ByteForm nat
empty_form version = back (number 4) (replicate (zeros_of version) 0)

-- whether there are as many bytes as the snapshot of nothing has in a version
abbrev pub has_least : (version : ℕ) → List ℕ → Bool
has_least version bytes = nat_le (4 + zeros_of version) (length bytes)

-- what a snapshot has behind its tick
abbrev pub KeptShape : Shape
KeptShape = both (list RulesShape) (both (list PlacedShape) (list StateShape))

abbrev pub kept_form : ℕ → ByteForm KeptShape
kept_form version = pair (rulesets_form version) (pair kept_tables_form (states_form version))

-- Rulesets and tables are in the order of their paths and names, and none is empty.
pub record AreInOrder (rs : List PlainPlaced) (ts : List PlainPlacedTable) : Type 0 where
  pub rulesets : T (is_sorted path_order rs)
  pub rules : list_all (λ r. has_some r.1) rs ≡ true
  pub tables : T (is_sorted table_order ts)
  pub entries : list_all (λ t. has_some t.1) ts ≡ true

-- These bytes are those that were there, then a snapshot of what is kept, in a version.
pub record EndsInSnapshot (version : ℕ) (d : PlainDurable) (before bytes : List ℕ) : Type 0 where
  pub snapshot : List ℕ
  pub written : IsDurable version d snapshot
  pub appended : bytes ≡ before ++ snapshot

-- The next bank has a snapshot of what is kept, in the version that is written, and its generation is one greater.
pub record IsBankOf (generation : ℕ) (bank : NextBank) (d : PlainDurable) : Type 0 where
  pub snapshot : List ℕ
  pub written : IsDurable NEWEST d snapshot
  pub next : IsNext generation bank snapshot
