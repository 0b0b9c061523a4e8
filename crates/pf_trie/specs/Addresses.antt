-- Rows of the same addresses.
use Rattle.std.specs.Prelude.{◌≡◌, ℕ, ◌<◌, List, length, slice_index_or}
use Rattle.pf_trie.specs.declared.rows.Row.{Row}

-- at each place the address that was there
pub record SameAddresses (old new : List Row) : Type 0 where
  pub count : length new ≡ length old
  pub each : (k : ℕ) (r : Row) → k < length old → (slice_index_or new k r).first ≡ (slice_index_or old k r).first
