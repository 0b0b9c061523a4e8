-- Tables, and what they say of an address (pf.conf(5), TABLES): of the entries that contain it the most specific one decides.
use Rattle.std.specs.{Prelude.{◌≡◌, ◌≢◌, ◌<◌, ◌≤◌, nat_lt, T, Bool, true, false, not, cond, List, [], ◌∷◌, length, Option, Some, None, All, Contains}, FinMap.{find, is_sorted}, Option.option_map_or}
use Rattle.pf_addr.specs.declared.addr.Addr.{Addr}
use Rattle.pf_addr.specs.Address.{PlainNet, contains, IsNetwork}
use Rattle.pf_table.specs.declared.limits.TheConstants.{TABLE_LIMIT}
use Rattle.pf_table.specs.Entries.{PlainEntry}
use Rattle.pf_addr.specs.NetOrder.{net_order}

-- Entries in order, so no network twice; and at most as many as a table may have.
pub record AreEntries (es : List PlainEntry) : Type 0 where
  pub sorted : T (is_sorted net_order es)
  pub few : length es ≤ TABLE_LIMIT

-- such entries, each of them a network
pub record IsTable (es : List PlainEntry) : Type 0 where
  pub sorted : T (is_sorted net_order es)
  pub networks : All (λ e. IsNetwork e.0) es
  pub few : length es ≤ TABLE_LIMIT

-- a network's sign in a table; in any list, the sign of its first entry there
abbrev pub sign_of : PlainNet → List PlainEntry → Option Bool
sign_of net es = find net_order net es

-- ---- the entry that decides

-- The entry contains the address, and every other one that does has a shorter prefix.
pub record Decides (es : List PlainEntry) (a : Addr) (e : PlainEntry) : Type 0 where
  pub member : Contains es e
  pub holds : contains e.0 a ≡ true
  pub longest : (f : PlainEntry) → Contains es f → contains f.0 a ≡ true → f ≢ e → f.0.len < e.0.len

-- of two entries the one with the longer prefix
abbrev pub longer : Option PlainEntry → Option PlainEntry → Option PlainEntry
longer None f = f
longer (Some e) None = Some e
longer (Some e) (Some f) = cond (nat_lt e.0.len f.0.len) (Some f) (Some e)

-- of the entries that contain the address the one with the longest prefix
unfoldable pub deciding : List PlainEntry → Addr → Option PlainEntry
deciding [] a = None
deciding (e ∷ es) a = longer (cond (contains e.0 a) (Some e) None) (deciding es a)

-- A table matches an address where an entry decides and isn't negated.
unfoldable pub table_holds : List PlainEntry → Addr → Bool
table_holds es a = option_map_or (λ e. not e.1) (deciding es a) false
