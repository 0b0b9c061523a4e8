-- Prefixes of addresses, signs that stand at prefixes, and which of them decides about an address (pf.conf(5), TABLES: the most specific
-- entry does).
use Rattle.std.specs.Prelude.{◌≡◌, ℕ, ◌*◌, ◌/◌, ◌^◌, ◌<◌, ◌≤◌, ◌==◌, ◌&&◌, Bool, cond, Option, Some, None, MatchOption}
use Rattle.pf_trie.specs.declared.{found.Found.{Found}, prefix.Prefix.{Prefix}}

-- A prefix is known by how many of an address's last bits it leaves free, and by its front, the number that the bits before these write. In
-- CIDR notation (RFC 4632) its length is that of an address without the free bits. So an address has one prefix for each number of free bits,
-- and these contain it. The sign at each prefix, by free bits and front:
abbrev pub AllSigns : Type 0
AllSigns = ℕ → ℕ → Option Bool

abbrev pub front : Prefix → ℕ
front p = p.address / 2 ^ p.free

-- the first address that a prefix contains
abbrev pub first_of : Prefix → ℕ
first_of p = front p * 2 ^ p.free

-- ---- the longest prefix

-- No prefix of the address has a sign that leaves at least `low` bits free and fewer than `top`.
pub record HasNone (s : AllSigns) (low top a : ℕ) : Type 0 where
  pub none : (k : ℕ) → low ≤ k → k < top → s k (a / 2 ^ k) ≡ None

-- This sign is that of the longest one that has any.
pub record Decides (s : AllSigns) (low top a : ℕ) (found : Found) : Type 0 where
  pub within : low ≤ found.free
  pub below : found.free < top
  pub sign : s found.free (a / 2 ^ found.free) ≡ Some found.sign
  pub longest : (k : ℕ) → low ≤ k → k < found.free → s k (a / 2 ^ k) ≡ None

-- what is found is what decides
abbrev pub Finds : AllSigns → ℕ → ℕ → ℕ → Option Found → Type 0
Finds s low top a found = MatchOption found (HasNone s low top a) (Decides s low top a)

-- ---- edits

-- the sign at one prefix replaced, or taken out
abbrev pub with_sign : AllSigns → Prefix → Option Bool → AllSigns
with_sign s p sign k n = cond ((k == p.free) && (n == front p)) sign (s k n)

-- the same sign at each prefix whose addresses have this front before their last `top` bits and that leaves fewer bits free
abbrev pub Agree : AllSigns → AllSigns → ℕ → ℕ → Type 0
Agree s t top front = (k n : ℕ) → k < top → n * 2 ^ k / 2 ^ top ≡ front → s k n ≡ t k n

-- ---- two addresses

-- A prefix that leaves so many bits free contains both, and none that leaves fewer does.
pub record IsApart (a b n : ℕ) : Type 0 where
  pub within : n ≤ 128
  pub same : a / 2 ^ n ≡ b / 2 ^ n
  pub fewest : (k : ℕ) → a / 2 ^ k ≡ b / 2 ^ k → n ≤ k
