-- Rows: addresses with the signs of all their prefixes, in order.
use Rattle.std.specs.{Prelude.{◌≡◌, ◌≢◌, ℕ, ◌*◌, ◌/◌, ◌^◌, ◌<◌, ◌≤◌, ◌==◌, ◌&&◌, Bool, cond, List, length, slice_index_or, Option, Some, None, All}, List.{AllPairs, AllWithin, Any}}
use Rattle.pf_trie.specs.declared.{prefix.Prefix.{Prefix}, rows.Row.{Row}, signs.Signs.{Signs}}
use Rattle.pf_trie.specs.{Prefixes.{AllSigns, front}, Signs.{sign_of, below_of}}

-- The signs of an address's prefixes that leave at least `low` bits free and fewer than `top`, and no others.
pub record HasSigns (s : AllSigns) (low top a : ℕ) (signs : Signs) : Type 0 where
  pub same : (k : ℕ) → low ≤ k → k < top → sign_of signs k ≡ s k (a / 2 ^ k)
  pub narrow : (k : ℕ) → k < low → sign_of signs k ≡ None
  pub wide : (k : ℕ) → top ≤ k → sign_of signs k ≡ None

-- each address is less than all later ones
abbrev pub IsInOrder : List Row → Type 0
IsInOrder rows = AllPairs (λ r t. r.first < t.first) rows

-- a row of this address
abbrev pub IsAt : ℕ → Row → Type 0
IsAt a r = r.first ≡ a

-- Rows of addresses that have one front before their last `top` bits, of all their prefixes that leave fewer bits free. There is a row
-- wherever a prefix that has a sign begins; others do no harm.
pub record AreRows (s : AllSigns) (top front : ℕ) (rows : List Row) : Type 0 where
  pub order : IsInOrder rows
  pub inside : All (λ r. r.first / 2 ^ top ≡ front) rows
  pub signs : All (λ r. HasSigns s 0 top r.first r.signs) rows
  pub starts : (k n : ℕ) (sign : Bool) → k < top → n * 2 ^ k / 2 ^ top ≡ front → s k n ≡ Some sign → Any (IsAt (n * 2 ^ k)) rows

-- Rows in order whose addresses have one front before their last `at` bits, and the first of them no sign of a prefix that leaves at least so
-- many bits free.
pub record AreOfOneSlot (at front : ℕ) (rows : List Row) : Type 0 where
  pub some : 0 < length rows
  pub inside : IsInOrder rows → All (λ r. r.first / 2 ^ at ≡ front) rows
  pub narrow : (d : Row) (k : ℕ) → at ≤ k → sign_of (slice_index_or rows 0 d).signs k ≡ None

-- such rows, one of them at this address
pub record AreRowsWith (s : AllSigns) (top front a : ℕ) (rows : List Row) : Type 0 where
  pub are : AreRows s top front rows
  pub there : Any (IsAt a) rows

-- in rows in order so many are at an address or before it, and the others behind
pub record IsUpTo (rows : List Row) (a n : ℕ) : Type 0 where
  pub within : n ≤ length rows
  pub before : IsInOrder rows → AllWithin (λ r. r.first ≤ a) rows 0 n
  pub beyond : IsInOrder rows → AllWithin (λ r. a < r.first) rows n (length rows)

-- such rows end between these two places
pub record IsBetween (rows : List Row) (a low high : ℕ) : Type 0 where
  pub ordered : low ≤ high
  pub within : high ≤ length rows
  pub before : IsInOrder rows → AllWithin (λ r. r.first ≤ a) rows 0 low
  pub beyond : IsInOrder rows → AllWithin (λ r. a < r.first) rows high (length rows)

-- no prefix that has a sign begins at the row's address
abbrev pub IsNoStart : Row → Type 0
IsNoStart r = (k : ℕ) (sign : Bool) → sign_of r.signs k ≡ Some sign → r.first / 2 ^ k * 2 ^ k ≢ r.first

-- a row once the sign of a prefix was replaced
pub record Marks (p : Prefix) (sign : Option Bool) (old new : Row) : Type 0 where
  pub first : new.first ≡ old.first
  pub signs : (k : ℕ) → sign_of new.signs k ≡ cond ((old.first / 2 ^ p.free == front p) && (k == p.free)) sign (sign_of old.signs k)

-- all rows, each once the sign was replaced
pub record MarksEach (p : Prefix) (sign : Option Bool) (old new : List Row) : Type 0 where
  pub count : length new ≡ length old
  pub each : (k : ℕ) (r : Row) → k < length old → Marks p sign (slice_index_or old k r) (slice_index_or new k r)

-- a row with the signs of the prefixes that leave fewer bits free
abbrev pub cut_row : ℕ → Row → Row
cut_row at r = record { first = r.first; signs = below_of at r.signs }
