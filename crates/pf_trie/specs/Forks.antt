-- What forks and branches hold. `holds s top front below` says of the level below a slot that it holds the signs `s` of the prefixes whose
-- addresses begin with this front before their last `top` bits, and which leave fewer bits free.
use Rattle.std.specs.{Prelude.{◌≡◌, ℕ, ◌+◌, ◌-◌, ◌*◌, ◌/◌, ◌^◌, ◌<◌, ◌≤◌, List, [], length, slice_index_or, Option, Some, None}, Arc.arc_value, declared.{sync.Arc.Arc}}
use Rattle.pf_trie.specs.declared.{rows.Row.{Row}, signs.Signs.{Signs}, slot.TheConstants.{SLOT_BITS, SLOTS}}
use Rattle.pf_trie.specs.{Prefixes.AllSigns, Signs.sign_of, Rows.{HasSigns, AreRows}}

-- A slot is of the addresses that begin with a front before their last `at` bits: the signs of the prefixes that contain all of these, up to
-- those of a whole fork, and the level below.
pub record IsSlot {X : Type 0} (holds : AllSigns → ℕ → ℕ → X → Type 0) (s : AllSigns) (at front : ℕ) (slot : Signs × X) : Type 0 where
  pub wide : (a : ℕ) → a / 2 ^ at ≡ front → HasSigns s at (at + SLOT_BITS) a slot.0
  pub below : holds s at front slot.1

-- a slot with no signs
pub record IsEmptySlot {X : Type 0} (holds : AllSigns → ℕ → ℕ → X → Type 0) (slot : Signs × X) : Type 0 where
  pub wide : (k : ℕ) → sign_of slot.0 k ≡ None
  pub below : (s : AllSigns) (top front : ℕ) → AreRows s top front [] → holds s top front slot.1

-- a slot for each digit behind the fork's front
pub record IsFork {X : Type 0} (holds : AllSigns → ℕ → ℕ → X → Type 0) (s : AllSigns) (at front : ℕ) (slots : List (Signs × X)) : Type 0 where
  pub each : (g : ℕ) (slot : Signs × X) → g < SLOTS → IsSlot holds s at (front * SLOTS + g) (slice_index_or slots g slot)

-- a fork, whose slots have four bits fewer behind their fronts
pub record IsForkOf {X : Type 0} (holds : AllSigns → ℕ → ℕ → X → Type 0) (s : AllSigns) (top front : ℕ) (slots : List (Signs × X)) : Type 0 where
  pub deep : SLOT_BITS ≤ top
  pub fork : IsFork holds s (top - SLOT_BITS) front slots

-- a page of rows or a fork
abbrev pub IsBranch : {X Z : Type 0} → (AllSigns → ℕ → ℕ → X → Type 0) → AllSigns → ℕ → ℕ → List Row → Option (Arc (List (Signs × X)) Z) → Type 0
IsBranch holds s top front page None = AreRows s top front page
IsBranch holds s top front page (Some fork) = IsForkOf holds s top front (arc_value fork)

-- ---- copies

-- the second slot holds what the first does
pub record SameSlot {X : Type 0} (holds : AllSigns → ℕ → ℕ → X → Type 0) (slot other : Signs × X) : Type 0 where
  pub wide : other.0 ≡ slot.0
  pub below : (s : AllSigns) (top front : ℕ) → holds s top front slot.1 → holds s top front other.1

pub record SameFork {X : Type 0} (holds : AllSigns → ℕ → ℕ → X → Type 0) (slots others : List (Signs × X)) : Type 0 where
  pub count : length others ≡ length slots
  pub each : (g : ℕ) (slot : Signs × X) → g < length slots → SameSlot holds (slice_index_or slots g slot) (slice_index_or others g slot)
