-- The images that a `MemDisk` makes.
use Rattle.std.specs.Prelude.{◌≡◌, ℕ, ◌-◌, ◌<◌, false, if◌then◌else◌, List, length, slice_index, slice_index_or}
use Rattle.pf_disk.specs.declared.{image.Fill.Fill, image.Fill.TheVariants.{Old, New, Zeros, Open, Inverted, Bytes}, image.Replay.Replay, image.TheConstants.OPEN_GATE}
use Rattle.pf_disk.specs.Calls.{State}

-- what an unsynced place is filled with, from the byte of the last sync and the byte that a read returns
abbrev pub fill_byte : Fill → ℕ → ℕ → ℕ → ℕ
fill_byte Old i kept seen = kept
fill_byte New i kept seen = seen
fill_byte Zeros i kept seen = 0
fill_byte Open i kept seen = OPEN_GATE
fill_byte Inverted i kept seen = 255 - seen
fill_byte (Bytes bytes) i kept seen = slice_index bytes.now i

-- a fill by bytes has one for each place
abbrev pub FillsAll : Fill → ℕ → Type 0
FillsAll (Bytes bytes) size = length bytes.now ≡ size
FillsAll Old size = Unit {0}
FillsAll New size = Unit {0}
FillsAll Zeros size = Unit {0}
FillsAll Open size = Unit {0}
FillsAll Inverted size = Unit {0}

pub record IsFilled (fill : Fill) (s : State) (image : List ℕ) : Type 0 where
  pub same_length : length image ≡ length s.seen
  pub each : (i : ℕ) → i < length s.seen → slice_index image i
      ≡ (if s.unsynced i then fill_byte fill i (slice_index s.kept i) (slice_index s.seen i) else slice_index s.seen i)

-- where the fill's bytes are an image they are the one that is made
abbrev pub GivesItsBytes : Fill → (List ℕ → Type 0) → List ℕ → Type 0
GivesItsBytes (Bytes bytes) IsImageHere image = IsImageHere bytes.now → image ≡ bytes.now
GivesItsBytes Old IsImageHere image = Unit {0}
GivesItsBytes New IsImageHere image = Unit {0}
GivesItsBytes Zeros IsImageHere image = Unit {0}
GivesItsBytes Open IsImageHere image = Unit {0}
GivesItsBytes Inverted IsImageHere image = Unit {0}

-- the code's state is this state
pub record Shows (replay : Replay) (s : State) : Type 0 where
  pub seen : replay.seen.items ≡ s.seen
  pub kept : replay.kept.items ≡ s.kept
  pub kept_length : length s.kept ≡ length s.seen
  pub marks_length : length replay.unsynced.items ≡ length s.seen
  pub marks : (i : ℕ) → i < length s.seen → slice_index_or replay.unsynced.items i false ≡ s.unsynced i
