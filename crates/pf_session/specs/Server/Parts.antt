-- A session, or a peer's stream, that goes from one opening to the next: what it does in each, and in all of them.
use Rattle.std.specs.{Prelude.{◌≡◌, ℕ, List, [], ◌∷◌, ◌++◌, take, Option, None, Result, Ok, Err}, Option.ForSome}
use mathlib.Core.List.{IsPrefix}
use Rattle.pf_core.specs.{Durable.Changes.{PlainChange, PlainDurable}, Worlds.Setting}
use Rattle.pf_view.specs.Seers.{PlainSeer}
use Rattle.pf_book.specs.Receipts.{PlainReceipt}
use Rattle.pf_session.specs.declared.{line_engine.fault.EngineFault.EngineFault, line_engine.left_off.LeftOff.LeftOff, line_engine.left_off.LeftOff.TheVariants.{Ended, Paused}}
use Rattle.pf_session.specs.{LineEngine.Intakes.{IsPart, PlainIntake}, Renewing.{KnowsWithin, Renews}, Server.{Askings.AsksLines, Sittings.{Sitting, TakesLines}, Streams.{IsStreamFrom, Part, StreamSoFar, Takes}}}

-- ---- in one opening

abbrev pub sits : ℕ → Option PlainReceipt → PlainSeer → Sitting
sits line last known = record { line = line; last = last; seer = known }

-- What a session did: from its line of the one number to that of the other, with the one receipt before and the other after, by a seer that
-- knew the one before and the other after.
abbrev pub IsSharedPart : (ℕ → Type 0) → PlainDurable → Setting → Result LeftOff EngineFault → (text : List ℕ) → PlainIntake → (unread still_unread : Option (List ℕ))
    → (line line' : ℕ) → (last last' : Option PlainReceipt) → (known known' : PlainSeer) → (held held' : Option (List ℕ)) → Type 0
IsSharedPart passed base setting result text intake unread still_unread line line' last last' known known' held held' =
    IsPart (TakesLines passed base setting) result text intake unread still_unread (sits line last known) (sits line' last' known') held held'

-- The same of a session that may only ask.
abbrev pub IsAskingPart : (ℕ → Type 0) → PlainDurable → Setting → Result LeftOff EngineFault → (text : List ℕ) → PlainIntake → (unread still_unread : Option (List ℕ))
    → (line line' : ℕ) → (last last' : Option PlainReceipt) → (known known' : PlainSeer) → (held held' : Option (List ℕ)) → Type 0
IsAskingPart passed base setting result text intake unread still_unread line line' last last' known known' held held' =
    IsPart (AsksLines passed base setting) result text intake unread still_unread (sits line last known) (sits line' last' known') held held'

-- What a peer's stream did behind these bytes of a message, by how it left off.
abbrev pub IsStreamPart : {S : Type 0} → (S → S → List Part → List ℕ → Type 0) → (before : Option (List ℕ))
    → Result LeftOff EngineFault → (left : Option (List ℕ)) → (unread still_unread : Option (List ℕ)) → S → S → (held held' : Option (List ℕ)) → Type 0
IsStreamPart Serves before (Ok Paused) left unread still_unread old new held held' = StreamSoFar Serves before unread still_unread left old new held held'
IsStreamPart Serves before (Ok Ended) left unread still_unread old new held held' = IsStreamFrom Serves before (Ok tt) unread still_unread old new held held'
IsStreamPart Serves before (Err fault) left unread still_unread old new held held' = IsStreamFrom Serves before (Err fault) unread still_unread old new held held'

-- ---- in several

-- where a session or a stream has come to, and in which opening, by what names it: what it gave, and what it keeps within
pub record Within (S : Type 0) : Type 0 where
  pub base : PlainDurable
  pub setting : Setting
  pub here : S

abbrev pub within : {S : Type 0} → PlainDurable → Setting → S → Within S
within base setting here = record { base = base; setting = setting; here = here }

-- These were answered in the opening of the old place, and then in further ones, each from the place at which it began there, up to the new
-- place. This is their text. `Takes base setting` says so of one opening, and `Next left begun` how it goes from one to the next.
abbrev pub Goes : {S L : Type 0} → (PlainDurable → Setting → S → S → List L → List ℕ → Type 0) → (Within S → Within S → Type 0)
    → Within S → List (Within S) → Within S → List L → List ℕ → Type 0
Goes Takes Next old [] new items text = (new.base ≡ old.base) × (new.setting ≡ old.setting) × Takes old.base old.setting old.here new.here items text
Goes {S = S} {L = L} Takes Next old (begun ∷ others) new items text =
    (left : S) × (first more : List L) × (said rest : List ℕ)
    × Takes old.base old.setting old.here left first said × Next (within old.base old.setting left) begun × Goes Takes Next begun others new more rest
    × (items ≡ first ++ more) × (text ≡ said ++ rest)

-- the same, whatever openings came between
abbrev pub TakesAlong : {S L : Type 0} → (PlainDurable → Setting → S → S → List L → List ℕ → Type 0) → (Within S → Within S → Type 0)
    → Within S → Within S → List L → List ℕ → Type 0
TakesAlong {S = S} Takes Next old new items text = (begun : List (Within S)) × Goes Takes Next old begun new items text

-- A session goes from one opening to the next: its lines are numbered on, it has no receipt, and its seer is another. The next opening has
-- all that its seer saw and learnt, and all that was acknowledged at its last reply.
pub record Resumes (left begun : Within Sitting) : Type 0 where
  pub line : begun.here.line ≡ left.here.line
  pub last : begun.here.last ≡ None
  pub front : List PlainChange
  pub renews : Renews left.base front begun.base
  pub knows : KnowsWithin front left.here.seer
  pub reported : ForSome left.here.last (λ slip. IsPrefix (take slip.acked slip.front) front)

-- A peer's stream does, and has no receipt there either.
pub record Follows (left begun : Within (Option PlainReceipt)) : Type 0 where
  pub last : begun.here ≡ None
  pub front : List PlainChange
  pub renews : Renews left.base front begun.base
  pub reported : ForSome left.here (λ slip. IsPrefix (take slip.acked slip.front) front)

-- The lines of a session, over its openings; those of one that may only ask; and the parts of a peer's stream.
abbrev pub TakesLinesAlong : (ℕ → Type 0) → Within Sitting → Within Sitting → List (List ℕ) → List ℕ → Type 0
TakesLinesAlong passed = TakesAlong (TakesLines passed) Resumes

abbrev pub AsksLinesAlong : (ℕ → Type 0) → Within Sitting → Within Sitting → List (List ℕ) → List ℕ → Type 0
AsksLinesAlong passed = TakesAlong (AsksLines passed) Resumes

abbrev pub TakesPartsAlong : Within (Option PlainReceipt) → Within (Option PlainReceipt) → List Part → List ℕ → Type 0
TakesPartsAlong = TakesAlong Takes Follows
