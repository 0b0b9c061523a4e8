-- A session, or a peer's stream, that pauses in one opening and goes on in others.
use Rattle.std.specs.Prelude.{ℕ, List, [], ◌++◌, Option, Result, Ok}
use Rattle.pf_core.specs.{Durable.Changes.PlainDurable, Worlds.Setting}
use Rattle.pf_book.specs.Receipts.{PlainReceipt}
use Rattle.pf_session.specs.declared.{line_engine.fault.EngineFault.EngineFault, line_engine.left_off.LeftOff.LeftOff, line_engine.left_off.LeftOff.TheVariants.{Ended, Paused}}
use Rattle.pf_session.specs.{LineEngine.{Intakes.{HasBegun, IsPart, PlainIntake}, Sessions.IsSession}, Server.{Parts.{Follows, IsStreamPart, Resumes, TakesAlong, TakesPartsAlong, Within, within}, Sittings.Sitting, Streams.{StreamSoFar, Takes}}}

-- What it does in one opening is what it does over openings, if it comes to no other.
abbrev pub BeginsAlone : (PlainDurable → Setting → Sitting → Sitting → List (List ℕ) → List ℕ → Type 0) → Type 0
BeginsAlone Lines = (base : PlainDurable) (setting : Setting) (result : Result LeftOff EngineFault) (text : List ℕ) (intake : PlainIntake)
    (unread still_unread : Option (List ℕ)) (old new : Sitting) (held held' : Option (List ℕ))
    → IsPart (Lines base setting) result text intake unread still_unread old new held held'
    → IsPart (TakesAlong Lines Resumes) result text intake unread still_unread (within base setting old) (within base setting new) held held'

-- A session paused, and went on in the next opening with what it had read and not answered: both together are one part of a session.
abbrev pub GoesOnElsewhere : (PlainDurable → Setting → Sitting → Sitting → List (List ℕ) → List ℕ → Type 0) → Type 0
GoesOnElsewhere Lines = (base : PlainDurable) (setting : Setting) (result : Result LeftOff EngineFault) (text : List ℕ) (between intake : PlainIntake)
    (unread mid_unread still_unread : Option (List ℕ)) (old left : Sitting) (begun new : Within Sitting) (held shown held' : Option (List ℕ))
    → IsPart (Lines base setting) (Ok Paused) text between unread mid_unread old left held shown
    → Resumes (within base setting left) begun
    → ((line : List ℕ) → HasBegun between line → IsPart (TakesAlong Lines Resumes) result (line ++ between.ahead) intake mid_unread still_unread begun new shown held')
    → IsPart (TakesAlong Lines Resumes) result text intake unread still_unread (within base setting old) new held held'

-- A session paused, and went on in the same opening: both together are one part of a session.
abbrev pub GoesOnHere : (PlainDurable → Setting → Sitting → Sitting → List (List ℕ) → List ℕ → Type 0) → Type 0
GoesOnHere Lines = (base : PlainDurable) (setting : Setting) (result : Result LeftOff EngineFault) (text : List ℕ) (between intake : PlainIntake)
    (unread mid_unread still_unread : Option (List ℕ)) (old left : Sitting) (new : Within Sitting) (held shown held' : Option (List ℕ))
    → IsPart (Lines base setting) (Ok Paused) text between unread mid_unread old left held shown
    → ((line : List ℕ) → HasBegun between line → IsPart (TakesAlong Lines Resumes) result (line ++ between.ahead) intake mid_unread still_unread (within base setting left) new shown held')
    → IsPart (TakesAlong Lines Resumes) result text intake unread still_unread (within base setting old) new held held'

-- A session that had read nothing before, and came to its reader's end: its text is the replies to the lines of all that it read.
abbrev pub IsWhole : (PlainDurable → Setting → Sitting → Sitting → List (List ℕ) → List ℕ → Type 0) → Type 0
IsWhole Lines = (intake : PlainIntake) (unread still_unread : Option (List ℕ)) (old new : Within Sitting) (held held' : Option (List ℕ))
    → IsPart (TakesAlong Lines Resumes) (Ok Ended) [] intake unread still_unread old new held held'
    → IsSession (TakesAlong Lines Resumes) (Ok tt) unread still_unread old new held held'

-- The same of a peer's stream.
abbrev pub StreamsBeginAlone : Type 0
StreamsBeginAlone = (base : PlainDurable) (setting : Setting) (result : Result LeftOff EngineFault) (before left : Option (List ℕ))
    (unread still_unread : Option (List ℕ)) (old new : Option PlainReceipt) (held held' : Option (List ℕ))
    → IsStreamPart (Takes base setting) before result left unread still_unread old new held held'
    → IsStreamPart TakesPartsAlong before result left unread still_unread (within base setting old) (within base setting new) held held'

abbrev pub StreamsGoOnElsewhere : Type 0
StreamsGoOnElsewhere = (base : PlainDurable) (setting : Setting) (result : Result LeftOff EngineFault) (before between left : Option (List ℕ))
    (unread mid_unread still_unread : Option (List ℕ)) (old last : Option PlainReceipt) (begun new : Within (Option PlainReceipt)) (held shown held' : Option (List ℕ))
    → StreamSoFar (Takes base setting) before unread mid_unread between old last held shown
    → Follows (within base setting last) begun
    → IsStreamPart TakesPartsAlong between result left mid_unread still_unread begun new shown held'
    → IsStreamPart TakesPartsAlong before result left unread still_unread (within base setting old) new held held'
