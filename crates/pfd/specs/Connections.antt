-- How a connection begins, and what is done for what it sends, in one opening of several.
use Rattle.std.specs.Prelude.{◌≡◌, ℕ, ◌++◌, List, [], Option, Some, None, Result, Ok}
use Rattle.pf_core.specs.{Durable.Changes.PlainDurable, Worlds.Setting}
use Rattle.pf_view.specs.Seers.{PlainSeer}
use Rattle.pf_book.specs.Receipts.{PlainReceipt}
use Rattle.pf_session.specs.declared.{line_engine.fault.EngineFault.EngineFault, line_engine.left_off.LeftOff.LeftOff, line_engine.left_off.LeftOff.TheVariants.{Ended, Paused}, server.line_session.LineSession.LineSession}
use Rattle.pf_session.specs.{LineEngine.Intakes.{HasBegun, nothing_read}, Server.{Parts.{IsAskingPart, IsSharedPart, IsStreamPart}, Streams.{GoesOn, Takes}}}
use Rattle.pfd.specs.declared.admitting.Way.TheVariants as way
use Rattle.pfd.specs.declared.{admitting.Way.Way, connection.Stage.Stage, connection.Stage.TheVariants.{Silent, Session, Asking, Peer, Leaving, Over}}

-- a session of this number that had no line
pub record IsNew (own : ℕ) (session : LineSession) : Type 0 where
  pub number : session.number ≡ own
  pub line : session.line ≡ 0
  pub intake : session.intake ≡ nothing_read

-- how a connection begins: as a session, whole or one that asks, as a peer's stream, or as one that leaves
abbrev pub BeginsAs : Way → ℕ → Stage → Type 0
BeginsAs way.Session number stage = (session : LineSession) × (stage ≡ Session session) × IsNew number session
BeginsAs way.Asking number stage = (session : LineSession) × (stage ≡ Asking session) × IsNew number session
BeginsAs way.Stream number stage = stage ≡ Peer (Some [])
BeginsAs way.Denied number stage = (reads : ℕ) × (stage ≡ Leaving reads)

-- What was done for what a connection sent, by how it stood: its session went on, whole or as one that asks, or its messages were run as a
-- peer's; else nothing was read and nothing written. It stays what it is, and only a session has its seer learn.
abbrev pub IsServedFrom : Stage → Stage → (ℕ → ℕ → Type 0) → PlainDurable → Setting → Result LeftOff EngineFault
    → Option (List ℕ) → Option (List ℕ) → PlainSeer → PlainSeer → Option (List ℕ) → Option (List ℕ) → Type 0
IsServedFrom (Session old) stage passed base setting result unread still_unread known known' held held' =
    (new : LineSession) × (stage ≡ Session new) × (new.number ≡ old.number) × (last : Option PlainReceipt)
    × ((begun : List ℕ) → HasBegun old.intake begun → IsSharedPart (passed old.number) base setting result (begun ++ old.intake.ahead) new.intake
    unread still_unread old.line new.line None last known known' held held')
IsServedFrom (Asking old) stage passed base setting result unread still_unread known known' held held' =
    (new : LineSession) × (stage ≡ Asking new) × (new.number ≡ old.number) × (last : Option PlainReceipt)
    × ((begun : List ℕ) → HasBegun old.intake begun → IsAskingPart (passed old.number) base setting result (begun ++ old.intake.ahead) new.intake
    unread still_unread old.line new.line None last known known' held held')
IsServedFrom (Peer old) stage passed base setting result unread still_unread known known' held held' =
    (known' ≡ known) × ((new : Option (List ℕ)) × (stage ≡ Peer new)
    × (GoesOn old → (last : Option PlainReceipt) × IsStreamPart (Takes base setting) old result new unread still_unread None last held held'))
IsServedFrom Silent stage passed base setting result unread still_unread known known' held held' =
    (result ≡ Ok Ended) × (stage ≡ Silent) × (known' ≡ known) × (still_unread ≡ unread) × (held' ≡ held)
IsServedFrom (Leaving reads) stage passed base setting result unread still_unread known known' held held' =
    (result ≡ Ok Ended) × (stage ≡ Leaving reads) × (known' ≡ known) × (still_unread ≡ unread) × (held' ≡ held)
IsServedFrom Over stage passed base setting result unread still_unread known known' held held' =
    (result ≡ Ok Ended) × (stage ≡ Over) × (known' ≡ known) × (still_unread ≡ unread) × (held' ≡ held)

-- What was done for what a connection sent, where only what asks of packets is answered, by how it stood: its session went on so, whole or as
-- one that asks, with whatever receipt it has; else nothing was read and nothing written. It stays what it is.
abbrev pub IsJudgedFrom : Stage → Stage → (ℕ → ℕ → Type 0) → PlainDurable → Setting → Result LeftOff EngineFault
    → Option (List ℕ) → Option (List ℕ) → PlainSeer → PlainSeer → Option (List ℕ) → Option (List ℕ) → Type 0
IsJudgedFrom (Session old) stage passed base setting result unread still_unread known known' held held' =
    (new : LineSession) × (stage ≡ Session new) × (new.number ≡ old.number) × ((last : Option PlainReceipt) (begun : List ℕ) → HasBegun old.intake begun
    → IsSharedPart (passed old.number) base setting result (begun ++ old.intake.ahead) new.intake unread still_unread old.line new.line last last known known' held held')
IsJudgedFrom (Asking old) stage passed base setting result unread still_unread known known' held held' =
    (new : LineSession) × (stage ≡ Asking new) × (new.number ≡ old.number) × ((last : Option PlainReceipt) (begun : List ℕ) → HasBegun old.intake begun
    → IsAskingPart (passed old.number) base setting result (begun ++ old.intake.ahead) new.intake unread still_unread old.line new.line last last known known' held held')
IsJudgedFrom old stage passed base setting result unread still_unread known known' held held' =
    (result ≡ Ok Paused) × (stage ≡ old) × (known' ≡ known) × (still_unread ≡ unread) × (held' ≡ held)
