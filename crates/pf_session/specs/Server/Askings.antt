-- A session that may ask and change nothing, over a Book that others use too: which lines are denied, which calls the others come to, and
-- the replies.
use Rattle.std.specs.{Prelude.{◌≡◌, ℕ, ◌||◌, ◌&&◌, ◌==◌, not, Bool, true, false, List, [], ◌∷◌, ◌++◌, codes, take, drop, Option, Some, None, Result}, List.position, Str.bytes_eq}
use Rattle.pf_form.specs.Form.Words.{Word, is_blank}
use Rattle.pf_rule.specs.Packets.{PlainPacket}
use Rattle.pf_core.specs.declared.{command.Command.Command, reply.Reply.Reply}
use Rattle.pf_core.specs.{Calls.call, Durable.Changes.PlainDurable, Worlds.{Setting, heard}}
use Rattle.pf_view.specs.Seers.{PlainSeer}
use Rattle.pf_line.specs.{declared.{request.Request.Request, request.Request.TheVariants.{Run, ShowStatus, ShowAnchors}}, Reply.Replies.reply_text}
use Rattle.pf_book.specs.Receipts.{PlainReceipt, IsAnswered}
use Rattle.pf_session.specs.declared.line_engine.fault.EngineFault.{EngineFault}
use Rattle.pf_session.specs.{LineEngine.Chains.Chain, LineEngine.Lines.seen, LineEngine.Sessions.IsSession, Server.Inquiries.is_inquiry, Server.Sittings.{AreAnchorsShown, IsJudged, IsStatusShown, Sitting, at_next_line, at_start, next_line, packet_in}, Telling.IsReplyTo}

-- ---- what is denied

-- the words with which a line asks and changes nothing
abbrev pub asks : Word → Bool
asks w = bytes_eq w (codes "judge") || bytes_eq w (codes "test") || bytes_eq w (codes "show")
    || bytes_eq w (codes "sum") || bytes_eq w (codes "log") || bytes_eq w (codes "export")

abbrev pub is_of_word : ℕ → Bool
is_of_word b = not (is_blank b)

abbrev pub from_place : Option ℕ → List ℕ → List ℕ
from_place None line = []
from_place (Some at) line = drop at line

abbrev pub to_place : Option ℕ → List ℕ → List ℕ
to_place None line = line
to_place (Some at) line = take at line

-- a line from its first word on
abbrev pub from_word : List ℕ → List ℕ
from_word line = from_place (position is_of_word line) line

-- what stands before the first blank
abbrev pub to_blank : List ℕ → List ℕ
to_blank line = to_place (position is_blank line) line

-- a line's first word, which is empty if it has none
abbrev pub first_word : List ℕ → Word
first_word line = to_blank (from_word line)

-- Whether a line is denied that has this first word: not if it begins a comment (35 is #) or a question.
abbrev pub denies : Word → Bool
denies [] = false
denies (b ∷ bs) = not (b == 35) && not (asks (b ∷ bs))

-- a line is denied by what is looked at of it
abbrev pub is_denied : List ℕ → Bool
is_denied line = denies (first_word (seen line))

abbrev pub denied_text : List ℕ
denied_text = codes "err denied" ++ 10 ∷ []

-- it was denied, and nothing was run
pub record IsDenied (old new : Sitting) (text : List ℕ) : Type 0 where
  pub same : new ≡ old
  pub reported : text ≡ denied_text

-- ---- calls

-- The Book was asked this, with the receipt of the session's last call handed in, and the session keeps the receipt that it got. The
-- opening is then what it was before the call: its changes, those of them that are acknowledged and shown, and its tickets.
pub record IsInquired (base : PlainDurable) (setting : Setting) (c : Command) (old new : Sitting) (text : List ℕ) : Type 0 where
  pub reply : Reply
  pub slip : PlainReceipt
  pub answered : IsAnswered base setting c reply slip old.last
  pub unchanged : heard answered.before (call c reply) answered.came ≡ answered.before
  pub reported : text ≡ reply_text reply
  pub kept : new ≡ record old { last = Some slip }

abbrev pub AsksBy : Option PlainPacket → Bool → PlainDurable → Setting → Command → Sitting → Sitting → List ℕ → Type 0
AsksBy (Some packet) inquiry base setting c old new text = IsJudged base packet old new text
AsksBy None true base setting c old new text = IsInquired base setting c old new text
AsksBy None false base setting c old new text = IsDenied old new text

-- A packet is judged by the session's seer, the Book is asked what changes nothing, and any other command is denied.
abbrev pub Asks : PlainDurable → Setting → Command → Sitting → Sitting → List ℕ → Type 0
Asks base setting c old new text = AsksBy (packet_in c) (is_inquiry c) base setting c old new text

-- The status and the anchors are shown as in any session.
abbrev pub AsksOrShows : PlainDurable → Setting → Request → Sitting → Sitting → List ℕ → Type 0
AsksOrShows base setting (Run c) old new text = Asks base setting c old new text
AsksOrShows base setting ShowStatus old new text = IsStatusShown base setting old new text
AsksOrShows base setting (ShowAnchors path) old new text = AreAnchorsShown base setting path old new text

-- ---- lines

-- before anything else is said of a line, it is denied or not
abbrev pub IsHeard : Bool → PlainDurable → Setting → List ℕ → Sitting → Sitting → List ℕ → Type 0
IsHeard true base setting line old new text = IsDenied old new text
IsHeard false base setting line old new text = IsReplyTo (AsksOrShows base setting) line old new text

-- A line passed the gate with its number, and this is its reply.
pub record AsksLine (passed : ℕ → Type 0) (base : PlainDurable) (setting : Setting) (line : List ℕ) (old new : Sitting) (text : List ℕ) : Type 0 where
  pub gate : passed (next_line old.line)
  pub reported : IsHeard (is_denied line) base setting line (at_next_line old) new text

-- These lines passed the gate one after the other, and this is the text of their replies.
abbrev pub AsksLines : (ℕ → Type 0) → PlainDurable → Setting → Sitting → Sitting → List (List ℕ) → List ℕ → Type 0
AsksLines passed base setting old new lines text = Chain (AsksLine passed base setting) old new lines text

-- What was done for what was read, by such a session whose caller had the one receipt before it and the other after it, and whose seer
-- knew the one before and the other after.
pub record IsAskingSession (passed : ℕ → Type 0) (base : PlainDurable) (setting : Setting) (result : Result (Unit {0}) EngineFault)
    (unread still_unread : Option (List ℕ)) (last last' : Option PlainReceipt) (known known' : PlainSeer) (held held' : Option (List ℕ)) : Type 0 where
  -- the number of its last line
  pub line : ℕ
  pub session : IsSession (AsksLines passed base setting) result unread still_unread (at_start last known) (record { line = line; last = last'; seer = known' }) held held'
