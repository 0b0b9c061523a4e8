-- A session over a Book that others use too: which lines come to which calls, and their replies.
use Rattle.std.specs.{Prelude.{◌≡◌, ℕ, ◌+◌, List, [], ◌∷◌, ◌++◌, length, codes, min, Option, Some, None, Result, Ok, Err, ◌⊎◌}, Option.ForSome}
use Rattle.std.proofs.Common.{inl, inr}
use mathlib.Core.List.{IsPrefix}
use Rattle.pf_rule.specs.Packets.{PlainPacket}
use Rattle.pf_core.specs.declared.{command.Command.Command, command.Command.TheVariants.Ask, command.Question.TheVariants.Judge, reply.Answer.TheVariants.Judged, reply.Refusal.TheVariants.Fault, reply.Reply.Reply, reply.Reply.TheVariants.{Answer, Refused}}
use Rattle.pf_core.specs.{Durable.Changes.{PlainDurable, after, verdict}, Laws.Groups.AreInTurn, Worlds.{Setting, CurrentOpening, amid, changes_due}}
use Rattle.pf_view.specs.Seers.{PlainSeer}
use Rattle.pf_line.specs.{declared.{request.Request.Request, request.Request.TheVariants.{Run, ShowStatus, ShowAnchors}}, Reply.Replies.reply_text}
use Rattle.pf_book.specs.{Anchors.SaysAnchors, Groups.{Answered as Receipted, IsGroupAnswered}, Receipts.{PlainReceipt, IsAnswered, learns_from}, Statuses.SaysStatus, declared.status.BookStatus.BookStatus}
use Rattle.pf_session.specs.declared.line_engine.fault.EngineFault.{EngineFault}
use Rattle.pf_session.specs.{Anchors.listed_text, LineEngine.Chains.Chain, LineEngine.Sessions.IsSession, Server.Streams.last_receipt, Statuses.shown_text, Telling.IsReplyTo}

-- Where a session has come to: the number of its last line, the receipt of its last call, and what its seer saw and learnt.
pub record Sitting : Type 0 where
  pub line : ℕ
  pub last : Option PlainReceipt
  pub seer : PlainSeer

-- before its first line, with the receipt of an earlier call, if it has one
abbrev pub at_start : Option PlainReceipt → PlainSeer → Sitting
at_start last known = record { line = 0; last = last; seer = known }

-- Lines are numbered from 1 on, and the number stays at its last value.
abbrev pub next_line : ℕ → ℕ
next_line n = min (n + 1) 4294967295

-- the same, at the next line
abbrev pub at_next_line : Sitting → Sitting
at_next_line s = record s { line = next_line s.line }

-- ---- calls

-- the reply where no published copy could judge a packet
abbrev pub gone_text : List ℕ
gone_text = codes "err gone" ++ 10 ∷ []

-- The packet was judged by a published copy that this seer saw, whose changes begin with all that it learnt; or no copy could judge it,
-- and the seer saw nothing new.
abbrev pub IsVerdict : PlainDurable → PlainPacket → PlainSeer → PlainSeer → List ℕ → Type 0
IsVerdict base packet old new text =
    (IsPrefix old.learnt new.seen × (text ≡ reply_text (Answer (Judged (verdict (after base new.seen) packet)))))
    ⊎ ((new.seen ≡ old.seen) × (text ≡ gone_text))

-- A seer judged the packet, and learnt nothing from it.
pub record HasJudged (base : PlainDurable) (packet : PlainPacket) (old new : PlainSeer) (text : List ℕ) : Type 0 where
  pub sees : IsPrefix old.seen new.seen
  pub learnt : new.learnt ≡ old.learnt
  pub verdict : IsVerdict base packet old new text

-- The session's seer judged the packet, without the Book.
pub record IsJudged (base : PlainDurable) (packet : PlainPacket) (old new : Sitting) (text : List ℕ) : Type 0 where
  pub seer : HasJudged base packet old.seer new.seer text
  pub same : new ≡ record old { seer = new.seer }

-- The session keeps the receipt of a reply, and its seer learns the token in it, if there is one: what it learnt then begins with the
-- token, and with all that it had learnt.
pub record Keeps (slip : PlainReceipt) (old new : Sitting) : Type 0 where
  pub kept : new ≡ record old { last = Some slip; seer = learns_from slip.token old.seer }
  pub learnt : ForSome slip.token (λ token. IsPrefix token new.seer.learnt)
  pub still : IsPrefix old.seer.learnt new.seer.learnt

-- The Book ran a group that had the command behind these earlier ones, and this is what it was answered at its place: the reply that it would
-- have got by itself after them. The receipt of the session's last call is the one that was handed in, where the other commands are of other callers; or that of the place before, or the one
-- that was handed in if there is none. So lines of one session at one group's places get its replies in order.
pub record IsAnsweredInGroup (base : PlainDurable) (setting : Setting) (c : Command) (r : Reply) (slip : PlainReceipt) (last : Option PlainReceipt) : Type 0 where
  pub earlier : List Command
  pub later : List Command
  -- what the earlier ones and the later ones were answered
  pub reported : List Receipted
  pub others : List Receipted
  pub handed : Option PlainReceipt
  pub group : IsGroupAnswered base setting (earlier ++ c ∷ later) (Ok (reported ++ (r, slip) ∷ others)) handed
  pub in_turn : AreInTurn group.before (earlier ++ c ∷ later)
  pub place : length reported ≡ length earlier
  pub last_is : (last ≡ handed) ⊎ (last ≡ last_receipt handed (Ok reported))

-- The Book answered the command, alone or at its place in a group.
abbrev pub IsAnsweredInTurn : PlainDurable → Setting → Command → Reply → PlainReceipt → Option PlainReceipt → Type 0
IsAnsweredInTurn base setting c r slip last = IsAnswered base setting c r slip last ⊎ IsAnsweredInGroup base setting c r slip last

-- the opening as it was at the command's turn: when its call began, or in the middle of its group, behind what the earlier ones want
abbrev pub turn : {base : PlainDurable} {setting : Setting} {c : Command} {r : Reply} {slip : PlainReceipt} {last : Option PlainReceipt}
    → IsAnsweredInTurn base setting c r slip last → CurrentOpening
turn (inl alone) = alone.before
turn (inr at) = amid at.group.before (changes_due at.group.before [] at.earlier)

-- The Book ran the command, with the receipt of the session's last call handed in, and the session keeps the receipt that it got.
pub record IsCommandRun (base : PlainDurable) (setting : Setting) (c : Command) (old new : Sitting) (text : List ℕ) : Type 0 where
  pub reply : Reply
  pub slip : PlainReceipt
  pub answered : IsAnsweredInTurn base setting c reply slip old.last
  pub reported : text ≡ reply_text reply
  pub keeps : Keeps slip old new

-- The device failed in a group that had the command, with the receipt of the session's last call handed in. The changes of the group stand
-- in the history, not acknowledged. It has no receipt, and the session keeps its own.
pub record HasFaulted (base : PlainDurable) (setting : Setting) (c : Command) (old new : Sitting) (text : List ℕ) : Type 0 where
  pub earlier : List Command
  pub later : List Command
  pub group : IsGroupAnswered base setting (earlier ++ c ∷ later) (Err Fault) old.last
  pub reported : text ≡ reply_text (Refused Fault)
  pub same : new ≡ old

-- the packet that a command asks to judge, if it does
abbrev pub packet_in : Command → Option PlainPacket
packet_in (Ask (Judge packet)) = Some packet
packet_in c = None

abbrev pub RunsBy : Option PlainPacket → PlainDurable → Setting → Command → Sitting → Sitting → List ℕ → Type 0
RunsBy (Some packet) base setting c old new text = IsJudged base packet old new text
RunsBy None base setting c old new text = IsCommandRun base setting c old new text ⊎ HasFaulted base setting c old new text

-- A packet is judged by the session's seer. Any other command is run by the Book, alone or in a group: from where the session was to where
-- it then is.
abbrev pub Runs : PlainDurable → Setting → Command → Sitting → Sitting → List ℕ → Type 0
Runs base setting c old new text = RunsBy (packet_in c) base setting c old new text

-- The Book said this of itself, with the receipt of the session's last call handed in. So many sessions are open, as the server counts them.
-- Nothing is done.
pub record IsStatusShown (base : PlainDurable) (setting : Setting) (old new : Sitting) (text : List ℕ) : Type 0 where
  pub status : BookStatus
  pub says : SaysStatus base setting status old.last
  pub sessions : ℕ
  pub reported : text ≡ shown_text status sessions
  pub same : new ≡ old

-- The Book listed the anchors directly below a path, or had no memory for that, with the receipt of the session's last call handed in.
-- Nothing is done.
pub record AreAnchorsShown (base : PlainDurable) (setting : Setting) (path : List ℕ) (old new : Sitting) (text : List ℕ) : Type 0 where
  pub listed : Option (List (List ℕ))
  pub says : SaysAnchors base setting path listed old.last
  pub reported : text ≡ listed_text listed
  pub same : new ≡ old

abbrev pub RunsOrShows : PlainDurable → Setting → Request → Sitting → Sitting → List ℕ → Type 0
RunsOrShows base setting (Run c) old new text = Runs base setting c old new text
RunsOrShows base setting ShowStatus old new text = IsStatusShown base setting old new text
RunsOrShows base setting (ShowAnchors path) old new text = AreAnchorsShown base setting path old new text

-- ---- lines

-- A line passed the gate with its number, and this is its reply.
pub record TakesLine (passed : ℕ → Type 0) (base : PlainDurable) (setting : Setting) (line : List ℕ) (old new : Sitting) (text : List ℕ) : Type 0 where
  pub gate : passed (next_line old.line)
  pub reported : IsReplyTo (RunsOrShows base setting) line (at_next_line old) new text

-- These lines passed the gate one after the other, and this is the text of their replies.
abbrev pub TakesLines : (ℕ → Type 0) → PlainDurable → Setting → Sitting → Sitting → List (List ℕ) → List ℕ → Type 0
TakesLines passed base setting old new lines text = Chain (TakesLine passed base setting) old new lines text

-- What was done for what was read, by a session whose caller had the one receipt before it and the other after it, and whose seer knew
-- the one before and the other after.
pub record IsSharedSession (passed : ℕ → Type 0) (base : PlainDurable) (setting : Setting) (result : Result (Unit {0}) EngineFault)
    (unread still_unread : Option (List ℕ)) (last last' : Option PlainReceipt) (known known' : PlainSeer) (held held' : Option (List ℕ)) : Type 0 where
  -- the number of its last line
  pub line : ℕ
  pub session : IsSession (TakesLines passed base setting) result unread still_unread (at_start last known) (record { line = line; last = last'; seer = known' }) held held'
