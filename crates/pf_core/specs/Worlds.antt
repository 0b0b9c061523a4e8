-- Worlds: lists of events over openings and crashes, which of them are legal, and what they leave.
use Rattle.std.specs.Prelude.{◌≡◌, ◌≢◌, ℕ, ◌+◌, ◌<◌, ◌≤◌, ◌&&◌, ◌⊎◌, Bool, true, false, if◌then◌else◌, List, [], ◌∷◌, ◌++◌, length, map, flat_map, take, fold, nat_lt, ⊤, Result, Ok, Err}
use Rattle.pf_addr.specs.Refusing.{and_then, unless}
use Rattle.pf_core.specs.{declared.{command.Command.Command, reply.Refusal.Refusal, reply.Refusal.TheVariants.Halted, reply.Refusal.TheVariants.HistoryFull, reply.Refusal.TheVariants.Full, reply.Refusal.TheVariants.Fault, reply.Refusal.TheVariants.Memory, reply.Reply.Reply, reply.Reply.TheVariants.Answer, command.HistoryCommand.HistoryCommand, command.HistoryCommand.TheVariants.Log, command.HistoryCommand.TheVariants.Publish, reply.Answer.Answer as Reported, reply.Answer.TheVariants.Logged, reply.Answer.TheVariants.Shown, reply.Reply.TheVariants.Applied, reply.Reply.TheVariants.Stored, reply.Reply.TheVariants.Refused, step.Step.Step, step.Step.TheVariants.Done, step.Step.TheVariants.Wants, step.Step.TheVariants.OfHistory}, Calls.{Call, mentions_of, replies_in, mentions_of_group}, Commands.{step_by, may_change, takes_memory, group_words}, Durable.Changes.{PlainDurable, PlainChange, in_epoch, after, voided_by}}
use Rattle.pf_ticket.specs.{Tickets.{PlainTickets, fresh}, Mentions.{switches, after as moved_by}}

-- ---- states

-- what an opening is given to keep within: how many changes it may keep, and whether its device has no room for one more group, by what the
-- opening gave and the groups that were kept since
pub record Setting : Type 0 where
  pub limit : ℕ
  pub is_full : PlainDurable → List (List PlainChange) → List PlainChange → Bool

-- in memory no device is full
abbrev pub in_memory : ℕ → Setting
in_memory limit = record { limit = limit; is_full = λ base groups group. false }

-- a worker saw this many changes of an opening, or learnt that they are shown
pub record Sight : Type 0 where
  pub worker : ℕ
  pub front : ℕ

-- an opening, while it lasts
pub record CurrentOpening : Type 0 where
  pub setting : Setting
  -- what the opening gave
  pub base : PlainDurable
  -- the transactions, as the calls since the start have left them
  pub tickets : PlainTickets
  -- the groups of changes that were acknowledged
  pub acked : List (List PlainChange)
  -- the group that was not acknowledged, if there is one: the device failed while it was being kept
  pub pending : List (List PlainChange)
  -- how many changes are shown
  pub shown : ℕ
  -- what workers saw or learnt
  pub sights : List Sight

-- the current opening, or what is held between two of them
pub data State : Type 0 where
  up : CurrentOpening → State
  down : PlainDurable → State

-- an opening that has just begun: no tickets, no changes, and nobody has seen any
abbrev pub begun : Setting → PlainDurable → CurrentOpening
begun setting base = record { setting = setting; base = base; tickets = fresh base.epoch; acked = []; pending = []; shown = 0; sights = [] }

-- one epoch later, as an opening leaves it
abbrev pub raised : PlainDurable → PlainDurable
raised d = in_epoch (d.epoch + 1) d

-- the changes of these groups, in order
abbrev pub flat : List (List PlainChange) → List PlainChange
flat [] = []
flat (g ∷ gs) = g ++ flat gs

-- the changes since the opening
abbrev pub log_of : CurrentOpening → List PlainChange
log_of h = flat (h.acked ++ h.pending)

-- what replies are judged by: the base after all that was acknowledged
abbrev pub durable_of : CurrentOpening → PlainDurable
durable_of h = after h.base (flat h.acked)

-- ---- what a command is due

-- after a group that was not acknowledged nothing more is changed
abbrev pub is_halted : List (List PlainChange) → Bool
is_halted [] = false
is_halted (g ∷ gs) = true

-- the one step that a command may get
abbrev pub step_in : CurrentOpening → Command → Result Step Refusal
step_in h c = if may_change c && is_halted h.pending then Err Halted else step_by h.tickets (durable_of h) c

-- what the history answers: how many changes there are, are acknowledged, are shown; a publish shows all that were acknowledged
abbrev pub history_answer : CurrentOpening → HistoryCommand → Reported
history_answer h Log = Logged (length (log_of h)) (length (flat h.acked)) h.shown
history_answer h Publish = Shown (length (flat h.acked))

-- the reply to a step, if there is room
abbrev pub reply_to : CurrentOpening → Result Step Refusal → Reply
reply_to h (Ok (Done a)) = Answer a
reply_to h (Ok (Wants e o)) = Applied (length (log_of h) + 1) o
reply_to h (Ok (OfHistory c)) = Answer (history_answer h c)
reply_to h (Err e) = Refused e

-- the change that it wants, if any
abbrev pub changes_of : Result Step Refusal → List PlainChange
changes_of (Ok (Done a)) = []
changes_of (Ok (Wants e o)) = e ∷ []
changes_of (Ok (OfHistory c)) = []
changes_of (Err e) = []

-- whether changes that are kept together find room, and if not, why
abbrev pub room_for : CurrentOpening → List PlainChange → Result (Unit {0}) Refusal
room_for h [] = Ok tt
room_for h (e ∷ es) = if nat_lt h.setting.limit (length (log_of h) + length (e ∷ es)) then Err HistoryFull else
    (if h.setting.is_full h.base h.acked (e ∷ es) then Err Full else Ok tt)

abbrev pub if_ok : {A : Type 0} → Result (Unit {0}) Refusal → A → A → A
if_ok (Ok u) x y = x
if_ok (Err e) x y = y

abbrev pub or_refused : Result (Unit {0}) Refusal → Reply → Reply
or_refused (Ok u) r = r
or_refused (Err e) r = Refused e

abbrev pub due_at : CurrentOpening → Result Step Refusal → Reply
due_at h step = or_refused (room_for h (changes_of step)) (reply_to h step)

-- changes that are kept together are one group; if there are none, there is no group
abbrev pub grouped : List PlainChange → List (List PlainChange)
grouped [] = []
grouped (e ∷ es) = (e ∷ es) ∷ []

abbrev pub group_at : CurrentOpening → Result Step Refusal → List (List PlainChange)
group_at h step = if_ok (room_for h (changes_of step)) (grouped (changes_of step)) []

-- the reply that is due, and the group that is kept with it
abbrev pub due : CurrentOpening → Command → Reply
due h c = due_at h (step_in h c)

abbrev pub group_in : CurrentOpening → Command → List (List PlainChange)
group_in h c = group_at h (step_in h c)

-- ---- what a group of commands is due

-- the opening in the middle of a group that wants these changes so far: as if they were kept, and their tickets void
abbrev pub amid : CurrentOpening → List PlainChange → CurrentOpening
amid h changes = record h { tickets = moved_by h.tickets (switches (flat_map voided_by changes)); acked = h.acked ++ grouped changes }

-- these changes, then the one that a command wants
abbrev pub changes_with : CurrentOpening → List PlainChange → Command → List PlainChange
changes_with h changes c = changes ++ changes_of (step_in (amid h changes) c)

-- all that the commands want, one after the other
abbrev pub changes_due : CurrentOpening → List PlainChange → List Command → List PlainChange
changes_due h changes commands = fold (changes_with h) changes commands

-- the reply to each of them
abbrev pub replies_due : CurrentOpening → List PlainChange → List Command → List Reply
replies_due h changes [] = []
replies_due h changes (c ∷ commands) =
    reply_to (amid h changes) (step_in (amid h changes) c) ∷ replies_due h (changes_with h changes c) commands

-- what refuses a group before any of its commands is looked at
abbrev pub group_start : CurrentOpening → List Command → Result (Unit {0}) Refusal
group_start h commands = and_then (unless (is_halted h.pending) Halted) (group_words commands)

-- what refuses a group whole: that, or no room for all its changes together. What refuses one of its commands is that command's reply
abbrev pub group_check : CurrentOpening → List Command → Result (Unit {0}) Refusal
group_check h commands = and_then (group_start h commands) (room_for h (changes_due h [] commands))

abbrev pub replies_unless : Result (Unit {0}) Refusal → List Reply → Result (List Reply) Refusal
replies_unless (Ok u) replies = Ok replies
replies_unless (Err e) replies = Err e

-- the replies that are due, or the refusal of the whole; and the one group of all its changes that is kept
abbrev pub due_group : CurrentOpening → List Command → Result (List Reply) Refusal
due_group h commands = replies_unless (group_check h commands) (replies_due h [] commands)

abbrev pub group_all : CurrentOpening → List Command → List (List PlainChange)
group_all h commands = if_ok (group_check h commands) (grouped (changes_due h [] commands)) []

-- ---- events

-- what a call, or a group's, leaves besides its reply: how many changes are then shown, and whether a device failed in it
pub record Upshot : Type 0 where
  pub shown : ℕ
  pub failed : Bool

abbrev pub upshot : ℕ → Bool → Upshot
upshot shown failed = record { shown = shown; failed = failed }

-- what a crash cuts short: nothing, a command, or a group of commands
pub data Doing : Type 0 where
  idle : Doing
  calling : Command → Doing
  grouping : List Command → Doing

pub data Event : Type 0 where
  called : Call → Upshot → Event
  -- commands whose changes are kept together, with the reply to each, or the refusal of the whole
  called_group : List Command → Result (List Reply) Refusal → Upshot → Event
  -- a worker judges by this many changes
  entered : (worker n : ℕ) → Event
  -- a worker learns that this many are shown
  learned : (worker n : ℕ) → Event
  -- within this; this many of the groups that were not acknowledged are kept
  crashed : Doing → ℕ → Event
  opened : Setting → Event
  -- an opening was refused, or cut short by a crash; whether the device has the greater epoch all the same
  refused_opening : Bool → Event

-- the group that a crash may leave besides those of the log
abbrev pub group_of : CurrentOpening → Doing → List (List PlainChange)
group_of h idle = []
group_of h (calling c) = group_in h c
group_of h (grouping commands) = group_all h commands

-- the groups that a crash keeps: all that were acknowledged, and some front of the others; it cuts no group
abbrev pub kept_groups : CurrentOpening → Doing → ℕ → List (List PlainChange)
kept_groups h doing n = h.acked ++ take n (h.pending ++ group_of h doing)

-- ---- what an event leaves

-- what a reply acknowledges of the group that is kept with it
abbrev pub acked_by : Reply → List (List PlainChange) → List (List PlainChange)
acked_by (Answer a) g = []
acked_by (Applied n o) g = g
acked_by (Stored n o) g = g
acked_by (Refused e) g = []

abbrev pub is_fault : Refusal → Bool
is_fault Fault = true
is_fault e = false

-- what it leaves of the group unacknowledged
abbrev pub pending_by : Reply → List (List PlainChange) → List (List PlainChange)
pending_by (Answer a) g = []
pending_by (Applied n o) g = []
pending_by (Stored n o) g = []
pending_by (Refused e) g = if is_fault e then g else []

abbrev pub heard : CurrentOpening → Call → Upshot → CurrentOpening
heard h c t = record h {
  tickets = moved_by h.tickets (mentions_of c);
  acked = h.acked ++ acked_by c.reply (group_in h c.command);
  pending = h.pending ++ pending_by c.reply (group_in h c.command);
  shown = t.shown;
}

-- the same for a group
abbrev pub acked_by_group : Result (List Reply) Refusal → List (List PlainChange) → List (List PlainChange)
acked_by_group (Ok replies) g = g
acked_by_group (Err e) g = []

abbrev pub pending_by_group : Result (List Reply) Refusal → List (List PlainChange) → List (List PlainChange)
pending_by_group (Ok replies) g = []
pending_by_group (Err e) g = if is_fault e then g else []

abbrev pub heard_group : CurrentOpening → List Command → Result (List Reply) Refusal → Upshot → CurrentOpening
heard_group h commands result t = record h {
  tickets = moved_by h.tickets (mentions_of_group commands result);
  acked = h.acked ++ acked_by_group result (group_all h commands);
  pending = h.pending ++ pending_by_group result (group_all h commands);
  shown = t.shown;
}

abbrev pub sighted : CurrentOpening → ℕ → ℕ → CurrentOpening
sighted h worker n = record h { sights = h.sights ++ (record { worker = worker; front = n }) ∷ [] }

abbrev pub next : State → Event → State
next (up h) (called c t) = up (heard h c t)
next (up h) (called_group commands result t) = up (heard_group h commands result t)
next (up h) (entered worker n) = up (sighted h worker n)
next (up h) (learned worker n) = up (sighted h worker n)
next (up h) (crashed doing n) = down (after h.base (flat (kept_groups h doing n)))
next (down d) (opened setting) = up (begun setting (raised d))
next (down d) (refused_opening rose) = down (if rose then raised d else d)
next st e = st

-- ---- which events are legal

-- what may replace the reply that is due: out of memory, if the command takes any; or, for a change, a device's fault, or that the change
-- is kept and not shown
abbrev pub StandsIn : CurrentOpening → Command → Bool → Reply → Reply → Type 0
StandsIn h c failed due (Refused Memory) = takes_memory (durable_of h) c ≡ true
StandsIn h c failed (Applied n o) (Refused Fault) = failed ≡ true
StandsIn h c failed (Applied n o) (Stored m p) = (m ≡ n) × (p ≡ o)
StandsIn h c failed due r = ⊥

abbrev pub LegalReply : CurrentOpening → Command → Reply → Bool → Type 0
LegalReply h c r failed = (r ≡ due h c) ⊎ StandsIn h c failed (due h c) r

abbrev pub shown_by_answer : Reported → ℕ → ℕ
shown_by_answer (Shown n) shown = n
shown_by_answer a shown = shown

-- a change that is answered `Applied` is shown with all before it, and a publish shows as many as it says; nothing else is shown
abbrev pub shown_by : Reply → ℕ → ℕ
shown_by (Answer a) shown = shown_by_answer a shown
shown_by (Applied n o) shown = n
shown_by (Stored n o) shown = shown
shown_by (Refused e) shown = shown

pub record LegalCall (h : CurrentOpening) (c : Call) (t : Upshot) : Type 0 where
  pub reply : LegalReply h c.command c.reply t.failed
  pub shown : t.shown ≡ shown_by c.reply h.shown

-- the reply to a change that is kept and not shown
abbrev pub as_stored : Reply → Reply
as_stored (Applied n o) = Stored n o
as_stored r = r

-- The same for a group: out of memory, unless it is refused before it takes any; or a device's fault, if there are changes to be kept; or
-- they are kept, and none of them is shown.
abbrev pub GroupStandsIn : CurrentOpening → List Command → Bool → Result (List Reply) Refusal → Result (List Reply) Refusal → Type 0
GroupStandsIn h commands failed due (Err Memory) = group_start h commands ≡ Ok tt
GroupStandsIn h commands failed (Ok replies) (Err Fault) = (failed ≡ true) × (group_all h commands ≢ [])
GroupStandsIn h commands failed (Ok replies) (Ok stored) = stored ≡ map as_stored replies
GroupStandsIn h commands failed due result = ⊥

abbrev pub LegalReplies : CurrentOpening → List Command → Result (List Reply) Refusal → Bool → Type 0
LegalReplies h commands result failed = (result ≡ due_group h commands) ⊎ GroupStandsIn h commands failed (due_group h commands) result

pub record LegalGroup (h : CurrentOpening) (commands : List Command) (result : Result (List Reply) Refusal) (t : Upshot) : Type 0 where
  pub reply : LegalReplies h commands result t.failed
  pub shown : t.shown ≡ fold (λ n r. shown_by r n) h.shown (replies_in result)

-- a worker never sees fewer changes than it saw or learnt of before
abbrev pub SawNoMore : List Sight → ℕ → ℕ → Type 0
SawNoMore [] worker n = ⊤
SawNoMore (s ∷ ss) worker n = (s.worker ≡ worker → s.front ≤ n) × SawNoMore ss worker n

-- the greatest epoch
abbrev pub last_epoch : ℕ
last_epoch = 4294967295

abbrev pub IsLegal : State → Event → Type 0
IsLegal (up h) (called c t) = LegalCall h c t
IsLegal (up h) (called_group commands result t) = LegalGroup h commands result t
IsLegal (up h) (entered worker n) = SawNoMore h.sights worker n × (n ≤ h.shown)
IsLegal (up h) (learned worker n) = n ≤ h.shown
IsLegal (up h) (crashed doing n) = ⊤
IsLegal (down d) (opened setting) = d.epoch < last_epoch
IsLegal (down d) (refused_opening rose) = rose ≡ true → d.epoch < last_epoch
IsLegal st e = ⊥

-- ---- worlds

abbrev pub state_after : State → List Event → State
state_after st world = fold next st world

abbrev pub IsLegalFrom : State → List Event → Type 0
IsLegalFrom st [] = ⊤
IsLegalFrom st (e ∷ es) = IsLegal st e × IsLegalFrom (next st e) es

-- events that are legal in turn, from what was held first
abbrev pub IsWorld : PlainDurable → List Event → Type 0
IsWorld first world = IsLegalFrom (down first) world
