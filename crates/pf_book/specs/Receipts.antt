-- What the receipt of a reply says, and what a call is answered under the lock.
use Rattle.std.specs.{Prelude.{◌≡◌, ℕ, ◌<◌, ◌≤◌, List, [], ◌∷◌, ◌++◌, length, min, nat_lt, take, ⊤, Option, None, Some, IfSome}, Option.ForSome}
use mathlib.Core.List.{IsPrefix}
use Rattle.pf_core.specs.declared.{command.Command.Command, reply.Reply.Reply, reply.Reply.TheVariants.{Answer, Applied, Stored, Refused}}
use Rattle.pf_core.specs.{Calls.call, Durable.Changes.{PlainDurable, PlainChange}, WorldBooks.{WorldBook, IsAt, Leads, StandsFor}, Worlds.{Setting, CurrentOpening, Upshot, upshot, Event, up, down, called, calling, flat, log_of, group_in, heard, state_after, IsWorld}}
use Rattle.pf_disk.specs.declared.disk.Disk.{Ghosts}
use Rattle.pf_view.specs.Past.Pasts.{PlainFront}
use Rattle.pf_view.specs.Seers.{PlainSeer, learns}
use Rattle.pf_book.specs.Books.{IsJudged, IsLeft, IsNumbered, KeepsOpening, PlainBook, StaysUnlessKept, UsesDevice, change_in, is_fault_reply, log_in, world_book}

-- ---- receipts

-- A receipt: all changes that the history had at the reply, how many of them were acknowledged, and how many were shown; the change that
-- the call made, if it was kept; and after `Applied` the changes that were shown then.
pub record PlainReceipt : Type 0 where
  pub front : List PlainChange
  pub acked : ℕ
  pub shown : ℕ
  pub change : Option PlainChange
  pub token : Option (List PlainChange)

-- the change is the last of the front
abbrev pub EndsIn : List PlainChange → PlainChange → Type 0
EndsIn front e = (rest : List PlainChange) × (front ≡ rest ++ e ∷ [])

-- what a receipt's type keeps (its invariant): its front is the first `seq` changes of `past`, and so many changes were `showing`
pub record IsReceipt (past : PlainFront) (seq : ℕ) (change : Option PlainChange) (showing shown : ℕ) : Type 0 where
  pub within : seq ≤ length past.front
  pub last : ForSome change (λ e. EndsIn (take seq past.front) e)
  pub acked : ForSome change (λ e. seq ≤ past.acked)
  pub shown_is : shown ≡ showing

-- The history has at least as many changes as the receipt says, and under this number the receipt's change, if it has one.
abbrev pub Confirms : List PlainChange → PlainReceipt → Type 0
Confirms log slip = (length slip.front ≤ length log) × IfSome slip.change (λ e. change_in log (length slip.front) ≡ Some e)

-- ---- replies with receipts

-- after `Applied` a token of the whole history at the reply, else none
abbrev pub token_of : Reply → List PlainChange → Option (List PlainChange)
token_of (Answer a) log = None
token_of (Applied seq outcome) log = Some log
token_of (Stored seq outcome) log = None
token_of (Refused e) log = None

-- what a seer knows after it has learnt a token, if there is one
abbrev pub learns_from : Option (List PlainChange) → PlainSeer → PlainSeer
learns_from None known = known
learns_from (Some token) known = learns token known

-- the change was kept and acknowledged after all others
pub record IsAdded (change : Option PlainChange) (old new : WorldBook) : Type 0 where
  pub made : PlainChange
  pub is : change ≡ Some made
  pub acked : new.acked ≡ old.acked ++ (made ∷ []) ∷ []
  pub none_before : old.pending ≡ []
  pub none_after : new.pending ≡ []

-- the change that a call gives for its receipt
abbrev pub IsGiven : Reply → Option PlainChange → WorldBook → WorldBook → Type 0
IsGiven (Answer a) change old new = change ≡ None
IsGiven (Applied seq outcome) change old new = IsAdded change old new
IsGiven (Stored seq outcome) change old new = IsAdded change old new
IsGiven (Refused e) change old new = change ≡ None

-- after `Applied` all changes are shown
abbrev pub ShownFits : Reply → ℕ → ℕ → Type 0
ShownFits (Answer a) shown all = ⊤
ShownFits (Applied seq outcome) shown all = shown ≡ all
ShownFits (Stored seq outcome) shown all = ⊤
ShownFits (Refused e) shown all = ⊤

-- What a Book answers a call, with the change that it gives for the receipt, and what that leaves of the Book and of its device.
pub record IsCall {D : Type 0} (device : Ghosts D) (old new : PlainBook D) (c : Command) (r : Reply) (change : Option PlainChange) : Type 0 where
  pub leads : (h : CurrentOpening) → IsAt h (world_book old)
      → Leads h (world_book new) (call c r) (upshot new.shown (nat_lt (device.fault_count old.disk) (device.fault_count new.disk)))
  -- at each moment of it an image holds what some crash within it leaves of the opening
  pub uses : UsesDevice device (is_fault_reply r) old new (IsLeft (world_book old) (calling c))
  pub given : IsGiven r change (world_book old) (world_book new)
  pub numbered : IsNumbered r (world_book new)
  pub judged : IsJudged old.whole.durable c r
  pub stays : StaysUnlessKept r old new
  pub opening : KeepsOpening old new

-- the receipt of a reply after which the history has `n` changes
abbrev pub receipt_of : WorldBook → ℕ → Option PlainChange → Reply → PlainReceipt
receipt_of b n change r = record { front = take n (log_in b); acked = min n (length (flat b.acked)); shown = b.shown; change = change; token = token_of r (log_in b) }

-- The history begins with the front of the receipt that was handed in, if any. What was acknowledged at its reply still is, and so is the
-- receipt's change, if it has one.
abbrev pub Follows : Option PlainReceipt → List PlainChange → ℕ → Type 0
Follows last log acked = ForSome last (λ l. IsPrefix l.front log × (l.acked ≤ acked) × ForSome l.change (λ e. length l.front ≤ acked))

-- Where the receipt is handed in, if there is one, so many changes are shown, which are no fewer than at its reply.
abbrev pub ShowsNoLess : Option PlainReceipt → ℕ → Type 0
ShowsNoLess last shown = ForSome last (λ l. l.shown ≤ shown)

-- what a Book finds that is handed a receipt, or none
pub record TakesUp (last : Option PlainReceipt) (b : WorldBook) : Type 0 where
  pub follows : Follows last (log_in b) (length (flat b.acked))
  pub shows : ShowsNoLess last b.shown

-- One receipt comes after another: its front begins with that of the other, and is longer if the receipt has a change. No fewer changes
-- were acknowledged and shown at its reply.
pub record ComesAfter (last slip : PlainReceipt) : Type 0 where
  pub begins : IsPrefix last.front slip.front
  pub longer : ForSome slip.change (λ e. length last.front < length slip.front)
  pub acked : last.acked ≤ slip.acked
  pub shown : last.shown ≤ slip.shown

-- a reply's number is that of its receipt, and so many changes were acknowledged then
abbrev pub IsNumberOf : Reply → PlainReceipt → Type 0
IsNumberOf (Answer a) slip = ⊤
IsNumberOf (Applied seq outcome) slip = (seq ≡ length slip.front) × (seq ≡ slip.acked)
IsNumberOf (Stored seq outcome) slip = (seq ≡ length slip.front) × (seq ≡ slip.acked)
IsNumberOf (Refused e) slip = ⊤

-- ---- under the lock

-- it stands for some world, in an opening that gave `base` and has the limits `setting`
pub record IsReached (base : PlainDurable) (setting : Setting) (b : WorldBook) : Type 0 where
  pub base_is : b.base ≡ base
  pub setting_is : b.setting ≡ setting
  pub first : PlainDurable
  pub world : List Event
  pub stands : StandsFor first b world

-- The receipt's change is the one that was due to the command, by what was acknowledged before, and the last of its front.
pub record IsLast (h : CurrentOpening) (c : Command) (slip : PlainReceipt) : Type 0 where
  pub made : PlainChange
  pub is : slip.change ≡ Some made
  pub due : group_in h c ≡ (made ∷ []) ∷ []
  pub last : slip.front ≡ log_of h ++ made ∷ []

-- after `Applied` and `Stored` a receipt has a change, else none
abbrev pub IsChangeOf : Reply → CurrentOpening → Command → PlainReceipt → Type 0
IsChangeOf (Answer a) h c slip = slip.change ≡ None
IsChangeOf (Applied seq outcome) h c slip = IsLast h c slip
IsChangeOf (Stored seq outcome) h c slip = IsLast h c slip
IsChangeOf (Refused e) h c slip = slip.change ≡ None

-- What a call under the lock is answered, with its receipt; the caller may have handed in a receipt. There is a world whose last event is
-- this call.
pub record IsAnswered (base : PlainDurable) (setting : Setting) (c : Command) (r : Reply) (slip : PlainReceipt) (last : Option PlainReceipt) : Type 0 where
  pub first : PlainDurable
  pub world : List Event
  -- the opening as it was when the call began
  pub before : CurrentOpening
  pub came : Upshot
  pub comes : state_after (down first) world ≡ up before
  pub base_is : before.base ≡ base
  pub setting_is : before.setting ≡ setting
  pub legal : IsWorld first (world ++ called (call c r) came ∷ [])
  -- the receipt's front is the history after the call, with as many acknowledged changes
  pub front : slip.front ≡ log_of (heard before (call c r) came)
  pub acked : slip.acked ≡ length (flat (heard before (call c r) came).acked)
  pub shown : slip.shown ≡ came.shown
  pub change : IsChangeOf r before c slip
  pub token : slip.token ≡ token_of r slip.front
  -- the history before the call begins with the front of the receipt that was handed in, and what that has as acknowledged is so
  pub follows : Follows last (log_of before) (length (flat before.acked))
  -- before the call no fewer changes were shown than that receipt says
  pub shows : ShowsNoLess last before.shown
