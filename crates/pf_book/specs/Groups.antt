-- What the receipts of a group say, and what a group is answered under the lock.
use Rattle.std.specs.Prelude.{◌≡◌, ◌⊎◌, ℕ, List, [], ◌∷◌, ◌++◌, length, slice_get, map, nat_lt, All, Vec, ⊤, Option, Result, Ok, Err}
use Rattle.std.specs.declared.alloc.Global.{Global}
use Rattle.pf_core.specs.declared.{command.Command.Command, reply.Refusal.Refusal, reply.Reply.Reply}
use Rattle.pf_core.specs.{Durable.Changes.{PlainDurable, PlainChange}, Laws.Groups.{AreInTurn, dues_one_by_one}, WorldBooks.{IsAt, LeadsGroup}, Worlds.{Setting, CurrentOpening, Upshot, upshot, grouping, Event, up, down, called_group, flat, log_of, amid, as_stored, changes_of, changes_with, step_in, heard_group, state_after, IsWorld}}
use Rattle.pf_disk.specs.declared.disk.Disk.{Ghosts}
use Rattle.pf_book.specs.Books.{IsLeft, KeepsOpening, PlainBook, StaysUnlessAnyKept, UsesDevice, is_fault_result, log_in, world_book}
use Rattle.pf_book.specs.Receipts.{PlainReceipt, token_of, Follows, ShowsNoLess}

-- a reply with its receipt
abbrev pub Answered : Type 0
Answered = Reply × PlainReceipt

-- the replies alone, or the refusal of the whole group
abbrev pub replies_of : Result (List Answered) Refusal → Result (List Reply) Refusal
replies_of (Ok answers) = Ok (map (λ a. a.0) answers)
replies_of (Err e) = Err e

-- The receipt of a command in a group, after which `shown` is the whole history: its front has the changes of the group up to the command's
-- own and with it, and all of them are acknowledged.
pub record IsAnsweredAmid (h : CurrentOpening) (c : Command) (shown : List PlainChange) (r : Reply) (slip : PlainReceipt) : Type 0 where
  pub front : slip.front ≡ log_of h ++ changes_of (step_in h c)
  pub acked : slip.acked ≡ length slip.front
  pub change : slip.change ≡ slice_get (changes_of (step_in h c)) 0
  pub token : slip.token ≡ token_of r shown

-- the receipt of each command in turn, after the `changes` that the group wants so far
abbrev pub AreAnswered : CurrentOpening → List PlainChange → List PlainChange → List Command → List Answered → Type 0
AreAnswered h shown changes [] answers = answers ≡ []
AreAnswered h shown changes (c ∷ cs) [] = ⊥
AreAnswered h shown changes (c ∷ cs) (a ∷ answers) =
    IsAnsweredAmid (amid h changes) c shown a.0 a.1 × AreAnswered h shown (changes_with h changes c) cs answers

-- a group that is refused whole has no receipt
abbrev pub HasReceipts : CurrentOpening → List PlainChange → List Command → Result (List Answered) Refusal → Type 0
HasReceipts h shown commands (Ok answers) = AreAnswered h shown [] commands answers
HasReceipts h shown commands (Err e) = ⊤

-- so many changes were shown at each reply
abbrev pub HaveShown : ℕ → Result (List Answered) Refusal → Type 0
HaveShown n (Ok answers) = All (λ a. a.1.shown ≡ n) answers
HaveShown n (Err e) = ⊤

-- a group's result as a list
abbrev pub result_list : {X : Type 0} → Result (Vec X Global) Refusal → Result (List X) Refusal
result_list (Ok answers) = Ok answers.items
result_list (Err e) = Err e

-- What a Book answers a group, and what that leaves of the Book and of its device.
pub record IsGroupCall {D : Type 0} (device : Ghosts D) (old new : PlainBook D) (commands : List Command) (result : Result (List Reply) Refusal) : Type 0 where
  pub leads : (h : CurrentOpening) → IsAt h (world_book old)
      → LeadsGroup h (world_book new) commands result (upshot new.shown (nat_lt (device.fault_count old.disk) (device.fault_count new.disk)))
  -- at each moment of it an image holds what some crash within it leaves of the opening
  pub uses : UsesDevice device (is_fault_result result) old new (IsLeft (world_book old) (grouping commands))
  pub stays : StaysUnlessAnyKept result old new
  pub opening : KeepsOpening old new

-- The same, each reply with its receipt.
pub record IsGroupOf {D : Type 0} (device : Ghosts D) (old new : PlainBook D) (commands : List Command) (result : Result (List Answered) Refusal) : Type 0 where
  pub call : IsGroupCall device old new commands (replies_of result)
  pub receipts : (h : CurrentOpening) → IsAt h (world_book old) → HasReceipts h (log_in (world_book new)) commands result
  pub shown : HaveShown new.shown result

-- If the group was kept, its commands were due the replies that they would have been due one by one.
abbrev pub AreDueAsAlone : CurrentOpening → List Command → Result (List Answered) Refusal → Type 0
AreDueAsAlone h commands (Ok answers) = AreInTurn h commands
AreDueAsAlone h commands (Err e) = ⊤

-- Such a group, in which each command got the reply that it would have got by itself after those before it.
pub record IsGroupAsAlone {D : Type 0} (device : Ghosts D) (old new : PlainBook D) (commands : List Command) (result : Result (List Answered) Refusal) : Type 0 where
  pub group : IsGroupOf device old new commands result
  pub in_turn : (h : CurrentOpening) → IsAt h (world_book old) → AreDueAsAlone h commands result

-- What a group under the lock is answered, each reply with its receipt, or refused whole; the caller may have handed in a receipt. There is
-- a world whose last event is this group.
pub record IsGroupAnswered (base : PlainDurable) (setting : Setting) (commands : List Command) (result : Result (List Answered) Refusal) (last : Option PlainReceipt) : Type 0 where
  pub first : PlainDurable
  pub world : List Event
  -- the opening as it was when the group began
  pub before : CurrentOpening
  pub came : Upshot
  pub comes : state_after (down first) world ≡ up before
  pub base_is : before.base ≡ base
  pub setting_is : before.setting ≡ setting
  pub legal : IsWorld first (world ++ called_group commands (replies_of result) came ∷ [])
  pub receipts : HasReceipts before (log_of (heard_group before commands (replies_of result) came)) commands result
  pub shown : HaveShown came.shown result
  -- the history before the group begins with the front of the receipt that was handed in, and what that has as acknowledged is so
  pub follows : Follows last (log_of before) (length (flat before.acked))
  -- before the group no fewer changes were shown than that receipt says
  pub shows : ShowsNoLess last before.shown

-- The same of a group in which each command got the reply that it would have got by itself after those before it.
pub record IsAnsweredAsAlone (base : PlainDurable) (setting : Setting) (commands : List Command) (result : Result (List Answered) Refusal) (last : Option PlainReceipt) : Type 0 where
  pub group : IsGroupAnswered base setting commands result last
  pub in_turn : AreDueAsAlone group.before commands result

-- These are the replies that the commands are due one by one, each in a call of its own; or all of these, if out of memory for showing, with
-- `Stored` in place of `Applied`.
abbrev pub AreAsAlone : CurrentOpening → List Command → List Reply → Type 0
AreAsAlone h commands replies = (replies ≡ dues_one_by_one h commands) ⊎ (replies ≡ map as_stored (dues_one_by_one h commands))
