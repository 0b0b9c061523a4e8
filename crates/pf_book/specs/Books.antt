-- What contracts see of an opened device and of a Book, and what an image of its device holds.
use Rattle.std.specs.Prelude.{◌≡◌, ◌⊎◌, ℕ, zero, suc, ◌+◌, ◌<◌, ◌≤◌, ◌^◌, Bool, true, false, nat_lt, List, [], ◌∷◌, ◌++◌, length, slice_get, sum, take, drop, map, flat_map, Vec, ⊤, Option, None, Result, Ok, Err}
use Rattle.std.specs.declared.alloc.Global.{Global}
use mathlib.Core.List.{IsPrefix}
use Rattle.logbook.specs.Pages.{Book}
use Rattle.pf_disk.specs.{Disk.IsImage, Runs.MayWrite, declared.disk.Disk.Ghosts}
use Rattle.pf_rule.specs.Packets.{PlainPacket}
use Rattle.pf_ticket.specs.{Laws.Tickets.IsWithin as AreTicketsWithin, Mentions.{after as moved_by, switches}}
use Rattle.pf_core.specs.declared.{command.Command.Command, command.Command.TheVariants.{Ask}, command.HistoryCommand.HistoryCommand, command.HistoryCommand.TheVariants.{Log, Publish}, command.Question.TheVariants.Judge, durable.verdict.Verdict.Verdict, reply.Refusal.Refusal, group.TheConstants.GROUP_LIMIT, reply.Refusal.TheVariants.{HistoryFull, Full, Fault, Memory}, reply.Reply.Reply, reply.Reply.TheVariants.{Answer, Applied, Stored, Refused}}
use Rattle.pf_core.specs.declared.reply.Answer.TheVariants as answer
use Rattle.pf_core.specs.{Calls.{Call, call}, Durable.Changes.{PlainDurable, PlainChange, after, voided_by, verdict}, Laws.{Durable.IsWithin, Openings.Leaves}, Nexts.{PlainNext, next_with}, WorldBooks.{WorldBook, IsAt, IsFolded}, Cores.PlainCore, Worlds.{Setting, CurrentOpening, Doing, flat, grouped, as_stored, is_fault, last_epoch, raised}}
use Rattle.pf_store.specs.declared.{store.fault.OpenFault.OpenFault, store.fault.OpenFault.TheVariants.Memory as OutOfMemory, store.fault.OpenFault.TheVariants.Places as Places}
use Rattle.pf_store.specs.{Openings.{IsNoLaterThan, LeavesRoom}, Rooms.on_device, Stores.{Holds, IsRoomy}, StoreKept.{Stands, PlainStore}}
use Rattle.pf_view.specs.Past.Pasts.{PlainFront, PlainTip, all_acked, no_changes}
use Rattle.pf_view.specs.Seers.{PlainShower, TableId}

-- ---- an opened device

-- the device; what it held, in the next epoch; how many bytes each of its banks has, and the generation of the one that counts; and its own
-- history
pub record PlainOpening (D : Type 0) : Type 0 where
  pub disk : D
  pub given : PlainDurable
  pub size : ℕ
  pub generation : ℕ
  pub history : Book

abbrev pub opening_of : {D : Type 0} → PlainStore D → PlainDurable → Book → PlainOpening D
opening_of store d history = record { disk = store.disk; given = d; size = store.size; generation = store.generation; history = history }

-- the device that the result of an opening has, wherever it has it
abbrev pub device_of : {D : Type 0} → Result (PlainOpening D) (OpenFault × D) → D
device_of (Ok o) = o.disk
device_of (Err e) = e.1

-- the limits of an opening whose history may have `limit` changes
abbrev pub setting_of : {D : Type 0} → PlainOpening D → ℕ → Setting
setting_of o limit = on_device limit o.size

-- These name an opening whose history may have `limit` changes: what it gave, its history, and its limits.
abbrev pub IsNamed : {D : Type 0} → PlainDurable → Book → Setting → PlainOpening D → ℕ → Type 0
IsNamed base history setting o limit = (o.given ≡ base) × (o.history ≡ history) × (setting_of o limit ≡ setting)

-- why no history began over an opened device: out of memory, or no place for what is shown
abbrev pub IsUnshown : OpenFault → Type 0
IsUnshown e = (e ≡ OutOfMemory) ⊎ (e ≡ Places)

-- `d` is what was kept before, in the next epoch
pub record IsRaised (d : PlainDurable) : Type 0 where
  pub before : PlainDurable
  pub raises : d ≡ raised before
  pub low : before.epoch < last_epoch

-- what its type keeps (its invariant)
pub record IsOpened {D : Type 0} (seen : D → List ℕ) (unsynced : D → ℕ → Bool) (store : PlainStore D) (d : PlainDurable) : Type 0 where
  pub goes_on : store.halted ≡ false
  pub stands : Stands seen unsynced store d
  pub early : store.generation ≤ 2 ^ 63
  pub images : (c : List ℕ) → IsImage (seen store.disk) (unsynced store.disk) c → Holds c d
  pub generations : (c : List ℕ) → IsImage (seen store.disk) (unsynced store.disk) c → IsNoLaterThan store.generation c
  pub roomy : IsRoomy store.size d → (c : List ℕ) → IsImage (seen store.disk) (unsynced store.disk) c → LeavesRoom c
  pub within : IsWithin d
  pub epoch : IsRaised d

-- what the type of a named opening keeps (its invariant): the device holds what the name says, and its history has no change
pub record IsBegun {D : Type 0} (seen : D → List ℕ) (unsynced : D → ℕ → Bool) (base : PlainDurable) (store : PlainStore D) (d : PlainDurable) (tip : PlainTip) (start : PlainFront) : Type 0 where
  pub opened : IsOpened seen unsynced store d
  pub base_is : d ≡ base
  pub tip_is : tip ≡ no_changes
  pub start_is : start ≡ all_acked []

-- ---- a Book

-- a list cut into groups of these sizes, one after the other
abbrev pub cut : List ℕ → List PlainChange → List (List PlainChange)
cut [] es = []
cut (n ∷ sizes) es = take n es ∷ cut sizes (drop n es)

-- What contracts see of a Book: its device; what its opening gave; its core; the groups of changes that were acknowledged, and the one, if
-- any, that wasn't; how many changes it may have, how many bytes each bank of its device has, and the generation of the bank that counts;
-- how many changes are shown, the copy that shows them, and the copies to which they are published.
pub record PlainBook (D : Type 0) : Type 0 where
  pub disk : D
  pub base : PlainDurable
  pub whole : PlainCore
  pub acked : List (List PlainChange)
  pub pending : List (List PlainChange)
  pub limit : ℕ
  pub size : ℕ
  pub generation : ℕ
  pub shown : ℕ
  pub published : PlainDurable
  pub copies : TableId

-- what a world's laws see of it, with its limits
abbrev pub world_book : {D : Type 0} → PlainBook D → WorldBook
world_book b = record {
  base = b.base;
  whole = b.whole;
  acked = b.acked;
  pending = b.pending;
  setting = on_device b.limit b.size;
  shown = b.shown;
  published = b.published;
}

-- What a Book's fields hold: the store of its device; what its opening gave; its core, and what that keeps, shared; the changes since the
-- opening, of which the first `acked` were acknowledged, in groups of these `sizes`, and the first `offered` were offered to be shown (what
-- comes after the acknowledged ones, if anything, is one group); how many changes it may have; what is shown; and the history with its
-- acknowledged part.
pub record BookParts (D : Type 0) : Type 0 where
  pub store : PlainStore D
  pub base : PlainDurable
  pub whole : PlainCore
  pub durable : PlainDurable
  pub log : List PlainChange
  pub sizes : List ℕ
  pub acked : ℕ
  pub offered : ℕ
  pub limit : ℕ
  pub shower : PlainShower
  pub tip : PlainTip
  pub front : PlainFront

-- the parts, by the fields in their order
abbrev pub parts_of : {D : Type 0} → PlainStore D → (base : PlainDurable) → PlainCore → PlainDurable → List PlainChange → List ℕ → (acked offered limit : ℕ) → PlainShower → PlainTip → (front : PlainFront) → BookParts D
parts_of store base whole durable log sizes acked offered limit shower tip front = record {
  store = store;
  base = base;
  whole = whole;
  durable = durable;
  log = log;
  sizes = sizes;
  acked = acked;
  offered = offered;
  limit = limit;
  shower = shower;
  tip = tip;
  front = front;
}

-- what contracts see of a Book with these parts
abbrev pub book_of : {D : Type 0} → BookParts D → PlainBook D
book_of p = record {
  disk = p.store.disk;
  base = p.base;
  whole = p.whole;
  acked = cut p.sizes p.log;
  pending = grouped (drop p.acked p.log);
  limit = p.limit;
  size = p.store.size;
  generation = p.store.generation;
  shown = length p.shower.shown;
  published = after p.base p.shower.shown;
  copies = p.shower.copies;
}

-- and what a world's laws see of it
abbrev pub world_book_of : {D : Type 0} → BookParts D → WorldBook
world_book_of p = world_book (book_of p)

-- The image holds the fold of a front of the history that has all that was acknowledged and cuts no group.
abbrev pub HoldsFront : WorldBook → List ℕ → Type 0
HoldsFront b image = (n : ℕ) × Holds image (after b.base (flat (b.acked ++ take n b.pending)))

-- The image holds what some crash leaves of the opening, in the middle of `doing`.
abbrev pub HoldsLeft : CurrentOpening → Doing → List ℕ → Type 0
HoldsLeft h doing image = (d : PlainDurable) × Holds image d × Leaves h doing d

-- The same of each opening that the Book is at.
pub record IsLeft (b : WorldBook) (doing : Doing) (image : List ℕ) : Type 0 where
  pub left : (h : CurrentOpening) → IsAt h b → HoldsLeft h doing image

-- what a Book's type keeps (its invariant)
pub record IsBook {D : Type 0} (seen : D → List ℕ) (unsynced : D → ℕ → Bool) (p : BookParts D) : Type 0 where
  pub folded : IsFolded (world_book_of p)
  -- so whatever a command wants can be written as bytes, if the device has room for them
  pub tickets : AreTicketsWithin p.whole.tickets
  pub log_is : p.tip.front ≡ p.log
  pub acked_is : p.tip.acked ≡ p.acked
  pub front_is : p.front ≡ all_acked (take p.acked p.log)
  -- the groups have as many changes as were acknowledged
  pub cuts : sum p.sizes ≡ p.acked
  pub low : p.acked ≤ length p.log
  -- at most one group comes after them
  pub high : length p.log ≤ p.acked + GROUP_LIMIT
  pub halted : p.store.halted ≡ nat_lt p.acked (length p.log)
  pub stands : p.store.halted ≡ false → Stands seen unsynced p.store p.whole.durable
  -- each group has a change, and raises the bank's generation by at most one
  pub early : p.store.halted ≡ false → p.store.generation ≤ 2 ^ 63 + length p.log
  pub limit : p.limit ≤ 2 ^ 20
  pub few : length p.log ≤ p.limit
  pub images : (c : List ℕ) → IsImage (seen p.store.disk) (unsynced p.store.disk) c → HoldsFront (world_book_of p) c
  pub generations : (c : List ℕ) → IsImage (seen p.store.disk) (unsynced p.store.disk) c → IsNoLaterThan (p.store.generation + 1) c
  -- an opening finds room, if it would in what the last one gave
  pub roomy : IsRoomy p.store.size p.base → (c : List ℕ) → IsImage (seen p.store.disk) (unsynced p.store.disk) c → LeavesRoom c
  pub offered_low : p.offered ≤ p.acked
  pub offered_is : p.shower.offered ≡ take p.offered p.log
  pub shown_is : IsPrefix p.shower.shown p.shower.offered
  -- the history notes how much is shown
  pub noted : p.tip.shown ≡ length p.shower.shown
  pub latest : p.durable ≡ p.whole.durable

-- ---- what a call leaves

-- the changes since the opening
abbrev pub log_in : WorldBook → List PlainChange
log_in b = flat (b.acked ++ b.pending)

-- the change with this number, from 1 on
abbrev pub change_in : List PlainChange → ℕ → Option PlainChange
change_in log zero = None
change_in log (suc n) = slice_get log n

-- the replies to a group as a list, or its refusal
abbrev pub listed : Result (Vec Reply Global) Refusal → Result (List Reply) Refusal
listed (Ok replies) = Ok replies.items
listed (Err e) = Err e

-- the same where more comes with the replies
abbrev pub replied : {X : Type 0} → Result (Vec Reply Global × X) Refusal → Result (List Reply) Refusal
replied (Ok reported) = Ok reported.0.items
replied (Err e) = Err e

-- what changes, one after the other, make of what is kept, and the tickets that all of them void
abbrev pub left_together : PlainDurable → List PlainChange → PlainNext
left_together d es = next_with (after d es) (flat_map voided_by es)

-- there is room for these changes together: the history doesn't get too many, and the device isn't full
pub record BookHasRoom (b : WorldBook) (es : List PlainChange) : Type 0 where
  pub few : length (flat b.acked) + length es ≤ b.setting.limit
  pub device : b.setting.is_full b.base b.acked es ≡ false

-- why there is no room: the history would get too many, or else the device is full
abbrev pub HasNoRoom : Refusal → WorldBook → List PlainChange → Type 0
HasNoRoom HistoryFull b es = b.setting.limit < length (flat b.acked) + length es
HasNoRoom Full b es = (length (flat b.acked) + length es ≤ b.setting.limit) × (b.setting.is_full b.base b.acked es ≡ true)
HasNoRoom why b es = ⊥

-- these changes were kept as one group
pub record IsMore (old new : WorldBook) (es : List PlainChange) : Type 0 where
  pub room : BookHasRoom old es
  pub base : new.base ≡ old.base
  pub tickets : new.whole.tickets ≡ moved_by old.whole.tickets (switches (flat_map voided_by es))
  pub acked : new.acked ≡ old.acked ++ grouped es
  pub pending : new.pending ≡ old.pending
  pub setting : new.setting ≡ old.setting
  pub shown : new.shown ≡ old.shown

-- the device failed while these changes were being kept
pub record IsPending (old new : WorldBook) (es : List PlainChange) : Type 0 where
  pub room : BookHasRoom old es
  pub same : new ≡ record old { pending = grouped es }

-- why changes that fit weren't kept, and what that leaves
abbrev pub IsUnkept : Refusal → WorldBook → WorldBook → List PlainChange → Type 0
IsUnkept Memory old new es = (new ≡ old) × BookHasRoom old es
IsUnkept Fault old new es = IsPending old new es
IsUnkept why old new es = (new ≡ old) × HasNoRoom why old es

-- the same, with all that was acknowledged shown
abbrev pub shows_all : WorldBook → WorldBook
shows_all b = record b { shown = length (flat b.acked); published = after b.base (flat b.acked) }

-- the device failed in the call that got this reply
abbrev pub is_fault_reply : Reply → Bool
is_fault_reply (Answer a) = false
is_fault_reply (Applied n o) = false
is_fault_reply (Stored n o) = false
is_fault_reply (Refused e) = is_fault e

abbrev pub is_fault_result : {T : Type 0} → Result T Refusal → Bool
is_fault_result (Ok x) = false
is_fault_result (Err e) = is_fault e

-- a change's number is how many changes were acknowledged by then
abbrev pub IsNumbered : Reply → WorldBook → Type 0
IsNumbered (Answer a) new = ⊤
IsNumbered (Applied seq outcome) new = seq ≡ length (flat new.acked)
IsNumbered (Stored seq outcome) new = seq ≡ length (flat new.acked)
IsNumbered (Refused e) new = ⊤

-- The numbers of these replies' changes go up one by one from `n` + 1 to `m`.
abbrev pub AreNumbered : List Reply → ℕ → ℕ → Type 0
AreNumbered [] n m = n ≡ m
AreNumbered (Answer a ∷ replies) n m = AreNumbered replies n m
AreNumbered (Applied seq outcome ∷ replies) n m = (seq ≡ n + 1) × AreNumbered replies (n + 1) m
AreNumbered (Stored seq outcome ∷ replies) n m = (seq ≡ n + 1) × AreNumbered replies (n + 1) m
AreNumbered (Refused e ∷ replies) n m = AreNumbered replies n m

-- a packet is always judged, and by what is kept
abbrev pub IsJudged : PlainDurable → Command → Reply → Type 0
IsJudged d (Ask (Judge packet)) r = r ≡ Answer (answer.Judged (verdict d packet))
IsJudged d c r = ⊤

-- the call that asks what happens to a packet, with this answer
abbrev pub judging : PlainPacket → Verdict → Call
judging packet v = call (Ask (Judge packet)) (Answer (answer.Judged v))

-- If a command is refused nothing changes, unless the device failed: then a group is pending, and nothing else has changed.
pub record Stays {D : Type 0} (e : Refusal) (old new : PlainBook D) : Type 0 where
  pub same : is_fault e ≡ false → (world_book new ≡ world_book old) × (new.disk ≡ old.disk)
  pub pending : is_fault e ≡ true → (group : List PlainChange) × (world_book new ≡ record (world_book old) { pending = group ∷ [] })

-- An image during a call: P, by the next generation at the latest, and with room for an opening if what the last one gave leaves it.
pub record IsOfCall {D : Type 0} (old : PlainBook D) (P : List ℕ → Type 0) (image : List ℕ) : Type 0 where
  pub holds : P image
  pub early : IsNoLaterThan (old.generation + 1) image
  pub roomy : IsRoomy old.size old.base → LeavesRoom image

-- What a call leaves of the device, which failed in it or didn't: at most ten moments later each image is one of the call; and the bank's
-- generation stays or is one greater, and banks have as many bytes as before.
pub record UsesDevice {D : Type 0} (device : Ghosts D) (failed : Bool) (old new : PlainBook D) (P : List ℕ → Type 0) : Type 0 where
  pub run : MayWrite device old.disk new.disk 10 failed (IsOfCall old P)
  pub stays : old.generation ≤ new.generation
  pub one_more : new.generation ≤ old.generation + 1
  pub size : new.size ≡ old.size

-- a Book of the same opening, with the same limits
pub record KeepsOpening {D : Type 0} (old new : PlainBook D) : Type 0 where
  pub base : new.base ≡ old.base
  pub setting : (world_book new).setting ≡ (world_book old).setting

-- Each image of the device has the next generation at the latest, and leaves room for an opening if what the last one gave does.
pub record IsOpenable {D : Type 0} (seen : D → List ℕ) (unsynced : D → ℕ → Bool) (b : PlainBook D) : Type 0 where
  pub generations : (c : List ℕ) → IsImage (seen b.disk) (unsynced b.disk) c → IsNoLaterThan (b.generation + 1) c
  pub roomy : IsRoomy b.size b.base → (c : List ℕ) → IsImage (seen b.disk) (unsynced b.disk) c → LeavesRoom c

-- No call of the device is made for an answer without a change, nor for a refusal other than a fault.
abbrev pub StaysUnlessKept : {D : Type 0} → Reply → PlainBook D → PlainBook D → Type 0
StaysUnlessKept (Answer a) old new = new.disk ≡ old.disk
StaysUnlessKept (Applied seq outcome) old new = ⊤
StaysUnlessKept (Stored seq outcome) old new = ⊤
StaysUnlessKept (Refused e) old new = Stays e old new

-- The same of a group: if none of its commands wants a change all is as before, and no call of the device is made.
abbrev pub StaysUnlessAnyKept : {D : Type 0} → Result (List Reply) Refusal → PlainBook D → PlainBook D → Type 0
StaysUnlessAnyKept (Ok replies) old new = new.acked ≡ old.acked → (world_book new ≡ world_book old) × (new.disk ≡ old.disk)
StaysUnlessAnyKept (Err e) old new = Stays e old new

-- ---- what changes come to, and what is asked of the history

-- Changes were kept as one group, and are shown with all before them or not; or why they weren't kept.
abbrev pub AreKept : Result Bool Refusal → List PlainChange → WorldBook → WorldBook → Type 0
AreKept (Ok true) es old new = (kept : WorldBook) × IsMore old kept es × (new ≡ shows_all kept)
AreKept (Ok false) es old new = IsMore old new es
AreKept (Err why) es old new = IsUnkept why old new es

-- the same where the changes come with it
abbrev pub shown_with : {X : Type 0} → Result (X × Bool) Refusal → Result Bool Refusal
shown_with (Ok r) = Ok r.1
shown_with (Err e) = Err e

-- what is told of changes to which these replies are due
abbrev pub reported_after : Result Bool Refusal → List Reply → Result (List Reply) Refusal
reported_after (Ok true) due = Ok due
reported_after (Ok false) due = Ok (map as_stored due)
reported_after (Err e) due = Err e

-- `log`: how many changes there are, were acknowledged and are shown. `publish`: all that was acknowledged is shown, unless out of memory.
abbrev pub AnswersHistory : HistoryCommand → Reply → WorldBook → WorldBook → Type 0
AnswersHistory Log r old new = (new ≡ old) × (r ≡ Answer (answer.Logged (length (log_in old)) (length (flat old.acked)) old.shown))
AnswersHistory Publish r old new =
    ((r ≡ Answer (answer.Shown (length (flat old.acked)))) × (new ≡ shows_all old)) ⊎ ((r ≡ Refused Memory) × (new ≡ old))
