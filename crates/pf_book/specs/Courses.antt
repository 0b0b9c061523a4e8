-- What the commands of a group come to, one after the other, before anything is kept.
use Rattle.std.specs.{Prelude.{◌≡◌, ◌≢◌, ℕ, ◌+◌, ◌≤◌, Bool, false, List, [], ◌∷◌, ◌++◌, length, true, ⊤, Option, None, Some, Result, Ok, Err}, List.list_all}
use Rattle.pf_core.specs.declared.{command.Command.Command, reply.Refusal.Refusal, reply.Refusal.TheVariants.Memory, reply.Reply.Reply, step.ReadyStep.ReadyStep}
use Rattle.pf_core.specs.declared.step.ReadyStep.TheVariants as made
use Rattle.pf_core.specs.{Commands.group_words, Durable.Changes.{PlainDurable, PlainChange, applied, after}, WorldBooks.{WorldBook, IsFolded}, Nexts.{PlainNext, next_with}, Cores.{PlainCore, plain}, Worlds.{CurrentOpening, changes_due, changes_of, durable_of, flat, is_fault, log_of, replies_due, reply_to}}
use Rattle.pf_disk.specs.declared.disk.Disk.{Ghosts}
use Rattle.pf_store.specs.{Groups.{can_be_wanted, is_group, made_all}, Stores.{FindsRoom, FollowInTurn, HoldsEither}}
use Rattle.pf_book.specs.Books.{AreKept, PlainBook, UsesDevice, is_fault_result, left_together, world_book}

-- in this opening nothing is pending, the core is `w`, and `acked` changes were acknowledged
pub record IsCalm (h : CurrentOpening) (w : PlainCore) (acked : ℕ) : Type 0 where
  pub tickets : h.tickets ≡ w.tickets
  pub durable : durable_of h ≡ w.durable
  pub number : length (flat h.acked) ≡ acked
  pub none : h.pending ≡ []

-- what these changes leave, if there are any
abbrev pub ready_of : PlainDurable → List PlainChange → Option PlainNext
ready_of d [] = None
ready_of d (e ∷ es) = Some (left_together d (e ∷ es))

-- what the next command finds: what the changes so far leave, or without any what is kept
abbrev pub found_by : PlainDurable → Option PlainNext → PlainNext
found_by d None = next_with d []
found_by d (Some n) = n

-- and what it leaves to the commands after it: something new if it wants a change
abbrev pub left_to : Result ReadyStep Refusal → Option PlainNext → Option PlainNext
left_to (Ok (made.Wants e n o)) before = Some n
left_to step before = before

-- A step was taken after these replies and changes, of which the last left `left`: its reply was told, its change noted, and what all leave
-- is known.
pub record HasTaken (acked : ℕ) (step : Result ReadyStep Refusal) (reported reported' : List Reply) (noted noted' : List PlainChange) (left left' : Option PlainNext) : Type 0 where
  pub replies : (h : CurrentOpening) → length (log_of h) ≡ acked + length noted → reported' ≡ reported ++ reply_to h (plain step) ∷ []
  pub changes : noted' ≡ noted ++ changes_of (plain step)
  pub next : left' ≡ left_to step left
  pub known : plain step ≢ Err Memory

-- What the commands come to in a calm opening: the replies and the changes that are due, and what these leave. The changes can be kept as one
-- group.
pub record IsCourseOf (w : PlainCore) (acked : ℕ) (commands : List Command) (due : List Reply) (es : List PlainChange) (left : Option PlainNext) : Type 0 where
  pub replies : (h : CurrentOpening) → IsCalm h w acked → due ≡ replies_due h [] commands
  pub changes : (h : CurrentOpening) → IsCalm h w acked → es ≡ changes_due h [] commands
  pub next : left ≡ ready_of w.durable es
  pub fit : FollowInTurn w.durable (made_all es)
  pub wanted : list_all can_be_wanted es ≡ true
  pub few : length es ≤ length commands

-- A group may begin: nothing is pending, and its commands are as many, and of such kinds, as a group may have. This is what they come to.
pub record IsPlanned (b : WorldBook) (commands : List Command) (due : List Reply) (es : List PlainChange) (left : Option PlainNext) : Type 0 where
  pub folded : IsFolded b
  pub none : b.pending ≡ []
  pub words : group_words commands ≡ Ok tt
  pub course : IsCourseOf b.whole (length (flat b.acked)) commands due es left

-- ---- keeping changes

-- Changes that the core wants can be kept as one group, since nothing is pending. This is what they leave.
pub record AreReady (b : WorldBook) (es : List PlainChange) (left : PlainNext) : Type 0 where
  pub none : b.pending ≡ []
  pub left_is : left ≡ left_together b.whole.durable es
  pub fit : FollowInTurn b.whole.durable (made_all es)
  pub wanted : list_all can_be_wanted es ≡ true
  pub group : is_group es ≡ true

-- What keeping changes as one group leaves of a Book and of its device: at each moment an image holds what was kept before, or that with
-- all of them.
pub record KeepsTogether {D : Type 0} (device : Ghosts D) (old new : PlainBook D) (es : List PlainChange) (shown : Result Bool Refusal) : Type 0 where
  pub kept : AreKept shown es (world_book old) (world_book new)
  pub uses : UsesDevice device (is_fault_result shown) old new (HoldsEither old.whole.durable (after old.whole.durable es))
  -- no call of the device was made for changes that weren't kept, unless it failed
  pub still : (why : Refusal) → shown ≡ Err why → is_fault why ≡ false → new.disk ≡ old.disk

-- ---- each change by itself

-- the change that a step wants, if any, finds room by itself in banks of `size` bytes
abbrev pub StepFindsRoom : (size : ℕ) → PlainDurable → Result ReadyStep Refusal → Type 0
StepFindsRoom size d (Ok (made.Wants e n o)) = FindsRoom size d n.durable (e ∷ [])
StepFindsRoom size d step = ⊤

-- and so does each of these changes, after those before it
abbrev pub FindRoomEach : (size : ℕ) → PlainDurable → List PlainChange → Type 0
FindRoomEach size d [] = ⊤
FindRoomEach size d (e ∷ es) = FindsRoom size d (applied d e) (e ∷ []) × FindRoomEach size (applied d e) es
