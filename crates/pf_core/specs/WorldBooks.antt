-- What contracts see of a Book, and when it stands for a world.
use Rattle.std.specs.Prelude.{◌≡◌, ℕ, ◌≤◌, List, length, take, Result}
use Rattle.pf_core.specs.{declared.{command.Command.Command, reply.Refusal.Refusal, reply.Reply.Reply}, Calls.Call, Durable.Changes.{PlainDurable, PlainChange, after}, Cores.PlainCore, Worlds.{Setting, CurrentOpening, up, down, Upshot, Event, flat, LegalCall, LegalGroup, heard, heard_group, state_after, IsWorld}}

-- a Book: what its opening gave, the core, the groups of changes that were acknowledged, and the one that wasn't, what the opening was
-- given to keep within, how many changes are shown, and the copy that shows them
pub record WorldBook : Type 0 where
  pub base : PlainDurable
  pub whole : PlainCore
  pub acked : List (List PlainChange)
  pub pending : List (List PlainChange)
  pub setting : Setting
  pub shown : ℕ
  pub published : PlainDurable

-- the invariant of Books
pub record IsFolded (b : WorldBook) : Type 0 where
  pub durable : b.whole.durable ≡ after b.base (flat b.acked)
  pub within : b.shown ≤ length (flat b.acked)
  pub published : b.published ≡ after b.base (take b.shown (flat b.acked))

-- the Book is this opening, as far as it has come
pub record IsAt (h : CurrentOpening) (b : WorldBook) : Type 0 where
  pub base : b.base ≡ h.base
  pub tickets : b.whole.tickets ≡ h.tickets
  pub acked : b.acked ≡ h.acked
  pub pending : b.pending ≡ h.pending
  pub shown : b.shown ≡ h.shown
  pub setting : b.setting ≡ h.setting

-- these events were legal, and the Book is what they leave: it keeps the fold of what was acknowledged, and shows that of a front
pub record StandsFor (first : PlainDurable) (b : WorldBook) (world : List Event) : Type 0 where
  pub legal : IsWorld first world
  pub held : CurrentOpening
  pub comes : state_after (down first) world ≡ up held
  pub at : IsAt held b
  pub folded : IsFolded b

-- a call is a legal event, and leads to this Book
pub record Leads (h : CurrentOpening) (new : WorldBook) (c : Call) (t : Upshot) : Type 0 where
  pub legal : LegalCall h c t
  pub at : IsAt (heard h c t) new

-- so is a group
pub record LeadsGroup (h : CurrentOpening) (new : WorldBook) (commands : List Command) (result : Result (List Reply) Refusal) (t : Upshot) : Type 0 where
  pub legal : LegalGroup h commands result t
  pub at : IsAt (heard_group h commands result t) new
