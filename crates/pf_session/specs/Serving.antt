-- Lines that a Book answers: the calls that they come to, and the replies.
use Rattle.std.specs.Prelude.{◌≡◌, ℕ, ◌+◌, if◌then◌else◌, List, [], ◌∷◌, ◌++◌, Option, IfSome}
use Rattle.pf_core.specs.declared.{command.Command.Command, reply.Reply.Reply}
use Rattle.pf_core.specs.{Calls.call, Durable.Changes.PlainDurable, WorldBooks.StandsFor, Worlds.{Upshot, Event, called}}
use Rattle.pf_book.specs.{Anchors.anchors_below, Books.{PlainBook, world_book}, Statuses.status_of}
use Rattle.pf_line.specs.declared.{request.Request.Request, request.Request.TheVariants.{Run, ShowStatus, ShowAnchors}}
use Rattle.pf_line.specs.Reply.Replies.{reply_text}
use Rattle.pf_session.specs.{Anchors.listed_text, LineEngine.Chains.Chain, Statuses.shown_text, Telling.IsReplyTo}

-- A command's call, and the text of its reply. Of whatever world the Book stood for, it now stands for that with this call at its end; what its
-- opening keeps within stays; and the device failed in it just where the call says so.
pub record CallsBook {D : Type 0} (faults : D → ℕ) (c : Command) (old new : PlainBook D) (text : List ℕ) : Type 0 where
  pub reply : Reply
  pub upshot : Upshot
  pub reported : text ≡ reply_text reply
  pub worlds : (first : PlainDurable) (world : List Event) → StandsFor first (world_book old) world
      → StandsFor first (world_book new) (world ++ called (call c reply) upshot ∷ [])
  pub setting : (world_book new).setting ≡ (world_book old).setting
  pub failed : faults new.disk ≡ faults old.disk + (if upshot.failed then 1 else 0)

-- The Book's status is shown, with one session, and nothing is done.
pub record ShowsBook {D : Type 0} (old new : PlainBook D) (text : List ℕ) : Type 0 where
  pub size : ℕ
  pub reported : text ≡ shown_text (status_of (world_book old) size) 1
  pub same : new ≡ old

-- The anchors directly below a path are shown, or there was no memory to list them, and nothing is done.
pub record ShowsAnchors {D : Type 0} (path : List ℕ) (old new : PlainBook D) (text : List ℕ) : Type 0 where
  pub listed : Option (List (List ℕ))
  pub are : IfSome listed (λ paths. paths ≡ anchors_below (world_book old) path)
  pub reported : text ≡ listed_text listed
  pub same : new ≡ old

abbrev pub CallsOrShows : {D : Type 0} → (D → ℕ) → Request → PlainBook D → PlainBook D → List ℕ → Type 0
CallsOrShows faults (Run c) old new text = CallsBook faults c old new text
CallsOrShows faults ShowStatus old new text = ShowsBook old new text
CallsOrShows faults (ShowAnchors path) old new text = ShowsAnchors path old new text

-- These lines, one after the other, took the Book from the old one to the new one, and this is their text.
abbrev pub Serves : {D : Type 0} → (D → ℕ) → PlainBook D → PlainBook D → List (List ℕ) → List ℕ → Type 0
Serves faults = Chain (IsReplyTo (CallsOrShows faults))
