-- What the receipt that a session or a peer has at the end says of all that it was answered.
use Rattle.std.specs.{Prelude.{◌≡◌, ℕ, List, All, Option, Some, Result, Ok, Err, ⊤}, Option.ForSome}
use mathlib.Core.List.{IsPrefix}
use Rattle.pf_core.specs.declared.reply.Refusal.{Refusal}
use Rattle.pf_core.specs.{Durable.Changes.PlainDurable, Worlds.Setting}
use Rattle.pf_book.specs.{Groups.{Answered as Receipted}, Receipts.PlainReceipt}
use Rattle.pf_session.specs.declared.line_engine.fault.EngineFault.{EngineFault}
use Rattle.pf_session.specs.{LineEngine.Chains.Chain, LineEngine.Sessions.IsSession, Server.{Sittings.{TakesLines, Sitting, TakesLine}, Streams.{IsStream, Part, RunsGroup, Takes, TakesPart}}}

-- the front of the one receipt, if there is one, begins that of the other
abbrev pub IsWithin : Option PlainReceipt → Option PlainReceipt → Type 0
IsWithin slip last = ForSome slip (λ s. (l : PlainReceipt) × (last ≡ Some l) × IsPrefix s.front l.front)

-- Steps one after the other, where the receipt after each of them is within the last one. After a call it is that of its reply.
abbrev pub ChainWithin : {S L : Type 0} → Option PlainReceipt → (S → Option PlainReceipt) → (L → S → S → List ℕ → Type 0) → S → S → List L → List ℕ → Type 0
ChainWithin last receipt Step old new xs text = Chain (λ x a b reported. Step x a b reported × IsWithin (receipt b) last) old new xs text

-- A session's own receipt, and that of each of its replies, is within the one that it has at the end.
abbrev pub SitsWithin : (ℕ → Type 0) → Type 0
SitsWithin passed = (base : PlainDurable) (setting : Setting) (result : Result (Unit {0}) EngineFault) (unread still_unread : Option (List ℕ))
    (old new : Sitting) (held held' : Option (List ℕ)) → IsSession (TakesLines passed base setting) result unread still_unread old new held held'
    → IsWithin old.last new.last
    × IsSession (ChainWithin new.last (λ (s : Sitting). s.last) (TakesLine passed base setting)) result unread still_unread old new held held'

-- the receipts of a group's answers are; one that was refused whole has none
abbrev pub AreWithin : Result (List Receipted) Refusal → Option PlainReceipt → Type 0
AreWithin (Ok answers) last = All (λ a. IsWithin (Some a.1) last) answers
AreWithin (Err e) last = ⊤

-- A part of a peer's stream was taken, and the receipt of each of its answers is within the last one, as is the receipt after it.
abbrev pub TakesPartWithin : Option PlainReceipt → PlainDurable → Setting → Part → Option PlainReceipt → Option PlainReceipt → List ℕ → Type 0
TakesPartWithin last base setting (Ok ms) old new text = (run : RunsGroup base setting ms old new text) × AreWithin run.result last × IsWithin new last
TakesPartWithin last base setting (Err f) old new text = TakesPart base setting (Err f) old new text × IsWithin new last

-- A peer's own receipt, and that of each of its messages, is within the one that it has at the end.
abbrev pub TakesWithin : Type 0
TakesWithin = (base : PlainDurable) (setting : Setting) (result : Result (Unit {0}) EngineFault) (unread still_unread : Option (List ℕ))
    (old new : Option PlainReceipt) (held held' : Option (List ℕ)) → IsStream (Takes base setting) result unread still_unread old new held held'
    → IsWithin old new × IsStream (Chain (TakesPartWithin new base setting)) result unread still_unread old new held held'
