-- What a session was told is kept stays acknowledged.
use Rattle.std.specs.Prelude.{◌≡◌, ℕ, ◌≤◌, List, length, Option, Some, None}
use Rattle.pf_core.specs.declared.{command.Command.Command, reply.Reply.Reply, reply.Reply.TheVariants.{Answer, Applied, Stored, Refused}}
use Rattle.pf_core.specs.{Durable.Changes.PlainDurable, Worlds.{Setting, flat}}
use Rattle.pf_book.specs.Receipts.{PlainReceipt}
use Rattle.pf_session.specs.Server.Sittings.{IsCommandRun, TakesLines, Sitting, turn}

-- the number of a change that a reply says is kept
abbrev pub number_in : Reply → Option ℕ
number_in (Answer a) = None
number_in (Applied seq outcome) = Some seq
number_in (Stored seq outcome) = Some seq
number_in (Refused e) = None

-- at least so many changes were acknowledged at the session's last call, as its receipt says
abbrev pub Acknowledges : ℕ → Sitting → Type 0
Acknowledges n s = (last : PlainReceipt) × (s.last ≡ Some last) × (n ≤ last.acked)

-- a change that the session was told is applied or stored is acknowledged, with all before it
abbrev pub AcknowledgesReplied : Type 0
AcknowledgesReplied = (base : PlainDurable) (setting : Setting) (c : Command) (old new : Sitting) (text : List ℕ)
    (run : IsCommandRun base setting c old new text) (seq : ℕ) → number_in run.reply ≡ Some seq → Acknowledges seq new

-- and stays so
abbrev pub AcknowledgesNoLess : (ℕ → Type 0) → Type 0
AcknowledgesNoLess passed = (base : PlainDurable) (setting : Setting) (old new : Sitting) (lines : List (List ℕ)) (text : List ℕ) (n : ℕ)
    → TakesLines passed base setting old new lines text → Acknowledges n old → Acknowledges n new

-- So it is at the turn of the session's next command.
abbrev pub FindsAcknowledged : Type 0
FindsAcknowledged = (base : PlainDurable) (setting : Setting) (c : Command) (old new : Sitting) (text : List ℕ)
    (run : IsCommandRun base setting c old new text) (n : ℕ) → Acknowledges n old → n ≤ length (flat (turn run.answered).acked)
