-- A session of whose lines those are answered that ask what happens to a packet, and no others: by its seer, where no Book is.
use Rattle.std.specs.Prelude.{◌≡◌, ℕ, false, List, Option, Some, Ok}
use Rattle.pf_rule.specs.Packets.{PlainPacket}
use Rattle.pf_core.specs.declared.{command.Command.TheVariants.Ask, command.Question.TheVariants.Judge}
use Rattle.pf_core.specs.Durable.Changes.{PlainDurable}
use Rattle.pf_line.specs.{declared.request.Request.TheVariants.Run, Lines.{line_at, Means}}
use Rattle.pf_book.specs.Receipts.{PlainReceipt}
use Rattle.pf_session.specs.declared.server.judging.Judging.{Judging}
use Rattle.pf_session.specs.Server.{Askings.is_denied, Sittings.{HasJudged, Sitting, next_line}}

-- where it has come to; whatever receipt it has stays
abbrev pub seat : {J G : Type 0} → Option PlainReceipt → Judging J G → Sitting
seat last s = record { line = s.line; last = last; seer = s.seer.now }

-- it is the same session: its seer, its number and its gate are
pub record IsSameJudging {J G : Type 0} (old new : Judging J G) : Type 0 where
  pub seer : new.seer.ghost_name ≡ old.seer.ghost_name
  pub number : new.number ≡ old.number
  pub gate : new.gate ≡ old.gate

-- The line asks what happens to this packet, and is denied to no session.
pub record AsksToJudge (line : List ℕ) (packet : PlainPacket) : Type 0 where
  pub means : Means (line_at line) (Ok (Some (Run (Ask (Judge packet)))))
  pub allowed : is_denied line ≡ false

-- Such a line passed the gate with its number, and the session's seer judged its packet.
pub record JudgesInSession {J G : Type 0} (passed : G → ℕ → ℕ → Type 0) (base : PlainDurable) (line : List ℕ) (old new : Judging J G) (text : List ℕ) : Type 0 where
  pub same : IsSameJudging old new
  pub gate : passed old.gate.now old.number (next_line old.line)
  pub next : new.line ≡ next_line old.line
  pub packet : PlainPacket
  pub asks : AsksToJudge line packet
  pub judged : HasJudged base packet old.seer.now new.seer.now text
