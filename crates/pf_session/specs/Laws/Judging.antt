-- What is looked at of a line, where only those are answered that ask what happens to a packet.
use Rattle.std.proofs.Common.{◌∙◌, ℕ, List, Option, Result, Ok, Some, sym, subst}
use Rattle.pf_rule.specs.Packets.{PlainPacket}
use Rattle.pf_core.specs.declared.{command.Command.TheVariants.Ask, command.Question.TheVariants.Judge, reply.Refusal.Refusal}
use Rattle.pf_core.specs.Durable.Changes.{PlainDurable}
use Rattle.pf_line.specs.{Grammar.Spoken, declared.request.Request.TheVariants.Run, Lines.{Means}}
use Rattle.pf_session.specs.declared.server.judging.Judging.{Judging}
use Rattle.pf_session.specs.{LineEngine.Lines.seen, Laws.{Asking.seen-denied, Seeing.seen-says}, Server.Judgings.{AsksToJudge, JudgesInSession}}

seen-asks : (line : List ℕ) (packet : PlainPacket) → AsksToJudge (seen line) packet → AsksToJudge line packet
seen-asks line packet asks = record {
  means = subst (λ (said : Result (Option Spoken) Refusal). Means said (Ok (Some (Run (Ask (Judge packet)))))) (seen-says line) asks.means;
  allowed = sym (seen-denied line) ∙ asks.allowed;
}

module _ {J G : Type 0} (passed : G → ℕ → ℕ → Type 0) (base : PlainDurable) where
  pub judges-seen : (old new : Judging J G) (line text : List ℕ) → JudgesInSession passed base (seen line) old new text → JudgesInSession passed base line old new text
  judges-seen old new line text p =
      record { same = p.same; gate = p.gate; next = p.next; packet = p.packet; asks = seen-asks line p.packet p.asks; judged = p.judged }
