-- How tests and judges are answered, by what any legal world holds.
use Rattle.std.proofs.Common.{◌≡◌, ◌∙◌, Bool, true, false, Option, Some, None, refl, ap, inl, inr}
use Rattle.std.specs.{Prelude.if◌then◌else◌, Option.option_map_or}
use Rattle.pf_rule.specs.Packets.{PlainPacket}
use Rattle.pf_table.proofs.TableLaws.{table_decides}
use Rattle.pf_anchor.specs.Evaluation.{judged}
use Rattle.pf_anchor.proofs.{PlainRules.tells_what_decides, Leading.leads_to_these_alone}
use Rattle.pf_state.proofs.{Tables.one_state_a_flow, Ticks.held_stands}
use Rattle.pf_state.specs.{Flows.flow_of, Laws.States.{IsStateOf, FindsTheState}, States.{PlainState, state_of, stands}}
use Rattle.pf_core.specs.{declared.{command.Command.Command, command.Command.TheVariants.Ask, command.Question.Question, command.Question.TheVariants.Judge, command.Question.TheVariants.Test, durable.verdict.Verdict.TheVariants.State as Stateful, durable.verdict.Verdict.TheVariants.Rules as ByRules, reply.Answer.Answer, reply.Refusal.TheVariants.Memory, reply.Reply.Reply, reply.Reply.TheVariants.Answer as Answered, reply.Reply.TheVariants.Refused}, Commands.{answer_of, asks_for_memory, takes_memory}, Durable.Changes.{PlainDurable, entries_at, verdict, verdict_by}, Laws.Durable.IsWithin, Laws.Worlds.{IsDecided, TestsTellTheEntry, JudgesTellTheVerdict}, Worlds.{CurrentOpening, durable_of, StandsIn, LegalReply}}
use Rattle.pf_core.proofs.Limits.{keeps_the_limits}

none-stands-in : (h : CurrentOpening) (c : Command) (failed : Bool) (a : Answer) (r : Reply) → takes_memory (durable_of h) c ≡ false → StandsIn h c failed (Answered a) r → ⊥
none-stands-in h c failed a (Refused Memory) none stands = cc (none, stands)
none-stands-in h c failed a r none stands = stands

-- to a question that takes no memory only the reply that is due is legal
only-due : (h : CurrentOpening) (q : Question) (r : Reply) (failed : Bool) → asks_for_memory q ≡ false → LegalReply h (Ask q) r failed → r ≡ Answered (answer_of (durable_of h) q)
only-due h q r failed none (inl is) = is
only-due h q r failed none (inr stands) = absurd (none-stands-in h (Ask q) failed (answer_of (durable_of h) q) r none stands)

pub tests_tell_the_entry : TestsTellTheEntry
tests_tell_the_entry first world h within legal comes p name a = record {
  reported = λ r failed legal. only-due h (Test p name a) r failed refl legal;
  decides = table_decides (entries_at (durable_of h) p name) a (((keeps_the_limits first world h within legal comes).kept.entries p name).sorted);
}

unheld : (d : PlainDurable) (packet : PlainPacket) → FindsTheState d.states (flow_of packet) → ((s : PlainState) → IsStateOf d.states (flow_of packet) s → ⊥) → (o : Option PlainState) → state_of (flow_of packet) d.states ≡ o → verdict d packet ≡ ByRules (judged d.config packet)
unheld d packet finds none None is = ap (λ (o : Option PlainState). option_map_or (verdict_by d packet) o (ByRules (judged d.config packet))) is
unheld d packet finds none (Some s) is = absurd (none s ((finds.found s).0 is))

decided : (d : PlainDurable) (packet : PlainPacket) → IsWithin d → IsDecided d packet
decided d packet w =
    let finds : FindsTheState d.states (flow_of packet) = one_state_a_flow d.states (flow_of packet) w.states.names in
    let standing : (s : PlainState) → IsStateOf d.states (flow_of packet) s → stands d.tick s.1 ≡ true = λ s is. held_stands d.states d.tick s.0 s.1 w.standing is.held in
    record {
      by_state = λ s is.
          ap (λ (o : Option PlainState). option_map_or (verdict_by d packet) o (ByRules (judged d.config packet))) ((finds.found s).1 is)
          ∙ ap (λ (b : Bool). if b then Stateful s.0 else ByRules (judged d.config packet)) (standing s is);
      standing = standing;
      one = finds.one;
      by_rules = λ none. unheld d packet finds none (state_of (flow_of packet) d.states) refl;
      last = tells_what_decides d.config packet;
      leads = λ p s. leads_to_these_alone d.config.rulesets p s w.maps.rulesets;
    }

pub judges_tell_the_verdict : JudgesTellTheVerdict
judges_tell_the_verdict first world h within legal comes packet = record {
  reported = λ r failed legal. only-due h (Judge packet) r failed refl legal;
  decided = decided (durable_of h) packet (keeps_the_limits first world h within legal comes).kept;
}
