-- Without states none passes a packet.
use Rattle.std.proofs.Common.{◌≡◌, List, [], ◌∷◌, length, Option, None, refl, ap, arith}
use Rattle.std.specs.Option.{option_map_or}
use Rattle.pf_rule.specs.Packets.{PlainPacket}
use Rattle.pf_state.specs.{Flows.{PlainFlow, flow_of}, States.{PlainState, state_of}}
use Rattle.pf_anchor.specs.Evaluation.{judged}
use Rattle.pf_core.specs.Durable.Changes.{PlainDurable, verdict, verdict_by}
use Rattle.pf_core.specs.declared.durable.verdict.Verdict.TheVariants.{Rules}

of_none : (flow : PlainFlow) (states : List PlainState) → length states ≡ 0 → state_of flow states ≡ None
of_none flow [] none = refl
of_none flow (state ∷ states) none = absurd (omega arith)

pub none_passes : (d : PlainDurable) (packet : PlainPacket) → length d.states ≡ 0 → verdict d packet ≡ Rules (judged d.config packet)
none_passes d packet none =
    ap (λ (found : Option PlainState). option_map_or (verdict_by d packet) found (Rules (judged d.config packet))) (of_none (flow_of packet) d.states none)
