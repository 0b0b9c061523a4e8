use Rattle.std.proofs.Common.{◌≡◌, ◌<◌, ◌≤◌, ◌+◌, ◌*◌, ℕ, sym, ap, ◌∙◌, arith, ⊎_elim}
use Rattle.std.proofs.lemmas.Bool.{cases_lt}
use Rattle.pf_lanes.specs.declared.kernel.PacketWords.{PacketWords}
use Rattle.pf_lanes.specs.{Answered.block_match, Asked.near_or_special, Probes.PlainProbe}
use Rattle.pf_lanes.proofs.Tabled.{far_block}
use Rattle.pf_lanes.proofs.probe.Probe.next_near.Goals as goal

pub loop-block-init : goal.loop-block-init
loop-block-init c = λ says block i le lt small. absurd (omega (arith, le, lt))

pub returns-then-may_match-clause-none : goal.returns-then-may_match-clause-none
returns-then-may_match-clause-none c = c.loop-block.invariant

pub loop-block-preserved : goal.loop-block-preserved
loop-block-preserved c = λ says block i le lt small.
    ⊎_elim
    (λ (before : block < c.loop-block.block). c.loop-block.invariant says block i le before small)
    (λ (from : c.loop-block.block ≤ block).
    let here : c.loop-block.block ≡ block = omega (arith, from, lt) in
    ap (λ (b : ℕ). block_match says c.args.self.now.rules c.args.self.now.packet b i) (sym here)
    ∙ ap (λ (a : PlainProbe). block_match says a.rules a.packet c.loop-block.block i) (sym c.self.view_is)
    ∙ far_block says c.self.inside.rules.now c.self.inside.columns.now c.self.inside.packet.now c.loop-block.block i c.index-mark.result.now c.self.invariant.columns c.self.invariant.packet
    (omega (arith, c.loop-block-test.true, c.len-end.ensures)) small c.index-mark.ensures
    (ap (λ (w : PacketWords). near_or_special c.self.inside.columns.now w (8 * c.loop-block.block + i) c.index-mark.result.now.special i) (sym c.self.invariant.words)
    ∙ c.may_match.ensures c.if-may_match.false i small))
    (cases_lt block c.loop-block.block)

pub returns-clause-none : goal.returns-clause-none
returns-clause-none c = λ says block i le lt small. c.loop-block.invariant says block i le (omega (arith, le, lt, c.max.ensures, c.loop-block-test.false)) small
