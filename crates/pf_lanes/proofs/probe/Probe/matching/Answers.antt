use Rattle.std.proofs.Common.{refl, Bool, ◌&&◌, sym, ap, ◌∙◌, arith}
use Rattle.std.specs.Prelude.{bit_or, bit_xor}
use Rattle.pf_lanes.specs.{Answered.{block_bit, block_match}, Probes.PlainProbe}
use Rattle.pf_lanes.proofs.Tabled.{all_lanes, lane_settles, near_alone, near_and_tabled}
use Rattle.pf_lanes.proofs.probe.Probe.matching.Goals as goal

pub returns-then-block-len : goal.returns-then-block-len
returns-then-block-len g c i lt =
    let says = g.T.TableAnswers.says c.args.tables.now in
    c.asked_in.ensures i lt
    ∙ ap (λ (b : Bool). b && block_match says c.self.inside.rules.now c.self.inside.packet.now c.args.block i) (all_lanes i lt)
    ∙ ap (λ (a : PlainProbe). block_match says a.rules a.packet c.args.block i) c.self.view_is

pub returns-then-open-eq0 : goal.returns-then-open-eq0
returns-then-open-eq0 g c i lt =
    let says = g.T.TableAnswers.says c.args.tables.now in
    let m = c.index-marks.result.now in
    let s = bit_xor m.sources.inverted 255 in
    let d = bit_xor m.destinations.inverted 255 in
    let is = c.block-near.ensures i lt ∙ ap (λ (a : PlainProbe). block_bit a.rules a.packet c.args.block s d i) (sym c.self.view_is) in
    near_alone c.block-near.result (bit_or m.sources.tabled m.destinations.tabled) _ i _
    (lane_settles says c.self.inside.rules.now c.self.inside.columns.now c.self.inside.packet.now c.args.block i c.block-near.result m c.self.invariant.columns (omega (arith, c.len.ensures)) lt c.index-marks.ensures is)
    refl c.if-open-eq0.true
    ∙ ap (λ (a : PlainProbe). block_match says a.rules a.packet c.args.block i) c.self.view_is

pub returns : goal.returns
returns g c i lt =
    let says = g.T.TableAnswers.says c.args.tables.now in
    let m = c.index-marks.result.now in
    let s = bit_xor m.sources.inverted 255 in
    let d = bit_xor m.destinations.inverted 255 in
    let is = c.block-near.ensures i lt ∙ ap (λ (a : PlainProbe). block_bit a.rules a.packet c.args.block s d i) (sym c.self.view_is) in
    near_and_tabled c.block-near.result (bit_or m.sources.tabled m.destinations.tabled) _ c.asked_in-2.result i _
    (lane_settles says c.self.inside.rules.now c.self.inside.columns.now c.self.inside.packet.now c.args.block i c.block-near.result m c.self.invariant.columns (omega (arith, c.len.ensures)) lt c.index-marks.ensures is)
    refl (c.asked_in-2.ensures i lt)
    ∙ ap (λ (a : PlainProbe). block_match says a.rules a.packet c.args.block i) c.self.view_is
