use Rattle.std.proofs.Common.{◌+◌, ◌*◌, Option, sym, ap, ◌∙◌}
use Rattle.pf_anchor.specs.{declared.{evaluated.Evaluated.TheVariants.Open}, Matches.PlainMatch, Evaluation.effected}
use Rattle.pf_anchor.proofs.Blocks.{none_found, last_found, bit_has_rule, stops_there, past_all, there_at}
use Rattle.pf_anchor.proofs.evaluate.last_match.Goals as goal

pub returns-in_err-lane : goal.returns-in_err-lane
returns-in_err-lane c = λ f cs tests bits stopping.
    ap (λ (o : Option PlainMatch). Open o) c.from_residual.ensures
    ∙ sym (none_found (λ k x. effected f cs c.args.placed.now.0 k x.effect) (tests c.args.placed.now.0) c.args.placed.now.1 c.args.block c.args.mask (record { each = bits }) c.in_err-lane.ensures)

pub returns-in_err-rule : goal.returns-in_err-rule
returns-in_err-rule c = λ f cs tests bits stopping.
    let items = c.as_slice-rules.ensures.value ∙ c.value.ensures in
    let ends = c.in_ok-lane.ensures in
    bit_has_rule (tests c.args.placed.now.0) c.args.placed.now.1 c.args.block c.args.mask c.in_ok-lane.lane (record { each = bits }) ends.within ends.last_set
    (past_all c.as_slice-rules.result.now c.args.placed.now.1 (8 * c.args.block + c.in_ok-lane.lane) items c.in_err-rule.ensures.lookup.3)

pub returns-in-Decide : goal.returns-in-Decide
returns-in-Decide c = λ f cs tests bits stopping.
    let items = c.as_slice-rules.ensures.value ∙ c.value.ensures in
    sym (last_found f cs c.args.placed.now.0 (tests c.args.placed.now.0) c.args.placed.now.1 c.args.block c.args.mask _ c.in_ok-lane.lane c.in_ok-rule.rule.now c.in-Decide.action
    (record { each = bits }) stopping c.in_ok-lane.ensures
    (there_at c.as_slice-rules.result.now c.args.placed.now.1 (8 * c.args.block + c.in_ok-lane.lane) c.in_ok-rule.rule.now items c.in_ok-rule.ensures.lookup.3.0 c.in_ok-rule.ensures.lookup.1)
    (sym c.in-Decide.ensures.effect))

pub returns-in-Evaluate : goal.returns-in-Evaluate
returns-in-Evaluate c = λ f cs tests bits stopping.
    let items = c.as_slice-rules.ensures.value ∙ c.value.ensures in
    let ends = c.in_ok-lane.ensures in
    absurd (cc (sym (stopping c.in_ok-lane.lane ends.within ends.last_set)
    ∙ stops_there c.args.placed.now.1 c.args.block c.in_ok-lane.lane c.in_ok-rule.rule.now c.in-Evaluate.field-0
    (there_at c.as_slice-rules.result.now c.args.placed.now.1 (8 * c.args.block + c.in_ok-lane.lane) c.in_ok-rule.rule.now items c.in_ok-rule.ensures.lookup.3.0 c.in_ok-rule.ensures.lookup.1)
    (sym c.in-Evaluate.ensures.effect)))
