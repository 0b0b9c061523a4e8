use Rattle.std.proofs.Common.{List, ap, ◌∙◌}
use Rattle.pf_rule.specs.Rules.{PlainRule}
use Rattle.pf_lanes.specs.Answered.{block_mark, stops}
use Rattle.pf_anchor.proofs.Blocks.{no_match, all_stop, stops_of}
use Rattle.pf_anchor.proofs.evaluate.stopping.Goals as goal

pub returns-then-mask-eq0 : goal.returns-then-mask-eq0
returns-then-mask-eq0 c = no_match c.args.placed.now.1 c.args.block c.args.mask c.if-mask-eq0.true

pub returns-in-Some : goal.returns-in-Some
returns-in-Some c = stops_of c.args.placed.now.1 c.args.block c.args.mask c.stops.result
    (λ i lt. c.stops.ensures i lt ∙ ap (λ (rs : List PlainRule). block_mark stops rs c.args.block i) (c.in-Some.ensures ∙ c.value.ensures))

pub returns-in-None : goal.returns-in-None
returns-in-None c = all_stop c.args.placed.now.1 c.args.block c.args.mask
