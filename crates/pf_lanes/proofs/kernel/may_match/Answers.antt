use Rattle.std.proofs.Common.{◌+◌, ◌∙◌, ap}
use Rattle.std.specs.Prelude.{bit_and}
use Rattle.std.specs.Int.Bits.{and_zero_r}
use Rattle.pf_lanes.specs.Columns.{masked_holds}
use Rattle.pf_lanes.proofs.Kernels.{all_three, none_near, is_zero}
use Rattle.pf_lanes.proofs.kernel.may_match.Goals as goal

pub returns-then-special-ne0 : goal.returns-then-special-ne0
returns-then-special-ne0 c none i lt =
    none_near (bit_and c.equal_under_masks-heads.result (bit_and c.equal_under_masks-from.result c.equal_under_masks-to.result)) c.equal_under_masks-heads.result c.args.special i _
    (masked_holds c.args.packet.now.source.first c.args.columns.now.sources.first (c.args.at + i)) (masked_holds c.args.packet.now.destination.first c.args.columns.now.destinations.first (c.args.at + i))
    (c.equal_under_masks-heads.ensures i lt)
    (all_three c.equal_under_masks-heads.result c.equal_under_masks-from.result c.equal_under_masks-to.result i _ _ _
    (c.equal_under_masks-heads.ensures i lt) (c.equal_under_masks-from.ensures i lt) (c.equal_under_masks-to.ensures i lt))
    c.if-near-ne0.false (is_zero (bit_and c.equal_under_masks-heads.result c.args.special) none)

pub returns-else-special-ne0 : goal.returns-else-special-ne0
returns-else-special-ne0 c none i lt =
    none_near (bit_and c.equal_under_masks-heads.result (bit_and c.equal_under_masks-from.result c.equal_under_masks-to.result)) c.equal_under_masks-heads.result c.args.special i _
    (masked_holds c.args.packet.now.source.first c.args.columns.now.sources.first (c.args.at + i)) (masked_holds c.args.packet.now.destination.first c.args.columns.now.destinations.first (c.args.at + i))
    (c.equal_under_masks-heads.ensures i lt)
    (all_three c.equal_under_masks-heads.result c.equal_under_masks-from.result c.equal_under_masks-to.result i _ _ _
    (c.equal_under_masks-heads.ensures i lt) (c.equal_under_masks-from.ensures i lt) (c.equal_under_masks-to.ensures i lt))
    c.if-near-ne0.false (ap (bit_and c.equal_under_masks-heads.result) c.if-special-ne0.false ∙ and_zero_r c.equal_under_masks-heads.result)
