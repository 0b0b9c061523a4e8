use Rattle.std.proofs.Common.{Bool, ◌&&◌, ap, ◌∙◌}
use Rattle.pf_lanes.specs.Answered.{block_match}
use Rattle.pf_lanes.proofs.Tabled.{all_lanes}
use Rattle.pf_lanes.proofs.plain.match_one_by_one.Goals as goal

pub returns : goal.returns
returns g c i lt =
    c.asked_in.ensures i lt
    ∙ ap (λ (b : Bool). b && block_match (g.T.TableAnswers.says c.args.tables.now) c.args.rules.now c.args.packet.now c.args.block i) (all_lanes i lt)
