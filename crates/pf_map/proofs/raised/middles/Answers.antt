use Rattle.std.proofs.Common.{◌∙◌}
use Rattle.pf_map.specs.MapParts.{joined}
use Rattle.pf_map.proofs.MapParts.{one_moved}
use Rattle.pf_map.proofs.raised.middles.Goals as goal

pub loop-part-preserved : goal.loop-part-preserved
loop-part-preserved g c =
    rw c.in_ok-push.ensures.items (one_moved (joined c.loop-part.pages.items) c.loop-part.page.items c.next.new.self.rest.items c.in-Some.part)
    ∙ rw c.in-Some.ensures.steps.0 at c.loop-part.invariant
