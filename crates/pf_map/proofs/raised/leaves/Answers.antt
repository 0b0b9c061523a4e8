use Rattle.std.proofs.Common.{◌∙◌}
use Rattle.pf_map.proofs.MapParts.{page_moved}
use Rattle.pf_map.proofs.raised.leaves.Goals as goal

pub loop-rest-preserved : goal.loop-rest-preserved
loop-rest-preserved g c =
    rw (c.in_ok-push.ensures.items, c.new.ensures, c.in_ok-of_entries.ensures, c.split_at.ensures.front, c.split_at.ensures.back)
    (page_moved g.E.Holder.pair c.loop-rest.pages.items c.min.result c.loop-rest.rest.now)
    ∙ c.loop-rest.invariant
