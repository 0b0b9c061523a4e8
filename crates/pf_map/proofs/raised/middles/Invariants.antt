use Rattle.std.proofs.Common.{◌≡◌, ◌++◌}
use Rattle.pf_map.specs.MapParts.{joined}
use Rattle.pf_map.proofs.raised.middles.Given as goal

abbrev pub invariant-loop-part : goal.invariant-loop-part
invariant-loop-part g l = joined l.pages.items ++ (joined l.page.items ++ joined l.part-iterator.rest.items) ≡ joined l.fn.parts.items
