use Rattle.std.specs.Arc.{arc_value}
use Rattle.pf_map.proofs.MapParts.{halves}
use Rattle.pf_map.proofs.level.cut.Goals as goal

pub returns-clause-value : goal.returns-clause-value
returns-clause-value g c = rw (c.in_ok-following.ensures.items, c.in_ok-of.ensures, c.in_ok-following.ensures.tail, c.in-Some.ensures.value) (halves 16 (arc_value c.args.slots.now).items)
