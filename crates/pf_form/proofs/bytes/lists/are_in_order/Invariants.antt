use Rattle.std.proofs.Common.{◌≡◌, length}
use Rattle.std.specs.Prelude.{map}
use Rattle.pf_form.specs.Bytes.Lists.{in_order}
use Rattle.pf_form.proofs.bytes.lists.are_in_order.Given as goal

abbrev pub invariant-loop-rest : goal.invariant-loop-rest
invariant-loop-rest g l = in_order g.T.Layout.before (map g.T.Layout.plain l.rest) ≡ in_order g.T.Layout.before (map g.T.Layout.plain l.items)

abbrev pub decreases-loop-rest : goal.decreases-loop-rest
decreases-loop-rest g l = length l.rest
