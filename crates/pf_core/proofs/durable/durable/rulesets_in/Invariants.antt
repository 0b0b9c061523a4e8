use Rattle.std.proofs.Common.{◌≡◌, ◌++◌, drop}
use Rattle.pf_core.specs.Durable.Changes.{rulesets_in}
use Rattle.pf_core.proofs.durable.durable.rulesets_in.Given as goal

abbrev pub invariant-loop-item : goal.invariant-loop-item
invariant-loop-item l = l.rulesets.items ++ rulesets_in (drop l.item-index l.items) ≡ rulesets_in l.items
