use Rattle.std.proofs.Common.{◌≡◌, take}
use Rattle.pf_anchor.proofs.rulesets.in_columns.Given as goal

abbrev pub invariant-loop-placed : goal.invariant-loop-placed
invariant-loop-placed l = l.made.items ≡ take l.placed-index l.items
