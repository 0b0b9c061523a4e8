use Rattle.std.proofs.Common.{◌≡◌, ◌≤◌, length, drop}
use Rattle.pf_anchor.specs.Known.{placed_of, ruleset_gives, AreGiven, AreOnward}
use Rattle.pf_anchor.proofs.in_order.evaluate_each.Given as goal

-- from some ruleset on it is known what they give
abbrev pub invariant-loop-left : goal.invariant-loop-left
invariant-loop-left l = record {
  few : l.left ≤ length l.table;
  listed : placed_of l.table ≡ placed_of l.initial.table;
  given : AreGiven (ruleset_gives l.config l.packet) (drop l.left l.table);
  onward : AreOnward (drop l.left l.table);
}

abbrev pub decreases-loop-left : goal.decreases-loop-left
decreases-loop-left l = l.left
