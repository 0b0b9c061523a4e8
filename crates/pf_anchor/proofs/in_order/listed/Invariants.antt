use Rattle.std.proofs.Common.{◌≡◌, ◌≤◌, length, take}
use Rattle.pf_anchor.specs.Known.{above_depth, placed_of}
use Rattle.pf_anchor.proofs.in_order.listed.Given as goal

-- those of less depth stand at the front
abbrev pub invariant-loop-depth : goal.invariant-loop-depth
invariant-loop-depth l = record {
  few : l.count ≤ length l.table;
  listed : placed_of (take l.count l.table) ≡ above_depth l.depth l.config.rulesets;
}
