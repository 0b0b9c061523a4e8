use Rattle.std.proofs.Common.{◌≡◌, ◌≤◌, ◌++◌, length, take}
use Rattle.pf_anchor.specs.Known.{at_depth, placed_of}
use Rattle.pf_anchor.proofs.in_order.list_at.Given as goal

-- those of this depth so far stand behind the others
abbrev pub invariant-loop-placed : goal.invariant-loop-placed
invariant-loop-placed l = record {
  few : l.count ≤ length l.table;
  listed : placed_of (take l.count l.table) ++ at_depth l.depth l.placed-iterator ≡ placed_of (take l.before l.initial.table) ++ at_depth l.depth l.config.rulesets;
}
