use Rattle.std.proofs.Common.{◌≡◌, ◌<◌, ◌≤◌, ℕ, false}
use Rattle.pf_rule.specs.Host.Hosts.{TableTest}
use Rattle.pf_lanes.specs.Answered.{block_match}
use Rattle.pf_lanes.proofs.probe.Probe.next_near.Given as goal

-- no rule of the blocks so far matches
abbrev pub invariant-loop-block : goal.invariant-loop-block
invariant-loop-block l = (says : TableTest) (block i : ℕ) → l.from ≤ block → block < l.block → i < 8 → block_match says l.self.rules l.self.packet block i ≡ false
