use Rattle.std.proofs.Common.{◌≤◌, ◌-◌}
use Rattle.pf_anchor.proofs.Blocks.{Passes}
use Rattle.pf_anchor.proofs.evaluate.pass_blocks.Given as goal

-- what was passed gives the last match
abbrev pub invariant-loop-block : goal.invariant-loop-block
invariant-loop-block g l =
    (l.from ≤ l.block) × Passes l.question.config.now l.question.packet.now l.placed l.from l.block l.before l.last_block

abbrev pub decreases-loop-block : goal.decreases-loop-block
decreases-loop-block g l = l.blocks - l.block
