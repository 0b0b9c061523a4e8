use Rattle.std.proofs.Common.{◌≡◌, ◌+◌, ◌-◌, ◌*◌, drop}
use Rattle.std.specs.Prelude.{filter, length}
use Rattle.pf_addr.specs.declared.path.limits.TheConstants.{DEPTH_LIMIT}
use Rattle.pf_addr.specs.Path.Nested.{depth, is_child}
use Rattle.pf_lanes.specs.Answered.{eight_from}
use Rattle.pf_anchor.specs.declared.evaluated.Evaluated.TheVariants.{Open}
use Rattle.pf_anchor.specs.Evaluation.{and_then, in_turn, effected, rules_at_path, rules_give, evaluation, matching}
use Rattle.pf_anchor.specs.{Blocks.{given_from}, Known.{ruleset_gives}}
use Rattle.pf_anchor.proofs.evaluate.+evaluate.Given as goal

-- what a ruleset leads to is deeper
abbrev pub decreases-evaluate_further : goal.decreases-evaluate_further
decreases-evaluate_further l = 6 * (DEPTH_LIMIT - depth l.placed.now.0) + 5

abbrev pub decreases-evaluate : goal.decreases-evaluate
decreases-evaluate l = 6 * (DEPTH_LIMIT - depth l.placed.now.0) + 4

abbrev pub decreases-each_match : goal.decreases-each_match
decreases-each_match l = 6 * (DEPTH_LIMIT - depth l.placed.now.0) + 3

abbrev pub decreases-effected : goal.decreases-effected
decreases-effected l = 6 * (DEPTH_LIMIT - depth l.placed.now.0) + 2

abbrev pub decreases-evaluate_targets : goal.decreases-evaluate_targets
decreases-evaluate_targets l = 6 * (DEPTH_LIMIT - depth l.path.now) + 1

abbrev pub decreases-evaluate_joined : goal.decreases-evaluate_joined
decreases-evaluate_joined l = 6 * (DEPTH_LIMIT - depth l.path.now)

abbrev pub decreases-evaluate_children : goal.decreases-evaluate_children
decreases-evaluate_children l = 6 * (DEPTH_LIMIT - depth l.path.now) + 1

-- what the remaining rules give comes after the last match so far
abbrev pub invariant-evaluate-loop-passed : goal.invariant-evaluate-loop-passed
invariant-evaluate-loop-passed l = ruleset_gives l.question.config.now l.question.packet.now l.placed ≡ given_from l.question.config.now l.question.packet.now l.placed l.block l.last

abbrev pub decreases-evaluate-loop-passed : goal.decreases-evaluate-loop-passed
decreases-evaluate-loop-passed l = length l.placed.1 - l.block

abbrev pub invariant-each_match-loop-lane : goal.invariant-each_match-loop-lane
invariant-each_match-loop-lane l =
    let c = l.question.config.now in
    let tests = matching c.tables l.question.packet.now in
    rules_at_path (evaluation c.rulesets tests) c.rulesets tests l.placed.0 (8 * l.block) (eight_from (8 * l.block) l.placed.1)
    ≡ and_then (Open l.last) (rules_give (λ n r. effected (evaluation c.rulesets tests) c.rulesets l.placed.0 n r.effect) (tests l.placed.0) (8 * l.block + l.lane) (drop l.lane (eight_from (8 * l.block) l.placed.1)))

-- so does what the remaining rulesets give
abbrev pub invariant-evaluate_children-loop-placed : goal.invariant-evaluate_children-loop-placed
invariant-evaluate_children-loop-placed l =
    let c = l.question.config.now in
    let f = evaluation c.rulesets (matching c.tables l.question.packet.now) in
    in_turn f (filter (λ e. is_child l.path e.0) c.rulesets) ≡ and_then (Open l.last) (in_turn f (filter (λ e. is_child l.path e.0) l.placed-iterator))
