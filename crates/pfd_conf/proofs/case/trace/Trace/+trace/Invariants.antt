use Rattle.std.proofs.Common.{◌+◌, ◌*◌, drop}
use Rattle.pf_anchor.specs.{Rulesets.children, Laws.Evaluation.rulesets_at}
use Rattle.pfd_conf.specs.Case.Matches.{part_of_rules, part_of_ruleset, part_of_rulesets}
use Rattle.pfd_conf.proofs.Matching.{Goes}
use Rattle.pfd_conf.proofs.case.trace.Trace.+trace.Given as goal

abbrev pub decreases-each_child : goal.decreases-each_child
decreases-each_child l = 5 * l.levels + 4

abbrev pub decreases-ruleset : goal.decreases-ruleset
decreases-ruleset l = 5 * l.levels + 3

abbrev pub decreases-rule : goal.decreases-rule
decreases-rule l = 5 * l.levels + 2

abbrev pub decreases-within : goal.decreases-within
decreases-within l = 5 * l.levels + 1

abbrev pub decreases-targets : goal.decreases-targets
decreases-targets l = 5 * l.levels

abbrev pub invariant-ruleset-loop-number : goal.invariant-ruleset-loop-number
invariant-ruleset-loop-number l =
    Goes l.fn.matched.items (part_of_ruleset l.levels l.self.config.now l.self.packet.now l.path) l.matched.items l.came
    (part_of_rules l.levels l.self.config.now l.self.packet.now l.path l.number (drop l.number l.rule-items))

abbrev pub invariant-each_child-loop-child : goal.invariant-each_child-loop-child
invariant-each_child-loop-child l =
    Goes l.fn.matched.items
    (part_of_rulesets (l.levels + 1) l.self.config.now l.self.packet.now (rulesets_at l.self.config.now.rulesets (children l.self.config.now.rulesets l.path)))
    l.matched.items l.came
    (part_of_rulesets (l.levels + 1) l.self.config.now l.self.packet.now (rulesets_at l.self.config.now.rulesets (drop l.child-index l.child-items)))
