use Rattle.std.proofs.Common.{◌≡◌, ◌≢◌, ◌+◌, ◌-◌, arith, drop, rules, refl, sym, ◌∙◌, subst}
use Rattle.pf_anchor.specs.{Rulesets.children, Laws.Evaluation.rulesets_at}
use Rattle.pfd_conf.specs.declared.case.trace.Came.TheVariants as came
use Rattle.pfd_conf.specs.Case.Matches.{Part, Lists, part_of_rules, part_of_rulesets, part_of_rule, part_of_ruleset}
use Rattle.pfd_conf.proofs.Matching.{goes_on, goes_end, goes_cut, goes_done, none_cut, rules_begun, rules_step, rules_done, children_begun, children_step, children_done, one_led, children_led, none_led, no_level, lists_nothing}
use Rattle.pfd_conf.proofs.case.trace.Trace.+trace.Goals as goal

pub each_child-returns-in_err-children : goal.each_child-returns-in_err-children
each_child-returns-in_err-children t c = none_cut c.from_residual.result _ c.args.matched.now.items c.args.matched.now.items _ c.from_residual.ensures.1 refl

pub each_child-loop-child-init : goal.each_child-loop-child-init
each_child-loop-child-init t c =
    let config = c.args.self.now.config.now in
    children_begun c.args.matched.now.items (c.args.levels + 1) config c.args.self.now.packet.now c.deref-child-items.result.now (children config.rulesets c.args.path.now)
    (c.deref-child-items.ensures.value ∙ c.in_ok-children.ensures)

pub each_child-returns-in_err-ruleset : goal.each_child-returns-in_err-ruleset
each_child-returns-in_err-ruleset t c =
    let config = c.args.self.now.config.now in
    let items = c.deref-child-items.result.now in
    let step = children_step c.args.levels config c.args.self.now.packet.now items c.loop-child.child-index c.child-item.result c.loop-child-test.true c.child-item.is in
    goes_cut c.from_residual-in_err-ruleset.result _ c.args.matched.now.items _ c.loop-child.matched.items c.ruleset.new.matched.items c.loop-child.came c.in_err-ruleset.field-0.0
    (part_of_ruleset c.args.levels config c.args.self.now.packet.now c.child-item.result)
    (part_of_rulesets (c.args.levels + 1) config c.args.self.now.packet.now (rulesets_at config.rulesets (drop c.loop-child.child-index items)))
    (part_of_rulesets (c.args.levels + 1) config c.args.self.now.packet.now (rulesets_at config.rulesets (drop (c.loop-child.child-index + 1) items)))
    c.from_residual-in_err-ruleset.ensures.1 c.loop-child.invariant step c.in_err-ruleset.ensures

pub each_child-returns-then-eq : goal.each_child-returns-then-eq
each_child-returns-then-eq t c =
    let config = c.args.self.now.config.now in
    let items = c.deref-child-items.result.now in
    let step = children_step c.args.levels config c.args.self.now.packet.now items c.loop-child.child-index c.child-item.result c.loop-child-test.true c.child-item.is in
    let ended : c.then-came.result ≡ came.Ended = search rules in
    goes_end c.args.matched.now.items _ c.loop-child.matched.items c.ruleset.new.matched.items c.loop-child.came c.in_ok-ruleset.field-0 c.then-came.result _ _ _
    c.loop-child.invariant step c.in_ok-ruleset.ensures c.then-came.ensures ended

pub each_child-loop-child-preserved : goal.each_child-loop-child-preserved
each_child-loop-child-preserved t c =
    let config = c.args.self.now.config.now in
    let items = c.deref-child-items.result.now in
    let step = children_step c.args.levels config c.args.self.now.packet.now items c.loop-child.child-index c.child-item.result c.loop-child-test.true c.child-item.is in
    let going : c.then-came.result ≢ came.Ended = search rules in
    goes_on c.args.matched.now.items _ c.loop-child.matched.items c.ruleset.new.matched.items c.loop-child.came c.in_ok-ruleset.field-0 c.then-came.result _ _ _
    c.loop-child.invariant step c.in_ok-ruleset.ensures c.then-came.ensures going

pub each_child-returns : goal.each_child-returns
each_child-returns t c =
    let done = children_done (c.args.levels + 1) c.args.self.now.config.now c.args.self.now.packet.now c.deref-child-items.result.now c.loop-child.child-index c.loop-child-test.false in
    goes_done c.args.matched.now.items _ c.loop-child.matched.items c.loop-child.came _ c.loop-child.invariant done

pub rule-returns-in_err-add : goal.rule-returns-in_err-add
rule-returns-in_err-add t c = none_cut c.from_residual.result _ c.args.matched.now.items c.add.new.matched.items _ c.from_residual.ensures.1 c.in_err-add.ensures.cut

pub ruleset-returns-in_err-rules : goal.ruleset-returns-in_err-rules
ruleset-returns-in_err-rules t c = none_cut c.from_residual.result _ c.args.matched.now.items c.args.matched.now.items _ c.from_residual.ensures.1 refl

pub ruleset-loop-number-init : goal.ruleset-loop-number-init
ruleset-loop-number-init t c =
    rules_begun c.args.matched.now.items c.args.levels c.args.self.now.config.now c.args.self.now.packet.now c.args.path.now c.as_slice-rule-items.result.now
    (c.as_slice-rule-items.ensures.value ∙ c.in_ok-rules.ensures.value)

pub ruleset-returns-in_err-rule : goal.ruleset-returns-in_err-rule
ruleset-returns-in_err-rule t c =
    let step = rules_step c.args.levels c.args.self.now.config.now c.args.self.now.packet.now c.args.path.now c.as_slice-rule-items.result.now c.loop-number.number c.rule-item.result c.loop-number-test.true c.rule-item.is in
    goes_cut c.from_residual-in_err-rule.result _ c.args.matched.now.items _ c.loop-number.matched.items c.rule.new.matched.items c.loop-number.came c.in_err-rule.field-0.0
    (part_of_rule c.args.levels c.args.self.now.config.now c.args.self.now.packet.now c.args.path.now c.loop-number.number c.rule-item.result)
    (part_of_rules c.args.levels c.args.self.now.config.now c.args.self.now.packet.now c.args.path.now c.loop-number.number (drop c.loop-number.number c.as_slice-rule-items.result.now))
    (part_of_rules c.args.levels c.args.self.now.config.now c.args.self.now.packet.now c.args.path.now (c.loop-number.number + 1) (drop (c.loop-number.number + 1) c.as_slice-rule-items.result.now))
    c.from_residual-in_err-rule.ensures.1 c.loop-number.invariant step c.in_err-rule.ensures

pub ruleset-returns-then-eq : goal.ruleset-returns-then-eq
ruleset-returns-then-eq t c =
    let step = rules_step c.args.levels c.args.self.now.config.now c.args.self.now.packet.now c.args.path.now c.as_slice-rule-items.result.now c.loop-number.number c.rule-item.result c.loop-number-test.true c.rule-item.is in
    let ended : c.then-came.result ≡ came.Ended = search rules in
    goes_end c.args.matched.now.items _ c.loop-number.matched.items c.rule.new.matched.items c.loop-number.came c.in_ok-rule.field-0 c.then-came.result _ _ _
    c.loop-number.invariant step c.in_ok-rule.ensures c.then-came.ensures ended

pub ruleset-loop-number-preserved : goal.ruleset-loop-number-preserved
ruleset-loop-number-preserved t c =
    let step = rules_step c.args.levels c.args.self.now.config.now c.args.self.now.packet.now c.args.path.now c.as_slice-rule-items.result.now c.loop-number.number c.rule-item.result c.loop-number-test.true c.rule-item.is in
    let going : c.then-came.result ≢ came.Ended = search rules in
    goes_on c.args.matched.now.items _ c.loop-number.matched.items c.rule.new.matched.items c.loop-number.came c.in_ok-rule.field-0 c.then-came.result _ _ _
    c.loop-number.invariant step c.in_ok-rule.ensures c.then-came.ensures going

pub ruleset-returns : goal.ruleset-returns
ruleset-returns t c =
    let done = rules_done c.args.levels c.args.self.now.config.now c.args.self.now.packet.now c.args.path.now c.as_slice-rule-items.result.now c.loop-number.number c.loop-number-test.false in
    goes_done c.args.matched.now.items _ c.loop-number.matched.items c.loop-number.came _ c.loop-number.invariant done

pub targets-returns-in_default : goal.targets-returns-in_default
targets-returns-in_default t c =
    lists_nothing c.args.matched.now.items _ (none_led c.args.self.now.config.now c.args.self.now.packet.now c.args.path.now c.args.reference.now c.args.levels c.requires (search rules))

pub targets-returns-then-levels-eq0 : goal.targets-returns-then-levels-eq0
targets-returns-then-levels-eq0 t c =
    lists_nothing c.args.matched.now.items _ (no_level c.args.self.now.config.now c.args.self.now.packet.now c.args.path.now c.args.reference.now c.args.levels c.if-levels-eq0.true)

pub targets-returns-then-is_wildcard : goal.targets-returns-then-is_wildcard
targets-returns-then-is_wildcard t c =
    let more : (c.args.levels - 1) + 1 ≡ c.args.levels = omega arith in
    let led = children_led c.args.self.now.config.now c.args.self.now.packet.now c.args.path.now c.in-Some.target c.args.reference.now (c.args.levels - 1) c.args.levels more c.requires (search rules) (search rules) in
    subst (λ (part : Part). Lists c.each_child.result c.args.matched.now.items c.each_child.new.matched.items part) (sym led) c.each_child.ensures

pub targets-returns : goal.targets-returns
targets-returns t c =
    let more : (c.args.levels - 1) + 1 ≡ c.args.levels = omega arith in
    let led = one_led c.args.self.now.config.now c.args.self.now.packet.now c.args.path.now c.in-Some.target c.args.reference.now (c.args.levels - 1) c.args.levels more c.requires (search rules) (search rules) in
    subst (λ (part : Part). Lists c.ruleset.result c.args.matched.now.items c.ruleset.new.matched.items part) (sym led) c.ruleset.ensures
