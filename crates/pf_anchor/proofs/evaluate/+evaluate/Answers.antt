use Rattle.std.proofs.{Common.{◌≡◌, ◌==◌, ◌<◌, ℕ, ◌+◌, ◌*◌, List, [], ◌∷◌, Bool, Option, Some, None, drop, length, ap, true, false, refl, sym, subst, ◌∙◌, arith}, lemmas.{Bool.Decides.nat_tests, Grind.common_steps, Option.MatchOption-at_some}}
use Rattle.std.specs.Option.{MatchOption}
use Rattle.pf_lanes.specs.Answered.{eight_from}
use Rattle.std.specs.Prelude.{filter}
use Rattle.pf_addr.specs.Path.Nested.{depth, path_within, is_child}
use Rattle.pf_addr.proofs.Nesting.{leads_deeper}
use Rattle.pf_rule.specs.{Packets.PlainPacket, Rules.PlainRule}
use Rattle.pf_anchor.specs.{declared.{evaluate.StopBlock.{StopBlock}, evaluated.Evaluated.Evaluated, evaluated.Evaluated.TheVariants.Open, evaluated.Evaluated.TheVariants.Ended}, Matches.PlainMatch, Rulesets.{PlainPlaced, ruled, targets}, Configurations.PlainConfig, Blocks.{IsStop, given_from}, Known.ruleset_gives, Evaluation.{and_then, settled, rules_give, effected, in_turn, evaluation, evaluate_with, matching}}
use Rattle.pf_anchor.proofs.{Evaluations.{unrolled, none_and_then, no_rules}, Turns.{rule_goes_on, rule_passed, child_deeper, then_open, child_step, no_child_step, no_targets, targets_from, plain_turn}}
use Rattle.pf_anchor.proofs.Blocks.{block_goes_on, block_ends, rule_ends, lane_says}
use Rattle.pf_anchor.proofs.evaluate.+evaluate.Goals.{each_match-then-is_set+in_ok-latest+in-Open-None, each_match-then-is_set+in_ok-latest+in-Open-Some+else-is_quick, each_match-else-is_set}
use Rattle.pf_anchor.proofs.evaluate.+evaluate.Goals as goal

-- what is said of an answer, by another spelling of it
carried : {x y : Evaluated PlainMatch} (o : Option (Evaluated PlainMatch)) (P : Type 0) → x ≡ y → MatchOption o P (λ r. r ≡ x) → MatchOption o P (λ r. r ≡ y)
carried o P e h = subst (λ (z : Evaluated PlainMatch). MatchOption o P (λ r. r ≡ z)) e h

pub evaluate-loop-passed-init : goal.evaluate-loop-passed-init
evaluate-loop-passed-init t c =
    let config = c.args.question.now.config.now in
    let packet = c.args.question.now.packet.now in
    unrolled config.rulesets (matching config.tables packet) c.args.placed.now
    ∙ sym (none_and_then (evaluate_with (evaluation config.rulesets (matching config.tables packet)) config.rulesets (matching config.tables packet) c.args.placed.now))

-- what is said of a stop, if there is one
said : (c : PlainConfig) (packet : PlainPacket) (e : PlainPlaced) (from : ℕ) (before last : Option PlainMatch) {stop : Option StopBlock} (s : StopBlock) → stop ≡ Some s →
    MatchOption stop (given_from c packet e from before ≡ Open last) (λ s. IsStop c packet e from before last s.block s.mask) → IsStop c packet e from before last s.block s.mask
said c packet e from before last s is h =
    MatchOption-at_some (given_from c packet e from before ≡ Open last) (λ s. IsStop c packet e from before last s.block s.mask) s is h

pub evaluate-each_match-requires : goal.evaluate-each_match-requires
evaluate-each_match-requires t c =
    let s = said c.args.question.now.config.now c.args.question.now.packet.now c.args.placed.now c.loop-passed.block c.loop-passed.last c.in_ok-passed.passed.last c.in-Some.stop c.in-Some.is c.in_ok-passed.ensures in
    (omega (arith, c.decreases), (c.requires, s.matching))

pub evaluate-overflow_add-block : goal.evaluate-overflow_add-block
evaluate-overflow_add-block t c =
    let s = said c.args.question.now.config.now c.args.question.now.packet.now c.args.placed.now c.loop-passed.block c.loop-passed.last c.in_ok-passed.passed.last c.in-Some.stop c.in-Some.is c.in_ok-passed.ensures in
    let few = s.few in
    omega (arith, few)

pub evaluate-loop-passed-smaller : goal.evaluate-loop-passed-smaller
evaluate-loop-passed-smaller t c =
    let s = said c.args.question.now.config.now c.args.question.now.packet.now c.args.placed.now c.loop-passed.block c.loop-passed.last c.in_ok-passed.passed.last c.in-Some.stop c.in-Some.is c.in_ok-passed.ensures in
    let later = s.later in
    let within = s.within in
    omega (arith, later, within)

pub evaluate-loop-passed-preserved : goal.evaluate-loop-passed-preserved
evaluate-loop-passed-preserved t c =
    let config = c.args.question.now.config.now in
    let packet = c.args.question.now.packet.now in
    let placed = c.args.placed.now in
    let s = said config packet placed c.loop-passed.block c.loop-passed.last c.in_ok-passed.passed.last c.in-Some.stop c.in-Some.is c.in_ok-passed.ensures in
    let effect : ℕ → PlainRule → Evaluated PlainMatch = λ n r. effected (ruleset_gives config packet) config.rulesets placed.0 n r.effect in
    let test = matching config.tables packet placed.0 in
    let later : Option PlainMatch → Evaluated PlainMatch = λ o. given_from config packet placed (c.in-Some.stop.block + 1) o in
    c.loop-passed.invariant ∙ s.gives
    ∙ block_goes_on effect test c.in_ok-passed.passed.last c.in-Open.latest c.in-Some.stop.block placed.1 (sym c.in-Open.is ∙ c.in_ok-latest.ensures)
    ∙ ap later (sym c.or-last.ensures)

pub evaluate-returns-in-Ended : goal.evaluate-returns-in-Ended
evaluate-returns-in-Ended t c =
    let config = c.args.question.now.config.now in
    let packet = c.args.question.now.packet.now in
    let placed = c.args.placed.now in
    let s = said config packet placed c.loop-passed.block c.loop-passed.last c.in_ok-passed.passed.last c.in-Some.stop c.in-Some.is c.in_ok-passed.ensures in
    let effect : ℕ → PlainRule → Evaluated PlainMatch = λ n r. effected (ruleset_gives config packet) config.rulesets placed.0 n r.effect in
    let test = matching config.tables packet placed.0 in
    sym (c.loop-passed.invariant ∙ s.gives ∙ block_ends effect test c.in_ok-passed.passed.last c.in-Ended.end c.in-Some.stop.block placed.1 (sym c.in-Ended.is ∙ c.in_ok-latest.ensures))

pub each_match-loop-lane-init : goal.each_match-loop-lane-init
each_match-loop-lane-init t c =
    let tests = matching c.args.question.now.config.now.tables c.args.question.now.packet.now in
    let f = evaluation c.args.question.now.config.now.rulesets tests in
    let effect : ℕ → PlainRule → Evaluated PlainMatch = λ n r. effected f c.args.question.now.config.now.rulesets c.args.placed.now.0 n r.effect in
    let test = tests c.args.placed.now.0 in
    let eight = eight_from (8 * c.args.block) c.args.placed.now.1 in
    sym (none_and_then (rules_give effect test (8 * c.args.block) eight))
    ∙ ap (λ (n : ℕ). and_then (Open None) (rules_give effect test n eight)) (let z : 8 * c.args.block ≡ 8 * c.args.block + 0 = omega arith in z)

pub each_match-returns-in-Ended : goal.each_match-returns-in-Ended
each_match-returns-in-Ended t c =
    let tests = matching c.args.question.now.config.now.tables c.args.question.now.packet.now in
    let f = evaluation c.args.question.now.config.now.rulesets tests in
    let effect : ℕ → PlainRule → Evaluated PlainMatch = λ n r. effected f c.args.question.now.config.now.rulesets c.args.placed.now.0 n r.effect in
    let test = tests c.args.placed.now.0 in
    let rules = c.args.placed.now.1 in
    let lane = c.loop-lane.lane in
    let r = c.rule-item.result in
    let items = c.eight_of-rule-items.ensures.value ∙ ap (eight_from (8 * c.args.block)) (c.as_slice.ensures.value ∙ c.value.ensures) in
    let left : drop lane c.eight_of-rule-items.result.now ≡ r ∷ drop (lane + 1) c.eight_of-rule-items.result.now = grind (arith, common_steps) in
    let here = ap (drop lane) (sym items) ∙ left ∙ ap (λ (rs : List PlainRule). r ∷ drop (lane + 1) rs) items in
    let lt = c.loop-lane-test.true in
    let few = c.eight_of-rule-items.ensures.few in
    let small : lane < 8 = omega (arith, lt, few) in
    let bit = c.requires.mask lane small ∙ lane_says test rules c.eight_of-rule-items.result.now c.args.block lane r items lt small c.rule-item.is in
    sym (c.loop-lane.invariant
    ∙ rule_ends effect test c.loop-lane.last c.in-Ended.end (8 * c.args.block + lane) _ r _ here (sym bit ∙ sym c.is_set.ensures ∙ c.if-is_set.true)
    (ap (settled r.quick) (sym c.in-Ended.is ∙ c.in_ok-latest.ensures)))

pub each_match-returns-then-is_quick : goal.each_match-returns-then-is_quick
each_match-returns-then-is_quick t c =
    let tests = matching c.args.question.now.config.now.tables c.args.question.now.packet.now in
    let f = evaluation c.args.question.now.config.now.rulesets tests in
    let effect : ℕ → PlainRule → Evaluated PlainMatch = λ n r. effected f c.args.question.now.config.now.rulesets c.args.placed.now.0 n r.effect in
    let test = tests c.args.placed.now.0 in
    let rules = c.args.placed.now.1 in
    let lane = c.loop-lane.lane in
    let r = c.rule-item.result in
    let items = c.eight_of-rule-items.ensures.value ∙ ap (eight_from (8 * c.args.block)) (c.as_slice.ensures.value ∙ c.value.ensures) in
    let left : drop lane c.eight_of-rule-items.result.now ≡ r ∷ drop (lane + 1) c.eight_of-rule-items.result.now = grind (arith, common_steps) in
    let here = ap (drop lane) (sym items) ∙ left ∙ ap (λ (rs : List PlainRule). r ∷ drop (lane + 1) rs) items in
    let lt = c.loop-lane-test.true in
    let few = c.eight_of-rule-items.ensures.few in
    let small : lane < 8 = omega (arith, lt, few) in
    let bit = c.requires.mask lane small ∙ lane_says test rules c.eight_of-rule-items.result.now c.args.block lane r items lt small c.rule-item.is in
    let gives : Open (Some c.in-Open-Some.latest) ≡ effect (8 * c.args.block + lane) r = ap (λ (o : Option PlainMatch). Open o) (sym c.in-Open-Some.field-0-is) ∙ sym c.in-Open-Some.is ∙ c.in_ok-latest.ensures in
    sym (c.loop-lane.invariant
    ∙ rule_ends effect test c.loop-lane.last c.in-Open-Some.latest (8 * c.args.block + lane) _ r _ here (sym bit ∙ sym c.is_set.ensures ∙ c.if-is_set.true)
    (ap (λ (q : Bool). settled q (Open (Some c.in-Open-Some.latest))) (sym c.if-is_quick.true ∙ c.is_quick.ensures) ∙ ap (settled r.quick) gives))

pub each_match-loop-lane-preserved : goal.each_match-loop-lane-preserved
each_match-loop-lane-preserved t c =
    let tests = matching c.args.question.now.config.now.tables c.args.question.now.packet.now in
    let f = evaluation c.args.question.now.config.now.rulesets tests in
    let effect : ℕ → PlainRule → Evaluated PlainMatch = λ n r. effected f c.args.question.now.config.now.rulesets c.args.placed.now.0 n r.effect in
    let test = tests c.args.placed.now.0 in
    let rules = c.args.placed.now.1 in
    let lane = c.loop-lane.lane in
    let r = c.rule-item.result in
    let items = c.eight_of-rule-items.ensures.value ∙ ap (eight_from (8 * c.args.block)) (c.as_slice.ensures.value ∙ c.value.ensures) in
    let left : drop lane c.eight_of-rule-items.result.now ≡ r ∷ drop (lane + 1) c.eight_of-rule-items.result.now = grind (arith, common_steps) in
    let here = ap (drop lane) (sym items) ∙ left ∙ ap (λ (rs : List PlainRule). r ∷ drop (lane + 1) rs) items in
    let lt = c.loop-lane-test.true in
    let few = c.eight_of-rule-items.ensures.few in
    let small : lane < 8 = omega (arith, lt, few) in
    let bit = c.requires.mask lane small ∙ lane_says test rules c.eight_of-rule-items.result.now c.args.block lane r items lt small c.rule-item.is in
    let rest = drop (lane + 1) (eight_from (8 * c.args.block) rules) in
    let n = 8 * c.args.block + lane in
    let next : n + 1 ≡ 8 * c.args.block + (lane + 1) = omega arith in
    let later : Option PlainMatch → Evaluated PlainMatch = λ o. and_then (Open o) (rules_give effect test (8 * c.args.block + (lane + 1)) rest) in
    let on : Option PlainMatch → ℕ → Evaluated PlainMatch = λ o k. and_then (Open o) (rules_give effect test k rest) in
    c.loop-lane.invariant ∙ elim c.if-is_set.branch [
      | each_match-then-is_set+in_ok-latest+in-Open-None w ↦ rule_goes_on effect test c.loop-lane.last None n _ r rest here (sym bit ∙ sym c.is_set.ensures ∙ w.if-is_set.true)
          (ap (settled r.quick) (ap (λ (o : Option PlainMatch). Open o) (sym w.in-Open-None.field-0-is) ∙ sym w.in-Open-None.is ∙ w.in_ok-latest.ensures))
          ∙ ap (on c.loop-lane.last) next ∙ ap later (sym w.last-is)
      | each_match-then-is_set+in_ok-latest+in-Open-Some+else-is_quick w ↦ rule_goes_on effect test c.loop-lane.last (Some w.in-Open-Some.latest) n _ r rest here (sym bit ∙ sym c.is_set.ensures ∙ w.if-is_set.true)
          (ap (λ (q : Bool). settled q (Open (Some w.in-Open-Some.latest))) (sym w.if-is_quick.false ∙ w.is_quick.ensures)
          ∙ ap (settled r.quick) (ap (λ (o : Option PlainMatch). Open o) (sym w.in-Open-Some.field-0-is) ∙ sym w.in-Open-Some.is ∙ w.in_ok-latest.ensures))
          ∙ ap (on (Some w.in-Open-Some.latest)) next ∙ ap later (sym w.last-is)
      | each_match-else-is_set w ↦ rule_passed effect test c.loop-lane.last n _ r rest here (sym bit ∙ sym c.is_set.ensures ∙ w.if-is_set.false)
          ∙ ap (on c.loop-lane.last) next ∙ ap later (sym w.last-is)
    ]

-- a path without bytes is the main ruleset's
main_path : (p : List ℕ) (b : Bool) → b ≡ true → b ≡ (length p == 0) → p ≡ []
main_path [] b none is = refl
main_path (x ∷ p) b none is = let filled : (length (x ∷ p) == 0) ≡ false = grind (arith, nat_tests) in absurd (cc (none, is, filled))

pub evaluate_targets-evaluate_further-requires : goal.evaluate_targets-evaluate_further-requires
evaluate_targets-evaluate_further-requires t c =
    let main = main_path c.args.path.now c.is_empty.result c.if-not-is_empty.false (c.is_empty.ensures ∙ ap (λ (w : List ℕ). length w == 0) c.as_bytes.ensures.value) in
    let at = ap (λ (p : List ℕ). path_within p c.args.reference.now.names) main ∙ c.path_from_main.ensures in
    let deeper = leads_deeper c.args.path.now c.args.reference.now.names c.path_from_main.result.bytes.now at in
    let same = ap (λ (e : PlainPlaced). depth e.0) c.in-Some.ensures.rules in
    (omega (arith, c.decreases, deeper.0, deeper.1, same), c.requires)

pub evaluate_targets-returns-in-Some : goal.evaluate_targets-returns-in-Some
evaluate_targets-returns-in-Some t c =
    let f = evaluation c.args.question.now.config.now.rulesets (matching c.args.question.now.config.now.tables c.args.question.now.packet.now) in
    let main = main_path c.args.path.now c.is_empty.result c.if-not-is_empty.false (c.is_empty.ensures ∙ ap (λ (w : List ℕ). length w == 0) c.as_bytes.ensures.value) in
    let at = ap (λ (p : List ℕ). path_within p c.args.reference.now.names) main ∙ c.path_from_main.ensures in
    let plain = sym c.is_wildcard.ensures ∙ c.if-is_wildcard.false in
    let same : f c.in-Some.placed.now ≡ in_turn f (targets c.args.question.now.config.now.rulesets c.args.path.now c.args.reference.now) =
    ap f c.in-Some.ensures.rules
    ∙ sym (ap (in_turn f) (targets_from c.args.question.now.config.now.rulesets c.args.path.now c.args.reference.now c.path_from_main.result.bytes.now false at plain)
    ∙ plain_turn f c.args.question.now.config.now.rulesets c.path_from_main.result.bytes.now c.placed_at.ensures.map.sorted (no_rules c.args.question.now.config.now.rulesets (matching c.args.question.now.config.now.tables c.args.question.now.packet.now) c.path_from_main.result.bytes.now)) in
    carried c.evaluate_further.result (c.args.question.now.is_bounded ≡ true) same c.evaluate_further.ensures

pub evaluate_targets-returns-in-None : goal.evaluate_targets-returns-in-None
evaluate_targets-returns-in-None t c =
    let f = evaluation c.args.question.now.config.now.rulesets (matching c.args.question.now.config.now.tables c.args.question.now.packet.now) in
    let main = main_path c.args.path.now c.is_empty.result c.if-not-is_empty.false (c.is_empty.ensures ∙ ap (λ (w : List ℕ). length w == 0) c.as_bytes.ensures.value) in
    let at = ap (λ (p : List ℕ). path_within p c.args.reference.now.names) main ∙ c.path_from_main.ensures in
    let plain = sym c.is_wildcard.ensures ∙ c.if-is_wildcard.false in
    let nothing = no_rules c.args.question.now.config.now.rulesets (matching c.args.question.now.config.now.tables c.args.question.now.packet.now) c.path_from_main.result.bytes.now in
    sym (ap (in_turn f) (targets_from c.args.question.now.config.now.rulesets c.args.path.now c.args.reference.now c.path_from_main.result.bytes.now false at plain)
    ∙ plain_turn f c.args.question.now.config.now.rulesets c.path_from_main.result.bytes.now c.placed_at.ensures.map.sorted nothing
    ∙ ap (λ (rs : List PlainRule). f (ruled c.path_from_main.result.bytes.now rs)) c.in-None.ensures.rules ∙ nothing)

pub evaluate_joined-returns-in_default : goal.evaluate_joined-returns-in_default
evaluate_joined-returns-in_default t c =
    let none = sym (ap (path_within c.args.path.now) c.names.ensures.value) ∙ sym c.joined-reached.ensures ∙ c.in_default.is in
    sym (ap (in_turn (evaluation c.args.question.now.config.now.rulesets (matching c.args.question.now.config.now.tables c.args.question.now.packet.now))) (no_targets c.args.question.now.config.now.rulesets c.args.path.now c.args.reference.now none))

pub evaluate_joined-evaluate_children-requires : goal.evaluate_joined-evaluate_children-requires
evaluate_joined-evaluate_children-requires t c =
    let at = sym (ap (path_within c.args.path.now) c.names.ensures.value) ∙ sym c.joined-reached.ensures ∙ c.in-Some.is in
    let deeper = leads_deeper c.args.path.now c.args.reference.now.names c.in-Some.base at in
    (omega (arith, c.decreases, deeper.0, deeper.1), c.requires)

pub evaluate_joined-returns-then-is_wildcard : goal.evaluate_joined-returns-then-is_wildcard
evaluate_joined-returns-then-is_wildcard t c =
    let f = evaluation c.args.question.now.config.now.rulesets (matching c.args.question.now.config.now.tables c.args.question.now.packet.now) in
    let at = sym (ap (path_within c.args.path.now) c.names.ensures.value) ∙ sym c.joined-reached.ensures ∙ c.in-Some.is in
    let wildcard = sym c.is_wildcard.ensures ∙ c.if-is_wildcard.true in
    let same : in_turn f (filter (λ e. is_child c.in-Some.base e.0) c.args.question.now.config.now.rulesets) ≡ in_turn f (targets c.args.question.now.config.now.rulesets c.args.path.now c.args.reference.now) =
    sym (ap (in_turn f) (targets_from c.args.question.now.config.now.rulesets c.args.path.now c.args.reference.now c.in-Some.base true at wildcard)) in
    carried c.evaluate_children.result (c.args.question.now.is_bounded ≡ true) same c.evaluate_children.ensures

pub evaluate_joined-evaluate_further-requires : goal.evaluate_joined-evaluate_further-requires
evaluate_joined-evaluate_further-requires t c =
    let at = sym (ap (path_within c.args.path.now) c.names.ensures.value) ∙ sym c.joined-reached.ensures ∙ c.in-Some.is in
    let deeper = leads_deeper c.args.path.now c.args.reference.now.names c.in-Some.base at in
    let same = ap (λ (e : PlainPlaced). depth e.0) c.in-Some-placed_at.ensures.rules in
    (omega (arith, c.decreases, deeper.0, deeper.1, same), c.requires)

pub evaluate_joined-returns-in-Some-placed_at : goal.evaluate_joined-returns-in-Some-placed_at
evaluate_joined-returns-in-Some-placed_at t c =
    let f = evaluation c.args.question.now.config.now.rulesets (matching c.args.question.now.config.now.tables c.args.question.now.packet.now) in
    let at = sym (ap (path_within c.args.path.now) c.names.ensures.value) ∙ sym c.joined-reached.ensures ∙ c.in-Some.is in
    let plain = sym c.is_wildcard.ensures ∙ c.if-is_wildcard.false in
    let same : f c.in-Some-placed_at.placed.now ≡ in_turn f (targets c.args.question.now.config.now.rulesets c.args.path.now c.args.reference.now) =
    ap f c.in-Some-placed_at.ensures.rules
    ∙ sym (ap (in_turn f) (targets_from c.args.question.now.config.now.rulesets c.args.path.now c.args.reference.now c.in-Some.base false at plain)
    ∙ plain_turn f c.args.question.now.config.now.rulesets c.in-Some.base c.placed_at.ensures.map.sorted (no_rules c.args.question.now.config.now.rulesets (matching c.args.question.now.config.now.tables c.args.question.now.packet.now) c.in-Some.base)) in
    carried c.evaluate_further.result (c.args.question.now.is_bounded ≡ true) same c.evaluate_further.ensures

pub evaluate_joined-returns-in-None : goal.evaluate_joined-returns-in-None
evaluate_joined-returns-in-None t c =
    let f = evaluation c.args.question.now.config.now.rulesets (matching c.args.question.now.config.now.tables c.args.question.now.packet.now) in
    let at = sym (ap (path_within c.args.path.now) c.names.ensures.value) ∙ sym c.joined-reached.ensures ∙ c.in-Some.is in
    let plain = sym c.is_wildcard.ensures ∙ c.if-is_wildcard.false in
    let nothing = no_rules c.args.question.now.config.now.rulesets (matching c.args.question.now.config.now.tables c.args.question.now.packet.now) c.in-Some.base in
    sym (ap (in_turn f) (targets_from c.args.question.now.config.now.rulesets c.args.path.now c.args.reference.now c.in-Some.base false at plain)
    ∙ plain_turn f c.args.question.now.config.now.rulesets c.in-Some.base c.placed_at.ensures.map.sorted nothing
    ∙ ap (λ (rs : List PlainRule). f (ruled c.in-Some.base rs)) c.in-None.ensures.rules ∙ nothing)

pub evaluate_children-evaluate_further-requires : goal.evaluate_children-evaluate_further-requires
evaluate_children-evaluate_further-requires t c =
    let deeper = child_deeper c.args.path.now c.in-Some.placed.now.0 (rw c.key.ensures at (sym c.if-is_child_of.ensures.value)) (rw c.key.ensures at c.is_child_of.ensures.path) in
    (omega (arith, c.decreases, deeper.0, deeper.1), c.requires)

pub evaluate_children-loop-placed-preserved-in-Open-Some : goal.evaluate_children-loop-placed-preserved-in-Open-Some
evaluate_children-loop-placed-preserved-in-Open-Some t c =
    let f = evaluation c.args.question.now.config.now.rulesets (matching c.args.question.now.config.now.tables c.args.question.now.packet.now) in
    let test : PlainPlaced → Bool = λ e. is_child c.args.path.now e.0 in
    let left : c.loop-placed.placed-iterator ≡ c.in-Some.placed.now ∷ c.next.new.self = c.in-Some.ensures.steps in
    let gives : Open (Some c.in-Open-Some.found) ≡ f c.in-Some.placed.now = ap (λ (o : Option PlainMatch). Open o) (sym c.in-Open-Some.field-0-is) ∙ sym c.in-Open-Some.is ∙ c.in_ok-found.ensures in
    c.loop-placed.invariant ∙ ap (λ (es : List PlainPlaced). and_then (Open c.loop-placed.last) (in_turn f (filter test es))) left
    ∙ child_step f test c.loop-placed.last c.in-Some.placed.now c.next.new.self (Open (Some c.in-Open-Some.found)) (rw c.key.ensures at (sym c.if-is_child_of.ensures.value)) gives
    ∙ then_open c.loop-placed.last (Some c.in-Open-Some.found) (in_turn f (filter test c.next.new.self))

pub evaluate_children-loop-placed-preserved-in-Open-None : goal.evaluate_children-loop-placed-preserved-in-Open-None
evaluate_children-loop-placed-preserved-in-Open-None t c =
    let f = evaluation c.args.question.now.config.now.rulesets (matching c.args.question.now.config.now.tables c.args.question.now.packet.now) in
    let test : PlainPlaced → Bool = λ e. is_child c.args.path.now e.0 in
    let left : c.loop-placed.placed-iterator ≡ c.in-Some.placed.now ∷ c.next.new.self = c.in-Some.ensures.steps in
    let gives : Open None ≡ f c.in-Some.placed.now = ap (λ (o : Option PlainMatch). Open o) (sym c.in-Open-None.field-0-is) ∙ sym c.in-Open-None.is ∙ c.in_ok-found.ensures in
    c.loop-placed.invariant ∙ ap (λ (es : List PlainPlaced). and_then (Open c.loop-placed.last) (in_turn f (filter test es))) left
    ∙ child_step f test c.loop-placed.last c.in-Some.placed.now c.next.new.self (Open None) (rw c.key.ensures at (sym c.if-is_child_of.ensures.value)) gives
    ∙ then_open c.loop-placed.last None (in_turn f (filter test c.next.new.self))

pub evaluate_children-returns-in-Ended : goal.evaluate_children-returns-in-Ended
evaluate_children-returns-in-Ended t c =
    let f = evaluation c.args.question.now.config.now.rulesets (matching c.args.question.now.config.now.tables c.args.question.now.packet.now) in
    let test : PlainPlaced → Bool = λ e. is_child c.args.path.now e.0 in
    let left : c.loop-placed.placed-iterator ≡ c.in-Some.placed.now ∷ c.next.new.self = c.in-Some.ensures.steps in
    sym (c.loop-placed.invariant ∙ ap (λ (es : List PlainPlaced). and_then (Open c.loop-placed.last) (in_turn f (filter test es))) left
    ∙ child_step f test c.loop-placed.last c.in-Some.placed.now c.next.new.self (Ended c.in-Ended.end) (rw c.key.ensures at (sym c.if-is_child_of.ensures.value)) (sym c.in-Ended.is ∙ c.in_ok-found.ensures))

pub evaluate_children-loop-placed-preserved : goal.evaluate_children-loop-placed-preserved
evaluate_children-loop-placed-preserved t c =
    let f = evaluation c.args.question.now.config.now.rulesets (matching c.args.question.now.config.now.tables c.args.question.now.packet.now) in
    let test : PlainPlaced → Bool = λ e. is_child c.args.path.now e.0 in
    let left : c.loop-placed.placed-iterator ≡ c.in-Some.placed.now ∷ c.next.new.self = c.in-Some.ensures.steps in
    c.loop-placed.invariant ∙ ap (λ (es : List PlainPlaced). and_then (Open c.loop-placed.last) (in_turn f (filter test es))) left
    ∙ no_child_step f test c.loop-placed.last c.in-Some.placed.now c.next.new.self (rw c.key.ensures at (sym c.if-is_child_of.ensures.value))
