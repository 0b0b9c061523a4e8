use Rattle.std.proofs.{Common.{◌≡◌, ◌≤◌, ◌+◌, ◌*◌, ◌<◌, ℕ, List, Option, Some, None, length, sym, ap, subst, ◌∙◌, arith}, lemmas.List.{drop_all}}
use Rattle.std.specs.Option.{option_or}
use Rattle.pf_rule.specs.{Host.Hosts.{TableTest}, Packets.{PlainPacket}, Rules.{PlainRule}}
use Rattle.pf_lanes.specs.{Answered.{block_match, eight_from}, Masks.{is_set}, Probes.{asked}}
use Rattle.pf_anchor.specs.{declared.{evaluate.LastBlock.{LastBlock}, evaluated.Evaluated.Evaluated, evaluated.Evaluated.TheVariants.Open}, Matches.{PlainMatch}, Rulesets.{PlainPlaced}, Configurations.{PlainConfig}, Tables.{tables_say}, Blocks.{NoneBetween, given_from}, Evaluation.{and_then, effected, rules_at_path, matching}, Known.{ruleset_gives}}
use Rattle.pf_anchor.proofs.Blocks.{Passes, block_goes_on, none_stops, none_found, one_found, some_last, further, last_within, at_last, blocks_passed, block_within, block_past}
use Rattle.pf_anchor.proofs.evaluate.pass_blocks.Goals.{then-mask-ne0, else-mask-ne0}
use Rattle.pf_anchor.proofs.evaluate.pass_blocks.Goals as goal

-- the blocks that a step skips
passes : (c : PlainConfig) (packet : PlainPacket) (placed : PlainPlaced) (last : Option PlainMatch) (from to : ℕ) → from ≤ to → NoneBetween (asked placed.1 packet) from to →
    given_from c packet placed from last ≡ given_from c packet placed to last
passes c packet placed last from to le none =
    ap (and_then (Open last)) (blocks_passed (λ n r. effected (ruleset_gives c packet) c.rulesets placed.0 n r.effect) (matching c.tables packet placed.0) placed.1 from to le (none (tables_say c.tables placed.0)))

-- a block, by what it gives
block_passed : (c : PlainConfig) (packet : PlainPacket) (placed : PlainPlaced) (last latest : Option PlainMatch) (block : ℕ) →
    rules_at_path (ruleset_gives c packet) c.rulesets (matching c.tables packet) placed.0 (8 * block) (eight_from (8 * block) placed.1) ≡ Open latest →
    given_from c packet placed block last ≡ given_from c packet placed (block + 1) (option_or latest last)
block_passed c packet placed last latest block gives =
    block_goes_on (λ n r. effected (ruleset_gives c packet) c.rulesets placed.0 n r.effect) (matching c.tables packet placed.0) last latest block placed.1 (sym gives)

-- behind all blocks
nothing_left : (c : PlainConfig) (packet : PlainPacket) (placed : PlainPlaced) (last : Option PlainMatch) (block : ℕ) → length placed.1 ≤ 8 * block → given_from c packet placed block last ≡ Open last
nothing_left c packet placed last block past =
    ap (λ (rs : List PlainRule). and_then (Open last) (rules_at_path (ruleset_gives c packet) c.rulesets (matching c.tables packet) placed.0 (8 * block) rs)) (drop_all (8 * block) placed.1 past)

pub loop-block-init : goal.loop-block-init
loop-block-init g c = (
  c.next_near-block.ensures.later,
  passes c.args.question.now.config.now c.args.question.now.packet.now c.args.placed.now c.args.before c.args.from c.next_near-block.result c.next_near-block.ensures.later
      (c.next_near-block.ensures.none (asked c.args.placed.now.1 c.args.question.now.packet.now) c.requires.probe),
)

pub last_so_far-last-requires : goal.last_so_far-last-requires
last_so_far-last-requires g c =
    last_within c.args.question.now.config.now c.args.question.now.packet.now c.args.placed.now c.args.from c.loop-block.block c.args.before c.loop-block.last_block c.loop-block.invariant.1

pub last_so_far-last-requires-2 : goal.last_so_far-last-requires-2
last_so_far-last-requires-2 g c =
    last_within c.args.question.now.config.now c.args.question.now.packet.now c.args.placed.now c.args.from c.loop-block.block c.args.before c.loop-block.last_block c.loop-block.invariant.1

pub returns-then-stopping-ne0 : goal.returns-then-stopping-ne0
returns-then-stopping-ne0 g c =
    let few = c.as_slice.ensures.few in
    let here = ap length c.value.ensures in
    let same = ap length (c.as_slice.ensures.value ∙ c.value.ensures) in
    let far = block_within (length c.as_slice.result.now) c.div_ceil-blocks.result c.loop-block.block c.div_ceil-blocks.ensures c.loop-block-test.true in
    record {
      later = c.loop-block.invariant.0;
      within = omega (arith, same, far);
      few = omega (arith, here, few, same, far);
      matching = λ i lt. c.matching_by-mask.ensures i lt
          ∙ ap (λ (says : TableTest). block_match says c.args.placed.now.1 c.args.question.now.packet.now c.loop-block.block i) c.requires.tables;
      gives = at_last c.args.question.now.config.now c.args.question.now.packet.now c.args.placed.now c.args.from c.loop-block.block c.args.before c.loop-block.last_block
          c.last_so_far-last.result c.loop-block.invariant.1 c.last_so_far-last.ensures;
    }

pub returns : goal.returns
returns g c =
    let config = c.args.question.now.config.now in
    let packet = c.args.question.now.packet.now in
    let last = c.last_so_far-last-2.result in
    let same = ap length (c.as_slice.ensures.value ∙ c.value.ensures) in
    let past = block_past (length c.as_slice.result.now) c.div_ceil-blocks.result c.loop-block.block c.div_ceil-blocks.ensures c.loop-block-test.false in
    at_last config packet c.args.placed.now c.args.from c.loop-block.block c.args.before c.loop-block.last_block last c.loop-block.invariant.1 c.last_so_far-last-2.ensures
    ∙ nothing_left config packet c.args.placed.now last c.loop-block.block (omega (arith, same, past))

pub loop-block-preserved : goal.loop-block-preserved
loop-block-preserved g c =
    let config = c.args.question.now.config.now in
    let packet = c.args.question.now.packet.now in
    let placed = c.args.placed.now in
    let tests = matching config.tables packet in
    let b = c.loop-block.block in
    let mask = c.matching_by-mask.result in
    let f = ruleset_gives config packet in
    let effect : ℕ → PlainRule → Evaluated PlainMatch = λ n r. effected f config.rulesets placed.0 n r.effect in
    let bits : (i : ℕ) → i < 8 → is_set mask i ≡ block_match (tables_say config.tables placed.0) placed.1 packet b i =
    λ i lt. c.matching_by-mask.ensures i lt ∙ ap (λ (says : TableTest). block_match says placed.1 packet b i) c.requires.tables in
    let free = none_stops placed.1 b mask c.stopping.result c.stopping.ensures c.if-stopping-ne0.false in
    let to = c.next_near-block-in-loop-block.result in
    let before = c.loop-block.invariant.0 in
    let next = c.next_near-block-in-loop-block.ensures.later in
    let onward = λ (last : Option PlainMatch). passes config packet placed last (b + 1) to next (c.next_near-block-in-loop-block.ensures.none (asked placed.1 packet) c.requires.probe) in
    let same = ap length (c.as_slice.ensures.value ∙ c.value.ensures) in
    let far = block_within (length c.as_slice.result.now) c.div_ceil-blocks.result b c.div_ceil-blocks.ensures c.loop-block-test.true in
    let Passed : Option LastBlock → Type 0 = Passes config packet placed c.args.from to c.args.before in (
      omega (arith, before, next),
      elim c.if-mask-ne0.branch [
        | then-mask-ne0 w ↦
            let one = one_found f config.rulesets placed.0 (tests placed.0) placed.1 b mask (record { each = bits }) free (omega arith) (omega arith) in
            let so_far = some_last config packet placed c.args.from b c.args.before c.loop-block.last_block c.loop-block.invariant.1 in
            subst Passed (sym w.last_block-is) (record {
              within = omega (arith, same, far);
              stands = one.0;
              is_its = λ last is. let gives = is f config.rulesets tests bits free ∙ one.1 in cc;
              gives = so_far.1 ∙ block_passed config packet placed so_far.0 (Some one.0) b one.1 ∙ onward (Some one.0);
            })
        | else-mask-ne0 w ↦
            subst Passed (sym w.last_block-is) (further config packet placed c.args.from b to c.args.before c.loop-block.last_block c.loop-block.invariant.1
            (λ last. block_passed config packet placed last None b (none_found effect (tests placed.0) placed.1 b mask (record { each = bits }) w.if-mask-ne0.false) ∙ onward last))
      ],
    )
