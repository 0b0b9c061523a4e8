use Rattle.std.proofs.{Common.{◌<◌, arith, refl, ◌∙◌, length}, Math.Nat.{min-le_left, min-le_right}}
use Rattle.wirdalf_c.proofs.Many.{get_set_other, pair_more}
use Rattle.wirdalf_c.specs.Answers.{IsJudged}
use Rattle.wirdalf_c.proofs.judging.judge_many.Goals as goal

pub loop-i-init : goal.loop-i-init
loop-i-init c = (λ k less. absurd (omega (arith, less)), λ k le. refl, refl)

pub loop-i-preserved : goal.loop-i-preserved
loop-i-preserved c =
    let here : c.loop-i.i < length c.args.packets.now = omega (arith, c.loop-i-test.true, c.min-count.ensures, min-le_left (length c.args.packets.now) (length c.args.verdicts.now)) in
    let there : c.loop-i.i < length c.loop-i.verdicts =
    omega (arith, c.loop-i-test.true, c.min-count.ensures, min-le_right (length c.args.packets.now) (length c.args.verdicts.now), c.loop-i.auto.verdicts) in
    let judged = rw c.loop-i.invariant.2 at c.judge.ensures.judged in (
      pair_more (IsJudged c.args.holding.now) c.args.packets.now c.loop-i.verdicts c.loop-i.i c.judge.new.verdict _ here there judged c.loop-i.invariant.0,
      λ k le. get_set_other c.loop-i.verdicts c.loop-i.i k c.judge.new.verdict (λ e. absurd (omega (arith, e, le))) ∙ c.loop-i.invariant.1 k (omega (arith, le)),
      c.judge.ensures.same ∙ c.loop-i.invariant.2,
    )

pub returns-clause-judged : goal.returns-clause-judged
returns-clause-judged c = λ i less. c.loop-i.invariant.0 i (omega (arith, less, c.loop-i-test.false))

pub returns-clause-rest : goal.returns-clause-rest
returns-clause-rest c = λ i le. c.loop-i.invariant.1 i (omega (arith, le, c.loop-i.auto.i-end))
