use Rattle.std.proofs.Common.{ℕ, ◌<◌, ◌≤◌, ◌≡◌, IfSome, slice_get}
use Rattle.wirdalf_c.specs.Answers.{IsJudged}
use Rattle.wirdalf_c.proofs.judging.judge_many.Given as goal

abbrev pub invariant-loop-i : goal.invariant-loop-i
invariant-loop-i l =
    ((k : ℕ) → k < l.i → IfSome (slice_get l.packets k) (λ p. IfSome (slice_get l.verdicts k) (λ v. IsJudged l.fn.holding p v)))
    × ((k : ℕ) → l.i ≤ k → slice_get l.verdicts k ≡ slice_get l.fn.verdicts k)
    × (l.holding ≡ l.fn.holding)
