use Rattle.std.proofs.Common.{ℕ, Bool, ◌||◌, take}
use Rattle.pfd_conf.specs.Covering.{AreMarks, decides_any}
use Rattle.pfd_conf.proofs.cover.mark_all.Given as goal

abbrev pub invariant-loop-outcome : goal.invariant-loop-outcome
invariant-loop-outcome l = (P : ℕ → Bool) (count : ℕ) → AreMarks P count l.fn.marks.items →
    AreMarks (λ k. P k || decides_any l.within k (take l.outcome-index l.outcomes)) count l.marks.items
