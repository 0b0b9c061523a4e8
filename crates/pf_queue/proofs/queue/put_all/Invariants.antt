use Rattle.std.proofs.Common.{◌≡◌}
use Rattle.std.specs.Vec.Iter.{into_iter_items, into_iter_len}
use Rattle.pf_queue.specs.{Answering.AreAnswers, Numbers.noted_at}
use Rattle.pf_queue.proofs.queue.put_all.Given as goal

abbrev pub invariant-loop-place : goal.invariant-loop-place
invariant-loop-place g l = record {
  each : into_iter_len l.places ≡ into_iter_len l.answers;
  answered : AreAnswers g.B.RunsTogether.Answers (λ p. noted_at p.number.log p.number.number) (into_iter_items l.places) (into_iter_items l.answers);
}

abbrev pub decreases-loop-place : goal.decreases-loop-place
decreases-loop-place g l = into_iter_len l.places
