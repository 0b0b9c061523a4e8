use Rattle.std.proofs.Common.{◌≡◌, map, Some}
use Rattle.std.specs.Vec.Iter.{into_iter_items, into_iter_len}
use Rattle.pf_queue.specs.Numbers.{noted_at}
use Rattle.pf_queue.proofs.queue.run_each.Given as goal

abbrev pub invariant-loop-place : goal.invariant-loop-place
invariant-loop-place g l = map (λ p. noted_at p.number.log p.number.number) (into_iter_items l.places) ≡ map (λ j. Some (g.B.RunsTogether.entry j)) (into_iter_items l.jobs)

abbrev pub decreases-loop-place : goal.decreases-loop-place
decreases-loop-place g l = into_iter_len l.places
