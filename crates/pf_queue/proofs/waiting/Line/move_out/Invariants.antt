use Rattle.std.proofs.Common.{◌≡◌, ◌≤◌, ◌++◌, map, Some, vec_len, vec_capacity}
use Rattle.pf_queue.specs.Numbers.{noted_at}
use Rattle.pf_queue.proofs.waiting.Line.move_out.Given as goal

abbrev pub invariant-loop-i : goal.invariant-loop-i
invariant-loop-i g l = record {
  jobs : vec_len l.jobs ≡ l._i;
  places : vec_len l.places ≡ l._i;
  job_room : 64 ≤ vec_capacity l.jobs;
  place_room : 64 ≤ vec_capacity l.places;
  numbered : map (λ p. noted_at p.number.log p.number.number) l.places.items ≡ map (λ j. Some (g.B.RunsTogether.entry j)) l.jobs.items;
  all : map (λ w. w.job) l.initial.self.jobs.items ≡ l.jobs.items ++ map (λ w. w.job) l.self.jobs.items;
}
