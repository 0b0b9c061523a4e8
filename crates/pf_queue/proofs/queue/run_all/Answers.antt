use Rattle.pf_queue.specs.Numbers.{noted_at}
use Rattle.pf_queue.proofs.Matching.{matched}
use Rattle.pf_queue.proofs.queue.run_all.Goals as goal

pub put_all-requires-clause-answered : goal.put_all-requires-clause-answered
put_all-requires-clause-answered g c = λ i p a at also.
    let m = matched (λ p. noted_at p.number.log p.number.number) g.B.RunsTogether.entry c.args.places.items c.args.jobs.items i p c.requires.numbered at in
    (g.B.RunsTogether.entry m.0, m.1, c.in-Ok.ensures.answered i m.0 a m.2 also)
