use Rattle.pf_commit.specs.Loading.{SentStopped}
use Rattle.pf_commit.proofs.loading.load.Given as goal

abbrev pub invariant-tries : goal.invariant-tries
invariant-tries g l = SentStopped l.conf l.counter (g.W.Write.contents l.initial.server) (g.W.Write.contents l.server)
