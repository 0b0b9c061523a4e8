use Rattle.std.proofs.Common.{◌≡◌, drop}
use Rattle.pf_conf.specs.Commit.Naming.{ticket_of}
use Rattle.pf_conf.proofs.commit.naming.ticket_of.Given as goal

abbrev pub invariant-loop-one : goal.invariant-loop-one
invariant-loop-one l = ticket_of l.begun l.name ≡ ticket_of (drop l.one-index l.begun) l.name
