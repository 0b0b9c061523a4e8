use Rattle.std.proofs.Common.{◌≡◌, drop}
use Rattle.pf_parse.specs.Lines.{entries_of}
use Rattle.pf_parse.proofs.InTurn.{onto_these}
use Rattle.pf_parse.proofs.statements.entries_of.Given as goal

abbrev pub invariant-loop-host : goal.invariant-loop-host
invariant-loop-host l = onto_these l.entries (entries_of (drop l.host-index l.hosts)) ≡ entries_of l.hosts
