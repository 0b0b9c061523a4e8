use Rattle.std.proofs.Common.{take}
use Rattle.pf_conf.proofs.Defined.{Named, From}
use Rattle.pf_conf.proofs.filling.defined_once.Given as goal

-- the names of those before, and how many come before the first that is defined again
abbrev pub invariant-loop-number : goal.invariant-loop-number
invariant-loop-number l = Named l.names (take l.number l.tables) × From l.tables l.number
