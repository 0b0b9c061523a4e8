use Rattle.std.proofs.Common.{take}
use Rattle.pf_table.specs.{Edits.added, Indexed.AreIn}
use Rattle.pf_table.proofs.indexed.Indexed.with_added.Given as goal

abbrev pub invariant-loop-at : goal.invariant-loop-at
invariant-loop-at g l = AreIn g.T.PrefixIndex.has (added l.self (take l.at l.list)) l.tries.v4 l.tries.v6
