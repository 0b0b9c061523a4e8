use Rattle.pf_table.proofs.Batches.{Gathering}
use Rattle.pf_table.proofs.batch.gather.Given as goal

abbrev pub invariant-loop-at : goal.invariant-loop-at
invariant-loop-at l = Gathering l.entries l.at l.named
