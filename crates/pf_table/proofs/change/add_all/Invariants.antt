use Rattle.pf_table.proofs.Batches.{Adding}
use Rattle.pf_table.proofs.change.add_all.Given as goal

abbrev pub invariant-loop-at : goal.invariant-loop-at
invariant-loop-at l = Adding l.fn.table l.list l.at l.after l.noted l.answers.items
