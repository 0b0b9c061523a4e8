use Rattle.std.proofs.Common.{◌≡◌, ◌++◌, take, drop}
use Rattle.pf_table.specs.Edits.{deleted, deletions}
use Rattle.pf_table.proofs.change.delete_all.Given as goal

abbrev pub invariant-loop-entry : goal.invariant-loop-entry
invariant-loop-entry l = record {
  so_far : l.after ≡ deleted l.fn.entries (take l.entry-index l.list);
  reported : l.answers.items ++ deletions (deleted l.fn.entries (take l.entry-index l.list))
      (drop l.entry-index l.list) ≡ deletions l.fn.entries l.list;
}
