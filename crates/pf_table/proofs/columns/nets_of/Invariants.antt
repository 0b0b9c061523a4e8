use Rattle.std.proofs.Common.{◌≡◌, take, map}
use Rattle.pf_table.proofs.columns.nets_of.Given as goal

abbrev pub invariant-loop-entry : goal.invariant-loop-entry
invariant-loop-entry l = l.nets.items ≡ map (λ e. e.0) (take l.entry-index l.entries)
