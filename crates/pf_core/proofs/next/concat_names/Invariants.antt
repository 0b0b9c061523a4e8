use Rattle.std.proofs.Common.{◌≡◌, take}
use Rattle.pf_core.proofs.next.concat_names.Given as goal

abbrev pub invariant-loop-name : goal.invariant-loop-name
invariant-loop-name l = l.all.items ≡ take l.name-index l.before
