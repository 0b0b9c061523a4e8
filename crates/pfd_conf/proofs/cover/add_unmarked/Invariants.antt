use Rattle.std.proofs.Common.{◌≡◌, ◌++◌, drop}
use Rattle.pfd_conf.specs.Covering.{unmarked_from}
use Rattle.pfd_conf.proofs.cover.add_unmarked.Given as goal

abbrev pub invariant-loop-number : goal.invariant-loop-number
invariant-loop-number l =
    l.fn.unmarked ++ unmarked_from l.within 0 l.marks l.rules ≡ l.unmarked ++ unmarked_from l.within l.number l.marks
    (drop l.number l.rules)
