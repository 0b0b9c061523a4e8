use Rattle.std.proofs.Common.{◌≡◌, ◌++◌}
use Rattle.pf_parse.proofs.lists.append.Given as goal

abbrev pub invariant-loop-host : goal.invariant-loop-host
invariant-loop-host l = l.hosts ≡ l.initial.hosts ++ l.yielded
