use Rattle.std.proofs.Common.{◌≡◌, ◌++◌, map, take}
use Rattle.pf_values.specs.Interfaces.Mentions.{host_of}
use Rattle.pf_values.proofs.interfaces.mention.push_all.Given as goal

abbrev pub invariant-loop-one : goal.invariant-loop-one
invariant-loop-one l = l.hosts ≡ l.initial.hosts ++ map (host_of l.of_networks) (take l.one-index l.held)
