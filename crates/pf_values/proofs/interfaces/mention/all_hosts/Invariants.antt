use Rattle.std.proofs.Common.{◌≡◌, take}
use Rattle.std.specs.List.{flat_map}
use Rattle.pf_values.specs.Interfaces.Mentions.{hosts_of}
use Rattle.pf_values.proofs.interfaces.mention.all_hosts.Given as goal

abbrev pub invariant-loop-interface : goal.invariant-loop-interface
invariant-loop-interface l = l.hosts ≡ flat_map (hosts_of l.name l.of_networks) (take l.interface-index l.interfaces)
