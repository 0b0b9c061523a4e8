use Rattle.std.proofs.Common.{◌≡◌, ◌++◌, take}
use Rattle.std.specs.List.{flat_map}
use Rattle.pf_values.specs.Interfaces.Addresses.{host_at}
use Rattle.pf_values.proofs.interfaces.addresses.push_hosts.Given as goal

abbrev pub invariant-loop-text : goal.invariant-loop-text
invariant-loop-text l = l.tokens ≡ l.initial.tokens ++ flat_map (host_at l.mention.place l.mention.is_negated)
    (take l.text-index l.mention.texts)
