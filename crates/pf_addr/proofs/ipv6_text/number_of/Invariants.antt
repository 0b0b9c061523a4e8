use Rattle.std.proofs.Common.{◌≡◌, ◌<◌, ◌^◌, take}
use Rattle.pf_addr.specs.Grammar.{v6_number}
use Rattle.pf_addr.proofs.ipv6_text.number_of.Given as goal

abbrev pub invariant-loop-group : goal.invariant-loop-group
invariant-loop-group l = record {
  same : l.number ≡ v6_number (take l.group-index l.groups);
  small : l.number < 65536 ^ l.group-index;
}
