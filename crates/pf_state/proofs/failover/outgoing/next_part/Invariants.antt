use Rattle.std.proofs.Common.{◌≡◌, ◌++◌, ◌-◌, take, drop}
use Rattle.pf_state.proofs.failover.outgoing.next_part.Given as goal

abbrev pub invariant-loop-reported : goal.invariant-loop-reported
invariant-loop-reported l = record {
  part : l.part.items ++ take (31 - l.reported) l.rest ≡ take 31 l.initial.rest;
  left : drop (31 - l.reported) l.rest ≡ drop 31 l.initial.rest;
}
