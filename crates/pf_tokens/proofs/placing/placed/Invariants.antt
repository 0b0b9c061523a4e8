use Rattle.std.proofs.Common.{◌≡◌, ◌+◌, ◌-◌, ◌≤◌, ◌<◌, ◌^◌, ◌++◌, length, drop}
use Rattle.pf_tokens.specs.Placed.{placed}
use Rattle.pf_tokens.proofs.placing.placed.Given as goal

abbrev pub invariant-loop-at : goal.invariant-loop-at
invariant-loop-at l = record {
  within : l.at ≤ length l.text;
  is : placed l.fn.start l.text ≡ l.out ++ placed l.place (drop l.at l.text);
  line : l.place.line + (length l.text - l.at) + 1 < 2 ^ 32;
  column : l.place.column + (length l.text - l.at) + 1 < 2 ^ 32;
}

abbrev pub decreases-loop-at : goal.decreases-loop-at
decreases-loop-at l = length l.text - l.at
