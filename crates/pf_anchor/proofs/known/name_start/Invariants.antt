use Rattle.std.proofs.Common.{◌≡◌, ◌≢◌, ℕ, ◌<◌, ◌≤◌, ◌-◌, get_or}
use Rattle.pf_anchor.proofs.known.name_start.Given as goal

-- behind the last slash so far
abbrev pub invariant-loop-place : goal.invariant-loop-place
invariant-loop-place l = record {
  within : l.start ≤ l.place;
  slash : 0 < l.start → get_or l.bytes (l.start - 1) 0 ≡ 47;
  none : (k : ℕ) → l.start ≤ k → k < l.place → get_or l.bytes k 0 ≢ 47;
}
