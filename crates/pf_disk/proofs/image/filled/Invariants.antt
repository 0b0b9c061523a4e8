use Rattle.std.proofs.Common.{◌≡◌, ℕ, ◌<◌, cond, false, length, get_or}
use Rattle.pf_disk.specs.Filled.{fill_byte}
use Rattle.pf_disk.proofs.image.filled.Given as goal

abbrev pub invariant-loop-i : goal.invariant-loop-i
invariant-loop-i l = record {
  len : length l.image.items ≡ l.i;
  each : (k : ℕ) → k < l.i → get_or l.image.items k 0 ≡ cond (get_or l.replay.unsynced.items k false) (fill_byte l.fill k (get_or l.replay.kept.items k 0) (get_or l.replay.seen.items k 0)) (get_or l.replay.seen.items k 0);
}
