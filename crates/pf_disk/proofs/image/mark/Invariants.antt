use Rattle.std.proofs.Common.{◌≡◌, ℕ, ◌-◌, ◌<◌, ◌||◌, false, length, get_or}
use Rattle.pf_disk.specs.Disk.{is_within}
use Rattle.pf_disk.proofs.image.mark.Given as goal

abbrev pub invariant-loop-i : goal.invariant-loop-i
invariant-loop-i l = record {
  len : length l.marks.items ≡ length l.initial.marks.items;
  each : (k : ℕ) → k < length l.initial.marks.items → get_or l.marks.items k false ≡ (get_or l.initial.marks.items k false || is_within l.at (l.i - l.at) k);
}
