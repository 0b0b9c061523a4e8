use Rattle.std.proofs.Common.{◌≡◌, length, map, take}
use Rattle.pf_disk.specs.{Calls.{at_rest, after}, Kept.event_of, Filled.Shows}
use Rattle.pf_disk.proofs.image.replayed.Given as goal

abbrev pub invariant-loop-call : goal.invariant-loop-call
invariant-loop-call l = record {
  shows : Shows l.replay (after (at_rest l.fn.first) (map event_of (take l.call-index l.calls)));
  size : length (after (at_rest l.fn.first) (map event_of (take l.call-index l.calls))).seen ≡ length l.fn.first;
}
