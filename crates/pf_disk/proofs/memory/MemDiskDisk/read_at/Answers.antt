use Rattle.std.proofs.Common.{refl, sym, ◌∙◌, map, length}
use Rattle.pf_disk.specs.{Calls.reading, Kept.event_of, Memory.{first_of, events_of, seen_of}}
use Rattle.pf_disk.proofs.{Calls.still_keeps, OneMoreCall.{keeps, quiet}}
use Rattle.pf_disk.proofs.memory.MemDiskDisk.read_at.Goals as goal

pub invariant_of-self : goal.invariant_of-self
invariant_of-self c =
    let m = c.args.self.now in
    let it = still_keeps c.keep.result (first_of m) (seen_of m) (length (first_of m)) (events_of m) (map event_of c.keep.new.calls.items) reading (keeps m) refl refl c.keep.ensures.kept c.keep.ensures.same in
    record { seen_is = it.seen; size_is = it.same_size; calls_fit = it.fit }

pub returns-in-Ok-clause-unsynced : goal.returns-in-Ok-clause-unsynced
returns-in-Ok-clause-unsynced c i out = (quiet c.args.self.now _ reading refl refl c.in-Ok.ensures.kept).unsynced i ∙ out

pub returns-in-Ok-clause-still : goal.returns-in-Ok-clause-still
returns-in-Ok-clause-still c i out = sym ((quiet c.args.self.now _ reading refl refl c.in-Ok.ensures.kept).unsynced i) ∙ out

pub returns-in-Ok-clause-time : goal.returns-in-Ok-clause-time
returns-in-Ok-clause-time c = (quiet c.args.self.now _ reading refl refl c.in-Ok.ensures.kept).time
