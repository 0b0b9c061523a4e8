use Rattle.std.proofs.Common.{◌≡◌, ◌++◌, ◌∷◌, [], List, refl, replicate}
use Rattle.pf_disk.specs.declared.file.FileDisk.{FileDisk}
use Rattle.pf_disk.specs.Calls.{Event, syncing}
use Rattle.pf_disk.proofs.Calls.{GoesOn, goes}
use Rattle.pf_disk.proofs.file.FileDiskDisk.sync.Goals as goal

synced : (f : FileDisk) (new : List Event) → new ≡ f.history.events ++ syncing ∷ [] → GoesOn (replicate f.size 0) f.bytes.items f.bytes.items f.size f.history.events new syncing
synced f new is = goes (replicate f.size 0) f.bytes.items f.bytes.items f.size f.history.events new syncing (record { seen = f.seen_is; same_size = f.size_is; fit = f.calls_fit }) refl is refl

pub invariant_of-self-2 : goal.invariant_of-self-2
invariant_of-self-2 c =
    let it = synced c.args.self.now _ c.note.ensures in
    record { seen_is = it.keeps.seen; size_is = it.keeps.same_size; calls_fit = it.keeps.fit }

pub returns-clause-synced : goal.returns-clause-synced
returns-clause-synced c i = (synced c.args.self.now _ c.note.ensures).unsynced i

pub returns-clause-unsynced : goal.returns-clause-unsynced
returns-clause-unsynced c i out = (synced c.args.self.now _ c.note.ensures).unsynced i

pub returns-clause-time : goal.returns-clause-time
returns-clause-time c = (synced c.args.self.now _ c.note.ensures).time
