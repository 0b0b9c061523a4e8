use Rattle.std.proofs.Common.{◌≡◌, ◌+◌, ◌≤◌, ◌++◌, ◌∷◌, [], List, ℕ, refl, ap, ◌∙◌, length, map}
use Rattle.pf_disk.specs.declared.{memory.MemDisk.MemDisk, call.Call.Call}
use Rattle.pf_disk.specs.{Disk.overwritten, Calls.{Event, writing}, Kept.event_of}
use Rattle.pf_disk.proofs.Calls.{Wrote, wrote}
use Rattle.pf_disk.proofs.memory.MemDiskDisk.write_at.Goals as goal

kept : (m : MemDisk) (at : ℕ) (bytes new_bytes : List ℕ) (new : List Event) (call : Call) → at + length bytes ≤ length m.bytes.items → new ≡ map event_of m.calls.items ++ event_of call ∷ []
    → event_of call ≡ writing at bytes → new_bytes ≡ overwritten m.bytes.items at bytes → Wrote m.first.items new_bytes (length m.first.items) (map event_of m.calls.items) new at (length bytes)
kept m at bytes new_bytes new call fits noted is written =
    wrote m.first.items m.bytes.items new_bytes (length m.first.items) (map event_of m.calls.items) new at (length bytes) bytes (record { seen = m.seen_is; same_size = m.size_is; fit = m.calls_fit })
    fits refl (noted ∙ ap (λ (event : Event). map event_of m.calls.items ++ event ∷ []) is) written

pub invariant_of-self-in-Ok-keep : goal.invariant_of-self-in-Ok-keep
invariant_of-self-in-Ok-keep c =
    let it = kept c.args.self.now c.args.at c.args.bytes.now _ _ c.in-Ok.call c.requires.within c.in-Ok-keep.ensures.kept c.in-Ok.ensures c.overwrite.ensures in
    record { seen_is = it.keeps.seen; size_is = it.keeps.same_size; calls_fit = it.keeps.fit }

pub returns-in-Ok-keep-clause-unsynced : goal.returns-in-Ok-keep-clause-unsynced
returns-in-Ok-keep-clause-unsynced c i out =
    (kept c.args.self.now c.args.at c.args.bytes.now _ _ c.in-Ok.call c.requires.within c.in-Ok-keep.ensures.kept c.in-Ok.ensures c.overwrite.ensures).unsynced i out

pub returns-in-Ok-keep-clause-still : goal.returns-in-Ok-keep-clause-still
returns-in-Ok-keep-clause-still c i out =
    (kept c.args.self.now c.args.at c.args.bytes.now _ _ c.in-Ok.call c.requires.within c.in-Ok-keep.ensures.kept c.in-Ok.ensures c.overwrite.ensures).still i out

pub returns-in-Ok-keep-clause-marked : goal.returns-in-Ok-keep-clause-marked
returns-in-Ok-keep-clause-marked c i out =
    (kept c.args.self.now c.args.at c.args.bytes.now _ _ c.in-Ok.call c.requires.within c.in-Ok-keep.ensures.kept c.in-Ok.ensures c.overwrite.ensures).marked i out

pub returns-in-Ok-keep-clause-time : goal.returns-in-Ok-keep-clause-time
returns-in-Ok-keep-clause-time c =
    (kept c.args.self.now c.args.at c.args.bytes.now _ _ c.in-Ok.call c.requires.within c.in-Ok-keep.ensures.kept c.in-Ok.ensures c.overwrite.ensures).time
