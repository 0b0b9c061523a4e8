use Rattle.std.proofs.{Common.{◌≡◌, ◌+◌, ◌-◌, ◌≤◌, ◌++◌, ◌∷◌, [], List, ℕ, refl, ap, ◌∙◌, length, take, drop, replicate, arith}, lemmas.List.{length-take, length-drop}}
use Rattle.pf_disk.specs.declared.file.FileDisk.{FileDisk}
use Rattle.pf_disk.specs.{Disk.overwritten, Calls.{Event, writing}}
use Rattle.pf_disk.proofs.Calls.{Wrote, wrote, written_again}
use Rattle.pf_disk.proofs.file.FileDiskDisk.write_at.Goals as goal

noted : (f : FileDisk) (at n : ℕ) (bytes new_bytes : List ℕ) (new : List Event) → at + n ≤ length f.bytes.items → length bytes ≡ n → new ≡ f.history.events ++ writing at bytes ∷ []
    → new_bytes ≡ overwritten f.bytes.items at bytes → Wrote (replicate f.size 0) new_bytes f.size f.history.events new at n
noted f at n bytes new_bytes new fits len is written =
    wrote (replicate f.size 0) f.bytes.items new_bytes f.size f.history.events new at n bytes (record { seen = f.seen_is; same_size = f.size_is; fit = f.calls_fit }) fits len is written

-- a write that failed: the bytes that were there are noted
again : (f : FileDisk) (at n : ℕ) (bytes : List ℕ) (new : List Event) → at + n ≤ length f.bytes.items → bytes ≡ f.bytes.items → new ≡ f.history.events ++ writing at (take (at + n - at) (drop at bytes)) ∷ []
    → Wrote (replicate f.size 0) f.bytes.items f.size f.history.events new at n
again f at n bytes new fits same is =
    let there = take n (drop at f.bytes.items) in
    let n_is : at + n - at ≡ n = omega arith in
    let slice : take (at + n - at) (drop at bytes) ≡ there = ap (λ (k : ℕ). take k (drop at bytes)) n_is ∙ ap (λ (l : List ℕ). take n (drop at l)) same in
    noted f at n there f.bytes.items new fits (omega (arith, length-take n (drop at f.bytes.items), length-drop at f.bytes.items, fits))
    (is ∙ ap (λ (l : List ℕ). f.history.events ++ writing at l ∷ []) slice) (written_again at n f.bytes.items fits)

pub invariant_of-self : goal.invariant_of-self
invariant_of-self c =
    let it = again c.args.self.now c.args.at (length c.args.bytes.now) c.deref.result.now _ c.requires.within c.deref.ensures.value c.note.ensures in
    record { seen_is = it.keeps.seen; size_is = it.keeps.same_size; calls_fit = it.keeps.fit }

pub invariant_of-self-2 : goal.invariant_of-self-2
invariant_of-self-2 c =
    let it = noted c.args.self.now c.args.at (length c.args.bytes.now) c.args.bytes.now _ _ c.requires.within refl c.note-2.ensures c.overwrite.ensures in
    record { seen_is = it.keeps.seen; size_is = it.keeps.same_size; calls_fit = it.keeps.fit }

pub returns-then-self-clause-unsynced : goal.returns-then-self-clause-unsynced
returns-then-self-clause-unsynced c i out = (again c.args.self.now c.args.at (length c.args.bytes.now) c.deref.result.now _ c.requires.within c.deref.ensures.value c.note.ensures).unsynced i out

pub returns-then-self-clause-still : goal.returns-then-self-clause-still
returns-then-self-clause-still c i out = (again c.args.self.now c.args.at (length c.args.bytes.now) c.deref.result.now _ c.requires.within c.deref.ensures.value c.note.ensures).still i out

pub returns-then-self-clause-marked : goal.returns-then-self-clause-marked
returns-then-self-clause-marked c i out = (again c.args.self.now c.args.at (length c.args.bytes.now) c.deref.result.now _ c.requires.within c.deref.ensures.value c.note.ensures).marked i out

pub returns-then-self-clause-time : goal.returns-then-self-clause-time
returns-then-self-clause-time c = (again c.args.self.now c.args.at (length c.args.bytes.now) c.deref.result.now _ c.requires.within c.deref.ensures.value c.note.ensures).time

pub returns-clause-unsynced : goal.returns-clause-unsynced
returns-clause-unsynced c i out = (noted c.args.self.now c.args.at (length c.args.bytes.now) c.args.bytes.now _ _ c.requires.within refl c.note-2.ensures c.overwrite.ensures).unsynced i out

pub returns-clause-still : goal.returns-clause-still
returns-clause-still c i out = (noted c.args.self.now c.args.at (length c.args.bytes.now) c.args.bytes.now _ _ c.requires.within refl c.note-2.ensures c.overwrite.ensures).still i out

pub returns-clause-marked : goal.returns-clause-marked
returns-clause-marked c i out = (noted c.args.self.now c.args.at (length c.args.bytes.now) c.args.bytes.now _ _ c.requires.within refl c.note-2.ensures c.overwrite.ensures).marked i out

pub returns-clause-time : goal.returns-clause-time
returns-clause-time c = (noted c.args.self.now c.args.at (length c.args.bytes.now) c.args.bytes.now _ _ c.requires.within refl c.note-2.ensures c.overwrite.ensures).time
