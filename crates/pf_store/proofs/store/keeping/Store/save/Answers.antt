use Rattle.std.proofs.Common.{◌≡◌, ◌+◌, ◌-◌, ◌<◌, ◌≤◌, ◌∙◌, ℕ, Err, List, true, false, length, map, sym, ap, subst, inl, inr, arith}
use Rattle.std.specs.Prelude.{◌⊎◌, if◌then◌else◌}
use Rattle.pf_disk.proofs.Writing.{failed_as, unmoved}
use Rattle.pf_disk.specs.Runs.{MayWrite}
use Rattle.pf_core.specs.Durable.Changes.{PlainDurable}
use Rattle.pf_snap.specs.{Banks.bank_size, declared.{banks.Banks.Banks, header.TheConstants.NEWEST}}
use Rattle.pf_store.specs.declared.encoding.recorded.Recorded.{Recorded}
use Rattle.pf_store.specs.{Groups.{allows_group, made_all, IsRecordOf}, Lengths.payload_length, Openings.IsOfSave, StoreFaults.is_add_fault, Stores.{FindsRoom, Holds}, StoreKept.{PlainStore, store_with}}
use Rattle.pf_store.proofs.{Allowing.{allowed_there, elsewhere}, Sized.{spare_roomy}}
use Rattle.pf_store.proofs.Saving.{have_held, held_synced, saved, store_has, unsaved}
use Rattle.pf_store.proofs.store.keeping.Store.save.Given.{Over}
use Rattle.pf_store.proofs.store.keeping.Store.save.Goals.{After-add_to}
use Rattle.pf_store.proofs.store.keeping.Store.save.Goals as goal

pub room-requires : goal.room-requires
room-requires g c = omega (arith, (c.self.invariant c.if-self.false).ready.journal.gate)

-- it finds room, so it has bytes, fewer than a bank has, and the version that it is written in allows it
pub record_group-requires : goal.record_group-requires
record_group-requires g c =
    let disk = c.self.inside.banks.journal.disk in
    let found : FindsRoom c.args.self.now.size c.args.before.now c.args.after.now (map g.C.AsChange.as_plain c.args.changes.now) = (c.has_room.ensures.found.0 c.if-not-has_room.false).1 in
    let size : c.args.self.now.size ≡ bank_size (length (g.D.Disk.seen disk)) = ap (λ (v : PlainStore g.row.D.Denot). v.size) (sym c.self.view_is) in
    let es = map g.C.AsChange.as_plain c.args.changes.now in
    record {
      formed = found.formed;
      allowed =
          subst (λ (v : ℕ). allows_group v (made_all es) ≡ true) (sym c.version_for-version.ensures)
          (allowed_there c.goes_here-here.result c.self.inside.banks.version es (λ here. (c.goes_here-here.ensures.0 here).0));
      short = omega (arith, found.room.room_left, size, (c.self.invariant c.if-self.false).ready.size.most);
    }

pub add_to-requires-clause-made : goal.add_to-requires-clause-made
add_to-requires-clause-made g c = (c.in-Ok.ensures.made.payload, c.in-Ok.ensures.made.is)

-- it is added to the bank that counts only if it has room there
pub add_to-requires-clause-room : goal.add_to-requires-clause-room
add_to-requires-clause-room g c here =
    let fits = (c.goes_here-here.ensures.0 here).1 in
    omega (arith, fits, c.room.ensures, c.in-Ok.ensures.long)

pub add_to-requires-clause-kept : goal.add_to-requires-clause-kept
add_to-requires-clause-kept g c =
    let d = g.D.Disk in
    let going : c.args.self.now.halted ≡ false = ap (λ (v : PlainStore g.row.D.Denot). v.halted) (sym c.self.view_is) ∙ c.if-self.false in
    store_has (c.self.invariant c.if-self.false)
    (subst (λ (v : PlainStore g.row.D.Denot). Holds (d.seen v.disk) c.args.before.now) (sym c.self.view_is) (c.requires.stands going).holds)

-- the record was added, or the device failed
module _ (g : Over) (c : After-add_to g) where
  abbrev es : List Recorded
  es = made_all (map g.C.AsChange.as_plain c.args.changes.now)

  of_these : IsRecordOf (if c.goes_here-here.result then c.self.inside.banks.version else NEWEST) es c.in-Ok.record
  of_these = subst (λ (v : ℕ). IsRecordOf v es c.in-Ok.record) c.version_for-version.ensures c.in-Ok.ensures.made

  adds : MayWrite g.D.Disk c.args.self.now.disk c.add_to.new.banks.journal.disk 10 (is_add_fault c.add_to.result)
      (λ image. c.args.self.now.halted ≡ false → IsOfSave (g.D.Disk.seen c.args.self.now.disk) (c.args.self.now.generation + 1) c.args.before.now c.args.after.now image)
  adds =
      let going = ap (λ (v : PlainStore g.row.D.Denot). v.halted) (sym c.self.view_is) ∙ c.if-self.false in
      let found = (c.has_room.ensures.found.0 c.if-not-has_room.false).1 in
      saved c.self.inside.banks c.self.inside.halted c.self.view_is es of_these c.requires.fit c.requires.leads (c.requires.stands going).holds (spare_roomy c.args.self.now.size c.args.after.now found.room.then) c.add_to.ensures.writes

pub invariant_of-self : goal.invariant_of-self
invariant_of-self g c going =
    let here = (goal.at.invariant_of-self g c).After-add_to in
    let kept = c.in-Ok-add_to.ensures.kept (es g here) (of_these g here) c.requires.fit in
    record { ready = c.in-Ok-add_to.ensures.ready; content = kept.content; keeps = kept.keeps; few = omega (arith, (c.self.invariant c.if-self.false).few, c.in-Ok-add_to.ensures.writes.faults) }

pub returns-in-Ok-add_to-clause-stands : goal.returns-in-Ok-add_to-clause-stands
returns-in-Ok-add_to-clause-stands g c =
    let here = (goal.at.returns-in-Ok-add_to-clause-stands g c).After-add_to in
    let disk = c.add_to.new.banks.journal.disk in
    let holds = have_held (c.in-Ok-add_to.ensures.kept (es g here) (of_these g here) c.requires.fit) in
    record { holds = subst (λ (k : PlainDurable). Holds (g.D.Disk.seen disk) k) (sym c.requires.leads) holds; synced = c.in-Ok-add_to.ensures.ready.journal.synced }

pub returns-in-Ok-add_to-clause-images : goal.returns-in-Ok-add_to-clause-images
returns-in-Ok-add_to-clause-images g c =
    let d = g.D.Disk in
    let here = (goal.at.returns-in-Ok-add_to-clause-images g c).After-add_to in
    let disk = c.add_to.new.banks.journal.disk in
    let holds = have_held (c.in-Ok-add_to.ensures.kept (es g here) (of_these g here) c.requires.fit) in
    held_synced (d.seen disk) (d.unsynced disk) c.args.after.now c.in-Ok-add_to.ensures.ready.journal.synced (subst (λ (k : PlainDurable). Holds (d.seen disk) k) (sym c.requires.leads) holds)

pub returns-in-Ok-add_to-clause-here : goal.returns-in-Ok-add_to-clause-here
returns-in-Ok-add_to-clause-here g c =
    let es = map g.C.AsChange.as_plain c.args.changes.now in
    subst (λ (v : PlainStore g.row.D.Denot). allows_group v.version (made_all es) ≡ true → payload_length (made_all es) + 6 ≤ v.room
    → (c.add_to.new.banks.generation ≡ v.generation) × (c.add_to.new.banks.version ≡ v.version)) c.self.view_is
    (λ allowed fits. c.in-Ok-add_to.ensures.here (c.goes_here-here.ensures.1 (allowed, omega (arith, fits, c.room.ensures))))

-- the room that is told
same_room : {A : Type 0} (gate room end n : ℕ) → gate + room ≡ end → A ⊎ (end - gate < n) → A ⊎ (room < n)
same_room gate room end n is (inl a) = inl a
same_room gate room end n is (inr less) = inr (omega (arith, is, less))

pub returns-in-Ok-add_to-clause-there : goal.returns-in-Ok-add_to-clause-there
returns-in-Ok-add_to-clause-there g c =
    let es = map g.C.AsChange.as_plain c.args.changes.now in
    subst (λ (v : PlainStore g.row.D.Denot). (allows_group v.version (made_all es) ≡ false) ⊎ (v.room < payload_length (made_all es) + 6)
    → (c.add_to.new.banks.generation ≡ v.generation + 1) × (c.add_to.new.banks.version ≡ NEWEST)) c.self.view_is
    (λ other. c.in-Ok-add_to.ensures.there
    (elsewhere c.goes_here-here.result (allows_group c.self.inside.banks.version (made_all es)) (payload_length (made_all es) + 6) c.room.result c.goes_here-here.ensures.0
    (same_room c.self.inside.banks.journal.gate c.room.result c.self.inside.banks.journal.end (payload_length (made_all es) + 6) c.room.ensures other)))

pub returns-in-Err-Memory-clause-unchanged : goal.returns-in-Err-Memory-clause-unchanged
returns-in-Err-Memory-clause-unchanged g c other =
    let same = c.in-Err-Memory.ensures.refused (ap (λ e. is_add_fault {T = Unit {0}} (Err e)) c.in-Err-Memory.field-0-is) in
    ap (λ (b : Banks g.row.D.Denot). store_with g.D.Disk.seen b c.self.inside.halted) same ∙ c.self.view_is

pub returns-in-Err-Full-clause-unchanged : goal.returns-in-Err-Full-clause-unchanged
returns-in-Err-Full-clause-unchanged g c other =
    let same = c.in-Err-Full.ensures.refused (ap (λ e. is_add_fault {T = Unit {0}} (Err e)) c.in-Err-Full.field-0-is) in
    ap (λ (b : Banks g.row.D.Denot). store_with g.D.Disk.seen b c.self.inside.halted) same ∙ c.self.view_is

pub returns-in-Ok-add_to-clause-room : goal.returns-in-Ok-add_to-clause-room
returns-in-Ok-add_to-clause-room g c = (c.has_room.ensures.found.0 c.if-not-has_room.false).1

pub returns-in-Err-Memory-clause-room : goal.returns-in-Err-Memory-clause-room
returns-in-Err-Memory-clause-room g c = (c.has_room.ensures.found.0 c.if-not-has_room.false).1

pub returns-clause-room : goal.returns-clause-room
returns-clause-room g c = (c.has_room.ensures.found.0 c.if-not-has_room.false).1

pub returns-in-Err-clause-room : goal.returns-in-Err-clause-room
returns-in-Err-clause-room g c = (c.has_room.ensures.found.0 c.if-not-has_room.false).1

-- ---- each image meanwhile

pub returns-then-self-clause-writes : goal.returns-then-self-clause-writes
returns-then-self-clause-writes g c =
    let old = c.args.self.now in
    let halted : old.halted ≡ true = ap (λ (v : PlainStore g.row.D.Denot). v.halted) (sym c.self.view_is) ∙ c.if-self.true in
    unmoved g.D.Disk old.disk {P = λ image. old.halted ≡ false → IsOfSave (g.D.Disk.seen old.disk) (old.generation + 1) c.args.before.now c.args.after.now image} (g.met.D.Disk.only_now old.disk) (λ i image going. cc (going, halted))

pub returns-then-not-has_room-clause-writes : goal.returns-then-not-has_room-clause-writes
returns-then-not-has_room-clause-writes g c =
    let old = c.args.self.now in
    unmoved g.D.Disk old.disk {P = λ image. old.halted ≡ false → IsOfSave (g.D.Disk.seen old.disk) (old.generation + 1) c.args.before.now c.args.after.now image} (g.met.D.Disk.only_now old.disk)
    (λ i image going. unsaved c.self.inside.halted c.args.after.now c.self.view_is (c.self.invariant c.if-self.false) (c.requires.stands going).holds i image)

pub returns-in-Err-clause-writes : goal.returns-in-Err-clause-writes
returns-in-Err-clause-writes g c =
    let old = c.args.self.now in
    unmoved g.D.Disk old.disk {P = λ image. old.halted ≡ false → IsOfSave (g.D.Disk.seen old.disk) (old.generation + 1) c.args.before.now c.args.after.now image} (g.met.D.Disk.only_now old.disk)
    (λ i image going. unsaved c.self.inside.halted c.args.after.now c.self.view_is (c.self.invariant c.if-self.false) (c.requires.stands going).holds i image)

pub returns-in-Ok-add_to-clause-writes : goal.returns-in-Ok-add_to-clause-writes
returns-in-Ok-add_to-clause-writes g c = failed_as (sym (ap is_add_fault c.in-Ok-add_to.is)) (adds g (goal.at.returns-in-Ok-add_to-clause-writes g c).After-add_to)

pub returns-in-Err-Memory-clause-writes : goal.returns-in-Err-Memory-clause-writes
returns-in-Err-Memory-clause-writes g c = failed_as (sym (ap is_add_fault (c.in-Err-Memory.is ∙ ap Err c.in-Err-Memory.field-0-is))) (adds g (goal.at.returns-in-Err-Memory-clause-writes g c).After-add_to)

pub returns-in-Err-Full-clause-writes : goal.returns-in-Err-Full-clause-writes
returns-in-Err-Full-clause-writes g c = failed_as (sym (ap is_add_fault (c.in-Err-Full.is ∙ ap Err c.in-Err-Full.field-0-is))) (adds g (goal.at.returns-in-Err-Full-clause-writes g c).After-add_to)

pub returns-clause-writes : goal.returns-clause-writes
returns-clause-writes g c = failed_as (sym (ap is_add_fault (c.in-Err-Fault.is ∙ ap Err c.in-Err-Fault.field-0-is))) (adds g (goal.at.returns-clause-writes g c).After-add_to)
