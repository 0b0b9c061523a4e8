use Rattle.std.proofs.Common.{◌≡◌, ◌+◌, ⊎_elim, ℕ, false, List, [], ◌∷◌, arith, length, Err, refl, sym, ◌∙◌, ap, subst}
use Rattle.pf_disk.proofs.{Images.only_read, Writing.{failed_as, unmoved, weakened}}
use Rattle.pf_disk.specs.Runs.{MayWrite}
use Rattle.pf_snap.specs.Banks as snap
use Rattle.pf_core.specs.{Durable.Changes.PlainDurable, Worlds.raised}
use Rattle.pf_store.specs.{Openings.{HoldsBy, IsUnopened}, StoreFaults.{is_add_fault, is_fault, unadded}, Stores.{Holds, HoldsEither}}
use Rattle.pf_store.specs.declared.{encoding.recorded.Recorded.TheVariants.Opens as opens, store.fault.{AddFault.AddFault, OpenFault.TheVariants.BadSize}}
use Rattle.pf_store.specs.declared.store.fault.AddFault.TheVariants as adding
use Rattle.pf_store.specs.declared.store.fault.OpenFault.TheVariants as opening
use Rattle.pf_store.proofs.Refusing.{held_in_want}
use Rattle.pf_store.proofs.Saving.{by_generation, by_version, either_added, either_yet, have_held, is_full, no_later, no_room_here, not_called, room_here, tells_full}
use Rattle.pf_store.proofs.store.keeping.raise_on.Goals as goal

-- the error that the record wasn't added for, as that of the opening

same_fault : (fault : AddFault) → is_fault (unadded fault) ≡ is_add_fault {T = Unit {0}} (Err fault)
same_fault adding.Memory = refl
same_fault adding.Full = refl
same_fault adding.Fault = refl

no_size : (fault : AddFault) → unadded fault ≡ BadSize → ⊥
no_size adding.Memory is = cc (is)
no_size adding.Full is = cc (is)
no_size adding.Fault is = cc (is)

refused : (fault : AddFault) (seen : List ℕ) → IsUnopened opening.Memory seen → (fault ≡ adding.Full → IsUnopened opening.Full seen) → IsUnopened opening.Fault seen → IsUnopened (unadded fault) seen
refused adding.Memory seen memory full failed = memory
refused adding.Full seen memory full failed = full refl
refused adding.Fault seen memory full failed = failed

-- no call was made
pub returns-in-Err-clause-writes : goal.returns-in-Err-clause-writes
returns-in-Err-clause-writes g c =
    let d = g.D.Disk in
    let b = c.args.banks in
    let old = b.journal.disk in
    let k = c.args.durable.now in
    let none : is_fault c.in-Err.fault ≡ false = ⊎_elim (λ is. ap is_fault is.0) (λ last. ap is_fault last.0) c.in-Err.ensures.refused in
    failed_as none
    (subst (λ x. MayWrite d old x 10 false (HoldsBy (d.seen old) (b.generation + 1) (HoldsEither k (raised k)))) (sym c.into_disk.ensures)
    (unmoved d old (g.met.D.Disk.only_now old) (λ i image. either_yet k (raised k) i (not_called c.requires.kept c.requires.ready i image))))

pub returns-in-Ok-add-clause-writes : goal.returns-in-Ok-add-clause-writes
returns-in-Ok-add-clause-writes g c =
    let k = c.args.durable.now in
    weakened c.in-Ok-add.ensures.writes (either_added (raised k) (opens (k.epoch + 1) ∷ []) c.in-Ok.ensures.made (refl, tt) refl)

pub returns-in-Err-add-clause-writes : goal.returns-in-Err-add-clause-writes
returns-in-Err-add-clause-writes g c =
    let d = g.D.Disk in
    let b = c.args.banks in
    let old = b.journal.disk in
    let k = c.args.durable.now in
    let fault = c.in-Err-add.fault in
    failed_as (ap is_fault c.into.ensures ∙ same_fault fault)
    (subst (λ x. MayWrite d old x 10 (is_add_fault {T = Unit {0}} (Err fault)) (HoldsBy (d.seen old) (b.generation + 1) (HoldsEither k (raised k)))) (sym c.into_disk-in-Err-add.ensures)
    (weakened c.in-Err-add.ensures.writes (either_added (raised k) (opens (k.epoch + 1) ∷ []) c.in-Ok.ensures.made (refl, tt) refl)))

pub returns-in-Err-add-clause-untouched : goal.returns-in-Err-add-clause-untouched
returns-in-Err-add-clause-untouched g c none =
    let fault = c.in-Err-add.fault in
    c.into_disk-in-Err-add.ensures ∙ ap (λ b. b.journal.disk) (c.in-Err-add.ensures.refused (sym (ap is_fault c.into.ensures ∙ same_fault fault) ∙ none))

pub returns-in-Err-add-clause-not_size : goal.returns-in-Err-add-clause-not_size
returns-in-Err-add-clause-not_size g c is = no_size c.in-Err-add.fault (sym c.into.ensures ∙ is)

pub returns-in-Err-add-clause-refused : goal.returns-in-Err-add-clause-refused
returns-in-Err-add-clause-refused g c =
    let seen = g.D.Disk.seen c.args.banks.journal.disk in
    let k = c.requires.kept in
    let fault = c.in-Err-add.fault in
    subst (λ e. IsUnopened e seen) (sym c.into.ensures)
    (refused fault seen (held_in_want seen c.args.durable.now (have_held k) (omega (arith, c.requires.early, k.keeps.generation)))
    (λ full. (
      c.args.durable.now,
      is_full c.requires.ready k (length c.in-Ok.raised.1.after_gate.items + 1) c.in-Ok.ensures.long c.requires.early c.in-Ok.ensures.next (c.in-Err-add.ensures.full.0 (ap Err full)),
    )) k.keeps.holds.size)

pub returns-in-Err-clause-refused : goal.returns-in-Err-clause-refused
returns-in-Err-clause-refused g c =
    let seen = g.D.Disk.seen c.args.banks.journal.disk in
    let k = c.requires.kept in
    let mine = have_held k in
    ⊎_elim
    (λ is. subst (λ e. IsUnopened e seen) (sym is.0) (held_in_want seen c.args.durable.now mine (omega (arith, c.requires.early, k.keeps.generation))))
    (λ last. subst (λ e. IsUnopened e seen) (sym last.0) (c.args.durable.now, mine, omega (arith, c.requires.early, k.keeps.generation), last.1))
    c.in-Err.ensures.refused

pub add-requires-clause-made : goal.add-requires-clause-made
add-requires-clause-made g c =
    let is = c.in-Ok.ensures.made 1 in
    (is.payload, is.is)

pub invariant_of-result : goal.invariant_of-result
invariant_of-result g c going =
    let k = c.args.durable.now in
    let kept = c.in-Ok-add.ensures.kept (opens (k.epoch + 1) ∷ []) c.in-Ok.ensures.made (refl, tt) in
    record { ready = c.in-Ok-add.ensures.ready; content = kept.content; keeps = kept.keeps; few = omega (arith, c.requires.few, c.in-Ok-add.ensures.writes.faults) }

pub returns-in-Ok-add-clause-room : goal.returns-in-Ok-add-clause-room
returns-in-Ok-add-clause-room g c e full =
    cc (c.in-Ok-add.ensures.full.1 (tells_full c.requires.ready c.requires.kept (length c.in-Ok.raised.1.after_gate.items + 1) c.in-Ok.ensures.long e full))

pub returns-in-Ok-add-clause-here : goal.returns-in-Ok-add-clause-here
returns-in-Ok-add-clause-here g c e held room =
    let r = c.requires in
    let n = length c.in-Ok.raised.1.after_gate.items + 1 in
    let twelve = c.in-Ok.ensures.long in
    let both = c.in-Ok-add.ensures.here (room_here r.ready r.kept n twelve e held room) in
    (both.0 ∙ sym (by_generation r.ready r.kept n twelve e held), both.1 ∙ sym (by_version r.ready r.kept n twelve e held))

pub returns-in-Ok-add-clause-there : goal.returns-in-Ok-add-clause-there
returns-in-Ok-add-clause-there g c e held full =
    let r = c.requires in
    let n = length c.in-Ok.raised.1.after_gate.items + 1 in
    let twelve = c.in-Ok.ensures.long in
    let both = c.in-Ok-add.ensures.there (no_room_here r.ready r.kept n twelve e held full) in
    (both.0 ∙ ap (λ (n : ℕ). n + 1) (sym (by_generation r.ready r.kept n twelve e held)), both.1)

pub returns-in-Ok-add-clause-stands : goal.returns-in-Ok-add-clause-stands
returns-in-Ok-add-clause-stands g c =
    let k = c.args.durable.now in
    let disk = c.add.new.banks.journal.disk in
    let holds = have_held (c.in-Ok-add.ensures.kept (opens (k.epoch + 1) ∷ []) c.in-Ok.ensures.made (refl, tt)) in
    record { holds = subst (λ (x : PlainDurable). Holds (g.D.Disk.seen disk) x) (sym c.in-Ok.ensures.raised) holds; synced = c.in-Ok-add.ensures.ready.journal.synced }

pub returns-in-Ok-add-clause-generations : goal.returns-in-Ok-add-clause-generations
returns-in-Ok-add-clause-generations g c image is_image =
    let d = g.D.Disk in
    let k = c.args.durable.now in
    let new = c.add.new.banks in
    let kept = c.in-Ok-add.ensures.kept (opens (k.epoch + 1) ∷ []) c.in-Ok.ensures.made (refl, tt) in
    let same = only_read (d.seen new.journal.disk) (d.unsynced new.journal.disk) image c.in-Ok-add.ensures.ready.journal.synced is_image in
    no_later new.generation kept.content (omega (arith, kept.keeps.generation)) image
    (subst (λ (l : List ℕ). snap.Holds l kept.content) (sym same) (record { at = new.at; other = new.other; holds = kept.keeps.holds }))
