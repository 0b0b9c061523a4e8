use Rattle.std.proofs.Common.{◌≡◌, ◌+◌, ◌∙◌, ℕ, true, false, List, inl, refl, sym, ap, subst, arith}
use Rattle.pf_disk.proofs.Writing.{at_most, failed_as, weakened}
use Rattle.pf_disk.specs.Runs.{MayWrite}
use Rattle.pf_snap.specs.{Faults.is_fault as looked_fault, declared.fault.{LookFault.LookFault, LookFault.TheVariants.{BadSize, NoBank, Corrupt, Memory, Fault}}}
use Rattle.pf_snap.specs.{Looked.content_of, declared.header.TheConstants.NEWEST}
use Rattle.pf_snap.specs.Banks as snap
use Rattle.pf_core.specs.Durable.Changes.{PlainDurable}
use Rattle.pf_store.specs.{Openings.{HasRoomHere, IsFull, IsOfOpening, MakesNone, generation_of, version_of}, StoreFaults.{is_fault, unlooked}, Stores.Holds}
use Rattle.pf_store.proofs.{WithinLimits.made_within, Refusing.{calm, unopened}, Saving.{on_ok, on_both, opened, standing}}
use Rattle.pf_store.proofs.store.keeping.Store.open.Goals as goal

pub returns-in-Ok-replay-clause-opened : goal.returns-in-Ok-replay-clause-opened
returns-in-Ok-replay-clause-opened g c =
    let d = g.D.Disk in
    let l = c.in-Ok.looked in
    let b = c.in-Ok.banks in
    let k = c.in-Ok-replay.durable in
    let keeps = c.in-Ok.ensures.keeps c.in-Ok-replay.ensures.whole in
    let held : Holds (d.seen c.args.disk) k = record {
      content = content_of l;
      bank = subst (λ (x : List ℕ). snap.Holds x (content_of l)) c.in-Ok.ensures.unwritten.seen (record { at = b.at; other = b.other; holds = keeps.holds });
      makes = c.in-Ok-replay.ensures.made;
    } in
    on_both c.raise_on.result _ _ _ (λ r is up. (k, held, is.0, is.1, omega (arith, up, keeps.generation), c.in-Ok.ensures.found.early)) c.raise_on.ensures.raised c.raise_on.ensures.generation

pub returns-in-Ok-replay-clause-images : goal.returns-in-Ok-replay-clause-images
returns-in-Ok-replay-clause-images g c =
    on_ok c.raise_on.result _ _ (λ r s. standing s) c.raise_on.ensures.stands

pub returns-in-Ok-replay-clause-within : goal.returns-in-Ok-replay-clause-within
returns-in-Ok-replay-clause-within g c = on_ok c.raise_on.result _ _ (λ r s. made_within s.holds.content r.0 s.holds.makes) c.raise_on.ensures.stands

pub returns-in-Ok-replay-clause-room : goal.returns-in-Ok-replay-clause-room
returns-in-Ok-replay-clause-room g c =
    on_ok c.raise_on.result _ _ (λ r none e full. none e (subst (λ (x : List ℕ). IsFull x e) (sym c.in-Ok.ensures.unwritten.seen) full)) c.raise_on.ensures.room

pub returns-in-Ok-replay-clause-here : goal.returns-in-Ok-replay-clause-here
returns-in-Ok-replay-clause-here g c =
    on_ok c.raise_on.result _ _
    (λ r here. subst (λ (x : List ℕ). (e : PlainDurable) (held : Holds x e) → HasRoomHere x e held → (r.1.generation ≡ generation_of x e held) × (r.1.version ≡ version_of x e held)) c.in-Ok.ensures.unwritten.seen here)
    c.raise_on.ensures.here

pub returns-in-Ok-replay-clause-there : goal.returns-in-Ok-replay-clause-there
returns-in-Ok-replay-clause-there g c =
    on_ok c.raise_on.result _ _
    (λ r there. subst (λ (x : List ℕ). (e : PlainDurable) (held : Holds x e) → ¬ HasRoomHere x e held → (r.1.generation ≡ generation_of x e held + 1) × (r.1.version ≡ NEWEST)) c.in-Ok.ensures.unwritten.seen there)
    c.raise_on.ensures.there

pub returns-in-Ok-replay-clause-writes : goal.returns-in-Ok-replay-clause-writes
returns-in-Ok-replay-clause-writes g c =
    let l = c.in-Ok.looked in
    let b = c.in-Ok.banks in
    let keeps = c.in-Ok.ensures.keeps c.in-Ok-replay.ensures.whole in
    let held : Holds (g.D.Disk.seen c.args.disk) c.in-Ok-replay.durable = record {
      content = content_of l;
      bank = subst (λ (x : List ℕ). snap.Holds x (content_of l)) c.in-Ok.ensures.unwritten.seen (record { at = b.at; other = b.other; holds = keeps.holds });
      makes = c.in-Ok-replay.ensures.made;
    } in
    opened c.in-Ok.ensures.unwritten held (omega (arith, keeps.generation)) c.raise_on.ensures.writes

-- it was read, and isn't opened
pub returns-in-Ok-clause-writes : goal.returns-in-Ok-clause-writes
returns-in-Ok-clause-writes g c =
    let d = g.D.Disk in
    let old = c.args.disk in
    let l = c.in-Ok.looked in
    let P = IsOfOpening (d.seen old) (d.unsynced old) in
    failed_as (calm c.in-Err-replay.fault (MakesNone (l.broken ≡ true) l.at (content_of l)) c.in-Err-replay.ensures.refused)
    (subst (λ x. MayWrite d old x 15 false P) (sym c.into_disk.ensures) (at_most {most = 15} (weakened {Q = P} c.in-Ok.ensures.unwritten.run (λ i image. inl image)) (omega arith)))

same_fault : (fault : LookFault) → is_fault (unlooked fault) ≡ looked_fault fault
same_fault BadSize = refl
same_fault NoBank = refl
same_fault (Corrupt at) = refl
same_fault Memory = refl
same_fault Fault = refl

pub returns-clause-writes : goal.returns-clause-writes
returns-clause-writes g c =
    let d = g.D.Disk in
    let old = c.args.disk in
    failed_as (ap is_fault c.into.ensures ∙ same_fault c.in-Err.fault)
    (at_most {most = 15} (weakened {Q = IsOfOpening (d.seen old) (d.unsynced old)} c.in-Err.ensures.unwritten_err.run (λ i image. inl image)) (omega arith))

pub returns-in-Ok-clause-refused : goal.returns-in-Ok-clause-refused
returns-in-Ok-clause-refused g c =
    let l = c.in-Ok.looked in
    let found = c.in-Ok.ensures.found in
    unopened (g.D.Disk.seen c.args.disk) l.at l.other (content_of l) (l.broken ≡ true) c.in-Err-replay.fault found.size found.places found.counts found.early found.front found.whole c.in-Ok.ensures.broken c.in-Err-replay.ensures.refused
