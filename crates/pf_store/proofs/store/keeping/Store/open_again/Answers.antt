use Rattle.std.proofs.{Common.{◌≡◌, ◌∙◌, ◌+◌, ◌^◌, ◌<◌, ◌≤◌, false, refl, sym, ap, subst, arith}, lemmas.Bool.false≢true}
use Rattle.std.specs.Prelude.{Result, Ok, Err, IfOk, IfErr}
use Rattle.pf_disk.specs.{Disk.{EachMoment, IsImage}, Runs.MayWrite}
use Rattle.pf_disk.proofs.Writing.{unmoved}
use Rattle.pf_snap.specs.declared.header.TheConstants.{NEWEST}
use Rattle.pf_core.specs.{Durable.Changes.PlainDurable, Worlds.{last_epoch, raised}}
use Rattle.pf_store.specs.{Openings.{HasRoomHere, IsOfOpening, generation_of, version_of}, Stores.Holds, StoreFaults.is_opening_fault, StoreKept.{PlainStore, HaveKept, device_of}}
use Rattle.pf_store.proofs.{WithinLimits.made_within, Saving.{followed, have_held, on_both, on_ok, standing, store_has}}
use Rattle.pf_store.proofs.store.keeping.Store.open_again.Given.{Over}
use Rattle.pf_store.proofs.store.keeping.Store.open_again.Goals.{After-raise_on}
use Rattle.pf_store.proofs.store.keeping.Store.open_again.Goals as goal

on_err : {T E : Type 0} (r : Result T E) (P Q : E → Type 0) → ((e : E) → P e → Q e) → IfErr r P → IfErr r Q
on_err (Ok x) P Q f p = tt
on_err (Err e) P Q f p = f e p

-- ---- the device is read back

pub returns-then-not-can_be_raised-clause-opened : goal.returns-then-not-can_be_raised-clause-opened
returns-then-not-can_be_raised-clause-opened g c = rw c.into_disk.ensures at c.«open».ensures.opened

pub returns-then-not-can_be_raised-clause-here : goal.returns-then-not-can_be_raised-clause-here
returns-then-not-can_be_raised-clause-here g c =
    let d = g.D.Disk in
    subst
    (λ (x : g.row.D.Denot). IfOk c.«open».result (λ r. (e : PlainDurable) (held : Holds (d.seen x) e) → HasRoomHere (d.seen x) e held
    → (r.1.generation ≡ generation_of (d.seen x) e held) × (r.1.version ≡ version_of (d.seen x) e held)))
    c.into_disk.ensures c.«open».ensures.here

pub returns-then-not-can_be_raised-clause-there : goal.returns-then-not-can_be_raised-clause-there
returns-then-not-can_be_raised-clause-there g c =
    let d = g.D.Disk in
    subst
    (λ (x : g.row.D.Denot). IfOk c.«open».result (λ r. (e : PlainDurable) (held : Holds (d.seen x) e) → ¬ HasRoomHere (d.seen x) e held
    → (r.1.generation ≡ generation_of (d.seen x) e held + 1) × (r.1.version ≡ NEWEST)))
    c.into_disk.ensures c.«open».ensures.there

pub returns-then-not-can_be_raised-clause-room : goal.returns-then-not-can_be_raised-clause-room
returns-then-not-can_be_raised-clause-room g c = rw c.into_disk.ensures at c.«open».ensures.room

pub returns-then-not-can_be_raised-clause-writes : goal.returns-then-not-can_be_raised-clause-writes
returns-then-not-can_be_raised-clause-writes g c = rw c.into_disk.ensures at c.«open».ensures.writes

pub returns-then-not-can_be_raised-clause-refused : goal.returns-then-not-can_be_raised-clause-refused
returns-then-not-can_be_raised-clause-refused g c = rw c.into_disk.ensures at c.«open».ensures.refused

pub returns-then-not-can_be_raised-clause-untouched : goal.returns-then-not-can_be_raised-clause-untouched
returns-then-not-can_be_raised-clause-untouched g c = rw c.into_disk.ensures at c.«open».ensures.untouched

pub returns-then-not-can_be_raised-clause-unchanged_at_bad_size : goal.returns-then-not-can_be_raised-clause-unchanged_at_bad_size
returns-then-not-can_be_raised-clause-unchanged_at_bad_size g c = rw c.into_disk.ensures at c.«open».ensures.unchanged_at_bad_size

pub returns-then-not-can_be_raised-clause-size : goal.returns-then-not-can_be_raised-clause-size
returns-then-not-can_be_raised-clause-size g c = rw c.into_disk.ensures at c.«open».ensures.size

pub returns-then-not-can_be_raised-clause-brief : goal.returns-then-not-can_be_raised-clause-brief
returns-then-not-can_be_raised-clause-brief g c = λ going low. absurd (false≢true (sym c.if-not-can_be_raised.true ∙ c.can_be_raised.ensures.1 (going, low)))

-- ---- what is in memory gets the next epoch

-- the store goes on
module _ (g : Over) (c : After-raise_on g) where
  knows : (c.args.self.halted ≡ false) × (c.args.self.generation < 2 ^ 63)
  knows = c.can_be_raised.ensures.0 c.if-not-can_be_raised.false

  abbrev same : c.self.inside.banks.journal.disk ≡ c.args.self.disk
  same = ap (λ (v : PlainStore g.row.D.Denot). v.disk) c.self.view_is

  kept : HaveKept g.D.Disk.seen c.self.inside.banks c.args.durable.now
  kept =
      let going : c.self.inside.halted ≡ false = ap (λ (v : PlainStore g.row.D.Denot). v.halted) c.self.view_is ∙ knows.0 in
      store_has (c.self.invariant going) (subst (λ (v : PlainStore g.row.D.Denot). Holds (g.D.Disk.seen v.disk) c.args.durable.now) (sym c.self.view_is) (c.requires.stands knows.0).holds)

  low : c.self.inside.banks.generation < 2 ^ 63
  low = omega (arith, ap (λ (v : PlainStore g.row.D.Denot). v.generation) c.self.view_is, knows.1)

pub raise_on-requires-clause-ready : goal.raise_on-requires-clause-ready
raise_on-requires-clause-ready g c =
    let knows = c.can_be_raised.ensures.0 c.if-not-can_be_raised.false in
    let going : c.self.inside.halted ≡ false = ap (λ (v : PlainStore g.row.D.Denot). v.halted) c.self.view_is ∙ knows.0 in
    (c.self.invariant going).ready

pub raise_on-requires-clause-kept : goal.raise_on-requires-clause-kept
raise_on-requires-clause-kept g c =
    let knows = c.can_be_raised.ensures.0 c.if-not-can_be_raised.false in
    let going : c.self.inside.halted ≡ false = ap (λ (v : PlainStore g.row.D.Denot). v.halted) c.self.view_is ∙ knows.0 in
    store_has (c.self.invariant going) (subst (λ (v : PlainStore g.row.D.Denot). Holds (g.D.Disk.seen v.disk) c.args.durable.now) (sym c.self.view_is) (c.requires.stands knows.0).holds)

pub raise_on-requires-clause-early : goal.raise_on-requires-clause-early
raise_on-requires-clause-early g c =
    let knows = c.can_be_raised.ensures.0 c.if-not-can_be_raised.false in
    omega (arith, ap (λ (v : PlainStore g.row.D.Denot). v.generation) c.self.view_is, knows.1)

pub raise_on-requires-clause-few : goal.raise_on-requires-clause-few
raise_on-requires-clause-few g c =
    subst (λ (v : PlainStore g.row.D.Denot). g.D.Disk.fault_count v.disk < 2 ^ 63) (sym c.self.view_is) c.requires.few

pub returns-clause-opened : goal.returns-clause-opened
returns-clause-opened g c =
    let d = g.D.Disk in
    let k = c.args.durable.now in
    let here = (goal.at.returns-clause-opened g c).After-raise_on in
    let has = kept g here in
    let early = low g here in
    subst
    (λ (x : g.row.D.Denot). IfOk c.raise_on.result (λ r. (e : PlainDurable) × (held : Holds (d.seen x) e) × (r.0 ≡ raised e) × (e.epoch < last_epoch)
    × (r.1.generation ≤ generation_of (d.seen x) e held + 1) × (generation_of (d.seen x) e held < 2 ^ 63)))
    (same g here)
    (on_both c.raise_on.result _ _ _ (λ r is up. (k, have_held has, is.0, is.1, omega (arith, up, has.keeps.generation), omega (arith, early, has.keeps.generation))) c.raise_on.ensures.raised c.raise_on.ensures.generation)

pub returns-clause-images : goal.returns-clause-images
returns-clause-images g c = on_ok c.raise_on.result _ _ (λ r s. standing s) c.raise_on.ensures.stands

pub returns-clause-within : goal.returns-clause-within
returns-clause-within g c = on_ok c.raise_on.result _ _ (λ r s. made_within s.holds.content r.0 s.holds.makes) c.raise_on.ensures.stands

pub returns-clause-early : goal.returns-clause-early
returns-clause-early g c =
    let early = low g (goal.at.returns-clause-early g c).After-raise_on in
    on_ok c.raise_on.result _ _ (λ r up. omega (arith, up, early)) c.raise_on.ensures.generation

pub returns-clause-writes : goal.returns-clause-writes
returns-clause-writes g c =
    let d = g.D.Disk in
    let here = (goal.at.returns-clause-writes g c).After-raise_on in
    let has = kept g here in
    subst (λ (x : g.row.D.Denot). MayWrite d x (device_of c.raise_on.result) 15 (is_opening_fault c.raise_on.result) (IsOfOpening (d.seen x) (d.unsynced x))) (same g here)
    (followed (have_held has) (omega (arith, has.keeps.generation)) c.raise_on.ensures.writes)

pub returns-clause-brief : goal.returns-clause-brief
returns-clause-brief g c = λ going early.
    let d = g.D.Disk in
    subst (λ (x : g.row.D.Denot). d.moment (device_of c.raise_on.result) ≤ d.moment x + 10) (same g (goal.at.returns-clause-brief g c).After-raise_on) c.raise_on.ensures.writes.moments

pub returns-clause-untouched : goal.returns-clause-untouched
returns-clause-untouched g c =
    let d = g.D.Disk in
    let disk = c.args.self.disk in
    let is = same g (goal.at.returns-clause-untouched g c).After-raise_on in
    let start = (unmoved d disk {most = 0} {P = IsImage (d.seen disk) (d.unsynced disk)} (g.met.D.Disk.only_now disk) (λ i image. image)).any_moment in
    on_err c.raise_on.result _ _
    (λ e still calm. subst (λ (x : g.row.D.Denot). (d.seen x ≡ d.seen disk) × EachMoment d.moment d.left_since disk x (IsImage (d.seen disk) (d.unsynced disk))) (sym (still calm ∙ is)) (refl, start))
    c.raise_on.ensures.untouched

pub returns-clause-unchanged_at_bad_size : goal.returns-clause-unchanged_at_bad_size
returns-clause-unchanged_at_bad_size g c = on_err c.raise_on.result _ _ (λ e other is. absurd (other is)) c.raise_on.ensures.not_size

pub returns-clause-here : goal.returns-clause-here
returns-clause-here g c =
    let d = g.D.Disk in
    subst
    (λ (x : g.row.D.Denot). IfOk c.raise_on.result (λ r. (e : PlainDurable) (held : Holds (d.seen x) e) → HasRoomHere (d.seen x) e held
    → (r.1.generation ≡ generation_of (d.seen x) e held) × (r.1.version ≡ version_of (d.seen x) e held)))
    (same g (goal.at.returns-clause-here g c).After-raise_on) c.raise_on.ensures.here

pub returns-clause-there : goal.returns-clause-there
returns-clause-there g c =
    let d = g.D.Disk in
    subst
    (λ (x : g.row.D.Denot). IfOk c.raise_on.result (λ r. (e : PlainDurable) (held : Holds (d.seen x) e) → ¬ HasRoomHere (d.seen x) e held
    → (r.1.generation ≡ generation_of (d.seen x) e held + 1) × (r.1.version ≡ NEWEST)))
    (same g (goal.at.returns-clause-there g c).After-raise_on) c.raise_on.ensures.there

pub returns-clause-room : goal.returns-clause-room
returns-clause-room g c =
    let is : c.self.inside.banks.journal.disk ≡ c.args.self.disk = ap (λ (v : PlainStore g.row.D.Denot). v.disk) c.self.view_is in
    rw is at c.raise_on.ensures.room

pub returns-clause-refused : goal.returns-clause-refused
returns-clause-refused g c =
    let is : c.self.inside.banks.journal.disk ≡ c.args.self.disk = ap (λ (v : PlainStore g.row.D.Denot). v.disk) c.self.view_is in
    rw is at c.raise_on.ensures.refused

pub returns-clause-size : goal.returns-clause-size
returns-clause-size g c =
    let is : c.self.inside.banks.journal.disk ≡ c.args.self.disk = ap (λ (v : PlainStore g.row.D.Denot). v.disk) c.self.view_is in
    rw is at c.raise_on.ensures.size
