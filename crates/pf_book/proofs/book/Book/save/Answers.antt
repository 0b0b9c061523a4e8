use Rattle.std.proofs.{Common.{Bool, true, false, ◌≡◌, ◌+◌, ◌≤◌, ℕ, List, [], ◌∷◌, ◌++◌, length, map, refl, sym, ap, ◌∙◌, subst, arith}, lemmas.{List.{length-map, map-append}, Result.err_from_is_err_and}}
use Rattle.std.specs.Arc.{arc_value}
use Rattle.pf_disk.specs.{Disk.IsImage, Runs.MayWrite}
use Rattle.pf_disk.proofs.Writing.{read_is, weakened}
use Rattle.pf_ticket.specs.{Laws.Tickets.IsWithin as AreTicketsWithin, Mentions.{after as moved_by, switches}}
use Rattle.pf_ticket.proofs.TicketLimits.{keeps_the_limits}
use Rattle.pf_core.specs.{Durable.Changes.{PlainDurable, PlainChange, after}, Nexts.PlainNext, WorldBooks.WorldBook, Cores.PlainCore}
use Rattle.pf_store.specs.{Groups.made_all, Openings.{IsNoLaterThan, IsOfSave, LeavesRoom}, Rooms.on_device, Stores.{FollowInTurn, Holds, HoldsEither, FindsRoom, IsRoomy}, StoreKept.{Stands, PlainStore}}
use Rattle.pf_store.proofs.Leading.{left_by_made}
use Rattle.pf_book.specs.Books.{PlainBook, cut, book_of, world_book, world_book_of, IsMore, IsOfCall, IsPending, UsesDevice}
use Rattle.pf_book.proofs.{Finding.{same-room, few-formed, some-formed}, BookInvariant.{with-pending, more-book, fault-book}, OpenedBooks.{parts, left-of, room-of, same-of, disk-of, quiet-of, none-of, all-of, flat-of, going-of, either-of}, Openable.{later}, HistoryGroups.{grouped-some, IsGrown, grown-acked, grown-pending}}
use Rattle.pf_book.proofs.book.Book.save.Given.{Over}
use Rattle.pf_book.proofs.book.Book.save.Goals.{After-save, After-accept, In-Err-Halted}
use Rattle.pf_book.proofs.book.Book.save.Goals as goal

-- what stands in the log with copies of changes behind it
logged-onto : {X : Type 0} (f : X → PlainChange) (old mid new copies given : List X) → mid ≡ old → new ≡ mid ++ copies → map f copies ≡ map f given → map f new ≡ map f old ++ map f given
logged-onto f old mid new copies given same put is = ap (map f) put ∙ map-append f mid copies ∙ ap (λ xs. map f xs ++ map f copies) same ∙ ap (λ es. map f old ++ es) is

-- a later generation is at most one later
one-more : (g h : ℕ) → g ≤ h → g + 1 ≤ h + 1
one-more g h le = omega arith

pub save-requires-clause-stands : goal.save-requires-clause-stands
save-requires-clause-stands g c going =
    subst (λ (k : PlainDurable). Stands g.D.Disk.seen g.D.Disk.unsynced c.self.inside.store k) (sym c.durable.ensures) (c.self.invariant.stands going)

pub save-requires-clause-leads : goal.save-requires-clause-leads
save-requires-clause-leads g c =
    let es : List PlainChange = map arc_value c.args.changes.now in
    c.deref.ensures ∙ c.in_ok-logged.ensures.after ∙ left-of c.self.invariant c.self.view_is c.args.next es c.requires.made ∙ ap (λ (k : PlainDurable). after k es) (sym c.durable.ensures) ∙ sym (left_by_made c.durable.result.now es)

pub save-requires-clause-fit : goal.save-requires-clause-fit
save-requires-clause-fit g c =
    subst (λ (k : PlainDurable). FollowInTurn k (made_all (map arc_value c.args.changes.now))) (ap (λ (l : PlainBook g.row.D.Denot). l.whole.durable) (sym c.self.view_is) ∙ sym c.durable.ensures) c.requires.fit

pub save-requires-clause-early : goal.save-requires-clause-early
save-requires-clause-early g c going =
    let i = c.self.invariant in
    let room = room-of i c.self.view_is (map arc_value c.args.changes.now) c.requires.room in
    omega (arith, i.early going, i.limit, room.few, ap length (flat-of i c.self.view_is c.requires.free))

pub returns-in_err-logged-clause-err : goal.returns-in_err-logged-clause-err
returns-in_err-logged-clause-err g c =
    let p = err_from_is_err_and c.from_residual.result c.from_residual.ensures.1 in
    let same = same-of c.self.invariant c.self.view_is c.self.inside.store (map arc_value c.share_and_reserve.new.log.items) c.share_and_reserve.new.sizes.items refl (ap (map arc_value) c.share_and_reserve.ensures.log) c.share_and_reserve.ensures.sizes in
    rw (p.1, p.2) (same, c.requires.room)

pub returns-in_err-logged-clause-device : goal.returns-in_err-logged-clause-device
returns-in_err-logged-clause-device g c =
    let p = err_from_is_err_and c.from_residual.result c.from_residual.ensures.1 in
    rw (p.1, p.2) (quiet-of g.D.Disk c.self.invariant c.self.view_is (g.met.D.Disk.only_now c.self.inside.store.disk) (either-of c.self.invariant c.self.view_is c.requires.free (map arc_value c.args.changes.now)) _ refl refl refl)

pub returns-in_err-logged-clause-ok : goal.returns-in_err-logged-clause-ok
returns-in_err-logged-clause-ok g c = let p = err_from_is_err_and c.from_residual.result c.from_residual.ensures.1 in rw (p.1) tt

pub returns-in_err-logged-clause-still : goal.returns-in_err-logged-clause-still
returns-in_err-logged-clause-still g c = let p = err_from_is_err_and c.from_residual.result c.from_residual.ensures.1 in rw (p.1) (λ _. sym (disk-of c.self.invariant c.self.view_is))

-- the log and the sizes have the same items
pub invariant_of-self : goal.invariant_of-self
invariant_of-self g c = rw (c.share_and_reserve.ensures.log, c.share_and_reserve.ensures.sizes) c.self.invariant

-- what the store's save leaves
module _ (g : Over) (c : After-save g) where
  abbrev Each : (List ℕ → Type 0) → Type 0
  Each P = (image : List ℕ) → IsImage (g.D.Disk.seen c.save.new.self.disk) (g.D.Disk.unsynced c.save.new.self.disk) image → P image

  going : c.self.inside.store.halted ≡ false
  going = going-of c.self.invariant c.self.view_is c.requires.free

  left : c.args.next.durable ≡ after c.self.inside.core.durable (map arc_value c.args.changes.now)
  left = left-of c.self.invariant c.self.view_is c.args.next (map arc_value c.args.changes.now) c.requires.made

  -- each image of the save
  abbrev Saves : List ℕ → Type 0
  Saves = IsOfSave (g.D.Disk.seen c.self.inside.store.disk) (c.self.inside.store.generation + 1) c.durable.result.now c.deref.result.now

  saves : Each Saves
  saves image is = c.save.ensures.writes.any_moment.each image (g.met.D.Disk.counts_now c.save.new.self.disk (g.D.Disk.moment c.self.inside.store.disk) image c.save.ensures.writes.any_moment.later is) going

  holds : (image : List ℕ) → Saves image → HoldsEither c.self.inside.core.durable (after c.self.inside.core.durable (map arc_value c.args.changes.now)) image
  holds image it = subst (λ (k : PlainDurable). HoldsEither c.self.inside.core.durable k image) (c.deref.ensures ∙ c.in_ok-logged.ensures.after ∙ left)
      (subst (λ (k : PlainDurable). HoldsEither k c.deref.result.now image) c.durable.ensures it.by.holds)

  leaves : IsRoomy c.self.inside.store.size g.J.Naming.base → (image : List ℕ) → Saves image → LeavesRoom image
  leaves room image it =
      let disk = c.self.inside.store.disk in
      it.roomy (c.self.invariant.roomy room (g.D.Disk.seen disk) (read_is (g.D.Disk.seen disk) (g.D.Disk.unsynced disk)))

  generations : Each (IsNoLaterThan (c.save.new.self.generation + 1))
  generations image is = later (c.self.inside.store.generation + 1) (c.save.new.self.generation + 1) (one-more c.self.inside.store.generation c.save.new.self.generation c.save.ensures.generation_stays) image (saves image is).by.generation

  roomy : IsRoomy c.save.new.self.size g.J.Naming.base → Each LeavesRoom
  roomy room image is = leaves (subst (λ (n : ℕ). IsRoomy n g.J.Naming.base) c.save.ensures.size room) image (saves image is)

  -- the device is as the store left it
  device : (failed : Bool) → MayWrite g.D.Disk c.self.inside.store.disk c.save.new.self.disk 10 failed (λ image. c.self.inside.store.halted ≡ false → Saves image)
      → (new : PlainBook g.row.D.Denot) → new.disk ≡ c.save.new.self.disk → new.generation ≡ c.save.new.self.generation → new.size ≡ c.save.new.self.size
      → UsesDevice g.D.Disk failed c.args.self.now new (HoldsEither c.args.self.now.whole.durable (after c.args.self.now.whole.durable (map arc_value c.args.changes.now)))
  device failed run new disk generation size =
      let old = book_of (parts c.self.invariant) in
      let P = HoldsEither old.whole.durable (after old.whole.durable (map arc_value c.args.changes.now)) in
      let all : MayWrite g.D.Disk old.disk c.save.new.self.disk 10 failed (IsOfCall old P) =
      weakened {Q = IsOfCall old P} run (λ image it. record { holds = holds image (it going); early = (it going).by.generation; roomy = λ room. leaves room image (it going) }) in
      subst (λ (l : PlainBook g.row.D.Denot). UsesDevice g.D.Disk failed l new (HoldsEither l.whole.durable (after l.whole.durable (map arc_value c.args.changes.now)))) c.self.view_is (record {
        run = subst (λ d. MayWrite g.D.Disk old.disk d 10 failed (IsOfCall old P)) (sym disk) all;
        stays = omega (arith, c.save.ensures.generation_stays, generation);
        one_more = omega (arith, c.save.ensures.generation, generation);
        size = size ∙ c.save.ensures.size;
      })

-- the changes are one group more
grown : (g : Over) (c : After-accept g) → IsGrown (parts c.self.invariant) (map arc_value c.put_all.new.log.items) c.push_reserved.new.self.items (c.self.inside.acked + length c.args.changes.now) (map arc_value c.args.changes.now)
grown g c =
    let s = c.self.inside in
    let es : List PlainChange = map arc_value c.args.changes.now in
    let logged : map arc_value c.put_all.new.log.items ≡ map arc_value s.log.items ++ es = logged-onto arc_value s.log.items c.share_and_reserve.new.log.items c.put_all.new.log.items _ c.args.changes.now c.share_and_reserve.ensures.log c.put_all.ensures c.in_ok-logged.ensures.logged in
    let counted : length c.args.changes.now ≡ length es = sym (length-map c.args.changes.now arc_value) in
    let found : FindsRoom c.args.self.now.size c.args.self.now.whole.durable c.args.next.durable es = c.requires.found in
    record {
      cuts = c.self.invariant.cuts;
      all = all-of c.self.invariant c.self.view_is c.requires.free;
      some = some-formed es found.formed;
      logged = logged;
      sized = c.push_reserved.ensures.items ∙ ap (λ (ns : List ℕ). ns ++ length c.args.changes.now ∷ []) c.share_and_reserve.ensures.sizes ∙ ap (λ (n : ℕ). s.sizes.items ++ n ∷ []) counted;
      counted = ap (λ (n : ℕ). s.acked + n) counted;
    }

pub invariant_of-self-in-Ok : goal.invariant_of-self-in-Ok
invariant_of-self-in-Ok g c =
    let s = c.self.inside in
    let i = c.self.invariant in
    let saved = (goal.at.invariant_of-self-in-Ok g c).After-save in
    let es : List PlainChange = map arc_value c.args.changes.now in
    let counted : length c.args.changes.now ≡ length es = sym (length-map c.args.changes.now arc_value) in
    let kept = c.in-Ok.ensures in
    let noted = c.in_ok-logged.ensures.noted in
    let whole : c.accept.new.self.durable ≡ after s.core.durable es = ap (λ (w : PlainCore). w.durable) c.accept.ensures ∙ left g saved in
    let next : c.deref.result.now ≡ c.accept.new.self.durable = c.deref.ensures ∙ c.in_ok-logged.ensures.after ∙ left g saved ∙ sym whole in
    more-book i c.save.new.self c.accept.new.self _ (map arc_value c.put_all.new.log.items) c.push_reserved.new.self.items (s.acked + length c.args.changes.now) c.note_all.new.tip c.front.result es
    (grown g (goal.at.invariant_of-self-in-Ok g c).After-accept) (room-of i c.self.view_is es c.requires.room)
    (c.note_all.ensures.front ∙ ap (λ (l : List PlainChange). s.tip.front ++ l) noted) (omega (arith, c.note_all.ensures.acked, simp length-map at (ap length noted))) c.note_all.ensures.shown c.front.ensures
    whole (subst (λ (w : PlainCore). AreTicketsWithin w.tickets) (sym c.accept.ensures) (keeps_the_limits.commit s.core.tickets c.args.next.voided i.tickets)) (c.in_ok-logged.ensures.after ∙ left g saved ∙ sym whole)
    (going g saved) kept.goes_on (subst (λ (k : PlainDurable). Stands g.D.Disk.seen g.D.Disk.unsynced c.save.new.self k) next kept.stands) kept.generation
    (λ image is. subst (λ (k : PlainDurable). Holds image k) next (kept.images image is)) (generations g saved) (roomy g saved)

pub returns-in-Ok-clause-ok : goal.returns-in-Ok-clause-ok
returns-in-Ok-clause-ok g c =
    let s = c.self.inside in
    let i = c.self.invariant in
    let es : List PlainChange = map arc_value c.args.changes.now in
    let more = grown g (goal.at.returns-in-Ok-clause-ok g c).After-accept in
    let new : WorldBook = world_book_of (record (parts i) { store = c.save.new.self; whole = c.accept.new.self; log = map arc_value c.put_all.new.log.items; sizes = c.push_reserved.new.self.items; acked = s.acked + length c.args.changes.now }) in
    subst (λ (l : PlainBook g.row.D.Denot). IsMore (world_book l) new es) c.self.view_is (record {
      room = room-of i c.self.view_is es c.requires.room;
      base = refl;
      tickets = ap (λ (w : PlainCore). w.tickets) c.accept.ensures ∙ ap (λ (r : PlainNext). moved_by s.core.tickets (switches r.voided)) c.requires.made;
      acked = grown-acked more ∙ ap (λ (gs : List (List PlainChange)). cut s.sizes.items (map arc_value s.log.items) ++ gs) (sym (grouped-some es more.some));
      pending = grown-pending more ∙ sym (none-of i c.self.view_is c.requires.free);
      setting = ap (λ (n : ℕ). on_device s.limit n) c.in-Ok.ensures.size;
      shown = refl;
    })

pub returns-in-Ok-clause-device : goal.returns-in-Ok-clause-device
returns-in-Ok-clause-device g c = device g (goal.at.returns-in-Ok-clause-device g c).After-save false c.in-Ok.ensures.writes _ refl refl refl

pub returns-in-Err-Memory-clause-err : goal.returns-in-Err-Memory-clause-err
returns-in-Err-Memory-clause-err g c =
    let f = rw c.in-Err-Memory.field-0-is at c.in-Err-Memory.ensures in
    let unchanged : c.save.new.self ≡ c.self.inside.store = f.unchanged (λ x. cc (x)) in
    (same-of c.self.invariant c.self.view_is c.save.new.self (map arc_value c.share_and_reserve.new.log.items) c.share_and_reserve.new.sizes.items unchanged (ap (map arc_value) c.share_and_reserve.ensures.log) c.share_and_reserve.ensures.sizes, c.requires.room)

pub returns-in-Err-Memory-clause-device : goal.returns-in-Err-Memory-clause-device
returns-in-Err-Memory-clause-device g c =
    let f = rw c.in-Err-Memory.field-0-is at c.in-Err-Memory.ensures in device g (goal.at.returns-in-Err-Memory-clause-device g c).After-save false f.writes _ refl refl refl

pub invariant_of-self-in-Err-Memory : goal.invariant_of-self-in-Err-Memory
invariant_of-self-in-Err-Memory g c =
    let f = rw c.in-Err-Memory.field-0-is at c.in-Err-Memory.ensures in
    let unchanged : c.save.new.self ≡ c.self.inside.store = f.unchanged (λ x. cc (x)) in
    rw (unchanged, c.share_and_reserve.ensures.log, c.share_and_reserve.ensures.sizes) c.self.invariant

pub returns-in-Err-Memory-clause-still : goal.returns-in-Err-Memory-clause-still
returns-in-Err-Memory-clause-still g c =
    let f = rw c.in-Err-Memory.field-0-is at c.in-Err-Memory.ensures in
    let unchanged : c.save.new.self ≡ c.self.inside.store = f.unchanged (λ x. cc (x)) in
    λ _. ap (λ (x : PlainStore g.row.D.Denot). x.disk) unchanged ∙ sym (disk-of c.self.invariant c.self.view_is)

-- if the changes find room the store isn't full
pub unreachable-requires : goal.unreachable-requires
unreachable-requires g c =
    let s = c.self.inside in
    let es : List PlainChange = map arc_value c.args.changes.now in
    let found : FindsRoom s.store.size s.core.durable c.args.next.durable es =
    subst (λ (l : PlainBook g.row.D.Denot). FindsRoom l.size l.whole.durable c.args.next.durable es) (sym c.self.view_is) c.requires.found in
    let f = rw c.in-Err-Full.field-0-is at c.in-Err-Full.ensures in
    f.room (same-room (λ (k next : PlainDurable). FindsRoom s.store.size k next es) s.core.durable c.durable.result.now c.args.next.durable c.deref.result.now (sym c.durable.ensures) (sym (c.deref.ensures ∙ c.in_ok-logged.ensures.after)) found)

pub invariant_of-self-in-Err-Fault : goal.invariant_of-self-in-Err-Fault
invariant_of-self-in-Err-Fault g c =
    let s = c.self.inside in
    let i = c.self.invariant in
    let saved = (goal.at.invariant_of-self-in-Err-Fault g c).After-save in
    let es : List PlainChange = map arc_value c.args.changes.now in
    let logged : map arc_value c.put_all-in-Err-Fault.new.log.items ≡ map arc_value s.log.items ++ es = logged-onto arc_value s.log.items c.share_and_reserve.new.log.items c.put_all-in-Err-Fault.new.log.items _ c.args.changes.now c.share_and_reserve.ensures.log c.put_all-in-Err-Fault.ensures c.in_ok-logged.ensures.logged in
    let found : FindsRoom c.args.self.now.size c.args.self.now.whole.durable c.args.next.durable es = c.requires.found in
    let f = rw c.in-Err-Fault.field-0-is at c.in-Err-Fault.ensures in
    fault-book i c.save.new.self (map arc_value c.put_all-in-Err-Fault.new.log.items) c.share_and_reserve.new.sizes.items c.note_all-in-Err-Fault.new.tip es
    (all-of i c.self.view_is c.requires.free) (some-formed es found.formed) (few-formed es found.formed) (room-of i c.self.view_is es c.requires.room) logged c.share_and_reserve.ensures.sizes
    (c.note_all-in-Err-Fault.ensures.front ∙ ap (λ (l : List PlainChange). s.tip.front ++ l) c.in_ok-logged.ensures.noted) (omega (arith, c.note_all-in-Err-Fault.ensures.acked)) c.note_all-in-Err-Fault.ensures.shown (f.halts refl)
    (λ image is. holds g saved image (saves g saved image is)) (generations g saved) (roomy g saved)

pub returns-in-Err-Fault-clause-err : goal.returns-in-Err-Fault-clause-err
returns-in-Err-Fault-clause-err g c =
    let s = c.self.inside in
    let i = c.self.invariant in
    let es : List PlainChange = map arc_value c.args.changes.now in
    let logged : map arc_value c.put_all-in-Err-Fault.new.log.items ≡ map arc_value s.log.items ++ es = logged-onto arc_value s.log.items c.share_and_reserve.new.log.items c.put_all-in-Err-Fault.new.log.items _ c.args.changes.now c.share_and_reserve.ensures.log c.put_all-in-Err-Fault.ensures c.in_ok-logged.ensures.logged in
    let f = rw c.in-Err-Fault.field-0-is at c.in-Err-Fault.ensures in
    let new : WorldBook = world_book_of (record (parts i) { store = c.save.new.self; log = map arc_value c.put_all-in-Err-Fault.new.log.items; sizes = c.share_and_reserve.new.sizes.items }) in
    subst (λ (l : PlainBook g.row.D.Denot). IsPending (world_book l) new es) c.self.view_is (record {
      room = room-of i c.self.view_is es c.requires.room;
      same = with-pending (parts i) c.save.new.self (map arc_value c.put_all-in-Err-Fault.new.log.items) es c.share_and_reserve.new.sizes.items i.cuts (all-of i c.self.view_is c.requires.free) logged c.share_and_reserve.ensures.sizes f.size;
    })

pub returns-in-Err-Fault-clause-device : goal.returns-in-Err-Fault-clause-device
returns-in-Err-Fault-clause-device g c =
    let f = rw c.in-Err-Fault.field-0-is at c.in-Err-Fault.ensures in device g (goal.at.returns-in-Err-Fault-clause-device g c).After-save true f.writes _ refl refl refl

pub returns-in-Err-Fault-clause-still : goal.returns-in-Err-Fault-clause-still
returns-in-Err-Fault-clause-still g c = λ is. absurd (cc (is))

-- the store isn't halted if nothing is pending
never : (g : Over) (c : In-Err-Halted g) → ⊥
never g c =
    let f = rw c.in-Err-Halted.field-0-is at c.in-Err-Halted.ensures in
    let was : c.self.inside.store.halted ≡ true = f.halted.0 refl in
    let going : c.self.inside.store.halted ≡ false = going-of c.self.invariant c.self.view_is c.requires.free in
    cc (was, going)

pub returns-clause-err : goal.returns-clause-err
returns-clause-err g c = absurd (never g (goal.at.returns-clause-err g c).In-Err-Halted)

pub returns-clause-device : goal.returns-clause-device
returns-clause-device g c = absurd (never g (goal.at.returns-clause-device g c).In-Err-Halted)

pub returns-clause-still : goal.returns-clause-still
returns-clause-still g c = absurd (never g (goal.at.returns-clause-still g c).In-Err-Halted)

pub invariant_of-self-in-Err-Halted : goal.invariant_of-self-in-Err-Halted
invariant_of-self-in-Err-Halted g c = absurd (never g (goal.at.invariant_of-self-in-Err-Halted g c).In-Err-Halted)
