use Rattle.std.proofs.{Common.{◌≡◌, ◌≤◌, ◌<◌, ◌+◌, List, length, map, sym, ap, ◌∙◌, subst, true, false, ◌++◌, arith}, lemmas.{Grind.common_steps, List.map-id}}
use Rattle.std.specs.{Arc.arc_value, Prelude.{not, ◌↔◌, IsTrue}, List.list_all}
use Rattle.pf_core.specs.{Durable.Changes.{PlainDurable, PlainChange, after}, Worlds.flat}
use Rattle.pf_store.specs.{Groups.{can_be_wanted, made_all}, Lengths.payload_length, Rooms.group_fits, Stores.{FindsRoom, HasRoom as HasRoomFor}}
use Rattle.pf_book.specs.Books.{BookHasRoom, PlainBook, cut, world_book, world_book_of}
use Rattle.pf_book.proofs.{Finding.{FitThere, device-fits, device-full, same-room}, OpenedBooks.{parts, flat-of, going-of, either-of, rests-of}}
use Rattle.pf_book.proofs.book.Book.refuse_if_full.Goals as goal

pub returns-then-len-changes-clause-err : goal.returns-then-len-changes-clause-err
returns-then-len-changes-clause-err g c =
    let s = c.self.inside in
    let log : List PlainChange = map arc_value s.log.items in
    let counted : c.len.result ≡ length log = grind (arith, common_steps, c.len.ensures) in
    let acked : flat (cut s.sizes.items log) ≡ log = flat-of c.self.invariant c.self.view_is c.requires.free in
    let full : s.limit < length (flat (cut s.sizes.items log)) + length c.args.changes.now = omega (arith, c.if-len-changes.true, counted, ap length acked) in
    subst (λ (l : PlainBook g.row.D.Denot). l.limit < length (flat l.acked) + length c.args.changes.now) c.self.view_is full

pub returns-then-not-has_room-clause-err : goal.returns-then-not-has_room-clause-err
returns-then-not-has_room-clause-err g c =
    let s = c.self.inside in
    let i = c.self.invariant in
    let es = c.args.changes.now in
    let log : List PlainChange = map arc_value s.log.items in
    let counted : c.len.result ≡ length log = grind (arith, common_steps, c.len.ensures) in
    let acked : flat (cut s.sizes.items log) ≡ log = flat-of i c.self.view_is c.requires.free in
    let few : length (flat (cut s.sizes.items log)) + length es ≤ s.limit = omega (arith, c.if-len-changes.false, counted, ap length acked) in
    let left : c.args.next.now.durable ≡ after s.core.durable es = c.requires.left ∙ ap (λ (l : PlainBook g.row.D.Denot). after l.whole.durable es) (sym c.self.view_is) in
    let exact : IsTrue c.has_room.result ↔ ((s.store.halted ≡ false) × HasRoomFor s.store.size c.durable.result.now c.after.result.now (payload_length (made_all es))) =
    subst (λ (xs : List PlainChange). list_all can_be_wanted xs ≡ true → IsTrue c.has_room.result ↔ ((s.store.halted ≡ false) × HasRoomFor s.store.size c.durable.result.now c.after.result.now (payload_length (made_all xs)))) (map-id es)
    (c.has_room.ensures.exact c.requires.group) c.requires.wanted in
    let nowhere : FitThere s.store.size es s.core.durable c.args.next.now.durable → ⊥ = λ there.
    let asked : FitThere s.store.size es c.durable.result.now c.after.result.now =
    same-room (FitThere s.store.size es) s.core.durable c.durable.result.now c.args.next.now.durable c.after.result.now (sym c.durable.ensures) (sym c.after.ensures) there in
    cc (exact.1 (going-of i c.self.view_is c.requires.free, asked), c.if-not-has_room.true) in
    let full : not (group_fits s.store.size (after g.J.Naming.base (flat (cut s.sizes.items log))) (after g.J.Naming.base (flat (cut s.sizes.items log) ++ es)) es) ≡ true =
    device-full s.store.size g.J.Naming.base s.core.durable c.args.next.now.durable (cut s.sizes.items log) es i.folded.durable left nowhere in (
      subst (λ (l : PlainBook g.row.D.Denot). length (flat l.acked) + length es ≤ l.limit) c.self.view_is few,
      subst (λ (l : PlainBook g.row.D.Denot). not (group_fits l.size (after l.base (flat l.acked)) (after l.base (flat l.acked ++ es)) es) ≡ true) c.self.view_is full,
    )

pub returns-clause-found : goal.returns-clause-found
returns-clause-found g c =
    let s = c.self.inside in
    let es = c.args.changes.now in
    let asked : FindsRoom s.store.size c.durable.result.now c.after.result.now es =
    subst (FindsRoom s.store.size c.durable.result.now c.after.result.now) (map-id es) (c.has_room.ensures.found.0 c.if-not-has_room.false).1 in
    let there : FindsRoom s.store.size s.core.durable c.args.next.now.durable es =
    same-room (λ (k next : PlainDurable). FindsRoom s.store.size k next es) c.durable.result.now s.core.durable c.after.result.now c.args.next.now.durable c.durable.ensures c.after.ensures asked in
    subst (λ (l : PlainBook g.row.D.Denot). FindsRoom l.size l.whole.durable c.args.next.now.durable es) c.self.view_is there

pub returns-clause-ok : goal.returns-clause-ok
returns-clause-ok g c =
    let s = c.self.inside in
    let i = c.self.invariant in
    let es = c.args.changes.now in
    let log : List PlainChange = map arc_value s.log.items in
    let counted : c.len.result ≡ length log = grind (arith, common_steps, c.len.ensures) in
    let acked : flat (cut s.sizes.items log) ≡ log = flat-of i c.self.view_is c.requires.free in
    let few : length (flat (cut s.sizes.items log)) + length es ≤ s.limit = omega (arith, c.if-len-changes.false, counted, ap length acked) in
    let left : c.args.next.now.durable ≡ after s.core.durable es = c.requires.left ∙ ap (λ (l : PlainBook g.row.D.Denot). after l.whole.durable es) (sym c.self.view_is) in
    let there : FindsRoom s.store.size s.core.durable c.args.next.now.durable es =
    subst (λ (l : PlainBook g.row.D.Denot). FindsRoom l.size l.whole.durable c.args.next.now.durable es) (sym c.self.view_is) (returns-clause-found g c) in
    let room : BookHasRoom (world_book_of (parts i)) es =
    record { few = few; device = device-fits s.store.size g.J.Naming.base s.core.durable c.args.next.now.durable (cut s.sizes.items log) es i.folded.durable left there } in
    subst (λ (l : PlainBook g.row.D.Denot). BookHasRoom (world_book l) es) c.self.view_is room

pub returns-then-len-changes-clause-device : goal.returns-then-len-changes-clause-device
returns-then-len-changes-clause-device g c =
    let i = c.self.invariant in
    rests-of g.D.Disk i c.self.view_is (g.met.D.Disk.only_now c.self.inside.store.disk) (either-of i c.self.view_is c.requires.free c.args.changes.now)

pub returns-then-not-has_room-clause-device : goal.returns-then-not-has_room-clause-device
returns-then-not-has_room-clause-device g c =
    let i = c.self.invariant in
    rests-of g.D.Disk i c.self.view_is (g.met.D.Disk.only_now c.self.inside.store.disk) (either-of i c.self.view_is c.requires.free c.args.changes.now)

pub returns-clause-device : goal.returns-clause-device
returns-clause-device g c =
    let i = c.self.invariant in
    rests-of g.D.Disk i c.self.view_is (g.met.D.Disk.only_now c.self.inside.store.disk) (either-of i c.self.view_is c.requires.free c.args.changes.now)
