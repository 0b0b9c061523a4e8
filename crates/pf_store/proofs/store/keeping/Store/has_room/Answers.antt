use Rattle.std.proofs.{Common.{◌≡◌, ◌<◌, ◌^◌, ℕ, ◌≤◌, true, false, List, length, map, sym, subst, arith}, lemmas.List.length-map}
use Rattle.std.specs.Prelude.{IsTrue}
use Rattle.pf_snap.specs.Banks.{bank_size}
use Rattle.pf_store.specs.{Groups.{is_group, made_all}, Lengths.payload_length, Stores.HasRoom, StoreKept.PlainStore}
use Rattle.pf_store.proofs.RoomForGroups.{finds_room}
use Rattle.pf_store.proofs.store.keeping.Store.has_room.Goals as goal

as_many : {A B : Type 0} (f : A → B) (xs : List A) → is_group xs ≡ true → is_group (map f xs) ≡ true
as_many f xs group = rw (length-map xs f) group

half_small : (n : ℕ) → n ≤ 2 ^ 30 → bank_size n < 2 ^ 32
half_small n le = omega (arith, le)

pub returns-then-not-self-clause-exact : goal.returns-then-not-self-clause-exact
returns-then-not-self-clause-exact g c group can =
    let b = c.self.inside.banks in
    let going = c.if-not-self.true in
    let s = c.self.invariant going in
    let before = c.args.before.now in
    let then = c.args.after.now in
    let es = map g.C.AsChange.as_plain c.args.changes.now in
    let n = payload_length (made_all es) in
    let len = length (g.D.Disk.seen b.journal.disk) in
    let size : c.size.result ≡ bank_size len = omega (arith, c.size.ensures, s.ready.end) in
    let small : c.size.result < 2 ^ 32 = omega (arith, size, half_small len s.ready.size.most) in
    subst
    (λ (v : PlainStore g.row.D.Denot). (IsTrue c.find_room.result → v.halted ≡ false × HasRoom v.size before then n) × (v.halted ≡ false × HasRoom v.size before then n → IsTrue c.find_room.result))
    c.self.view_is (
      λ yes. (going, subst (λ (k : ℕ). HasRoom k before then n) size (c.find_room.ensures.0 yes).room),
      λ both. c.find_room.ensures.1 (finds_room c.size.result before then es small (as_many g.C.AsChange.as_plain c.args.changes.now group) can (subst (λ (k : ℕ). HasRoom k before then n) (sym size) both.1)),
    )
