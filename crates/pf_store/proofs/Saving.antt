-- What one more record, or a switch, leaves of what is held.
use Rattle.std.proofs.Common.{◌≡◌, inl, inr, ℕ, ◌+◌, ◌^◌, ◌<◌, ◌≤◌, Bool, false, List, length, refl, sym, ap, ◌∙◌, subst, arith}
use Rattle.std.specs.Prelude.{Result, Ok, Err, IfOk}
use Rattle.pf_disk.specs.{Disk.{IsImage, IsSynced}, Runs.{MayWrite, WritesNothing}, declared.disk.Disk.Ghosts}
use Rattle.pf_disk.proofs.{Images.only_read, Writing.{and_then, at_most, weakened}}
use Rattle.pf_journal.specs.{Journal.IsOf, declared.journal.Record.Record}
use Rattle.pf_snap.specs.{Banks.{Content, with_payload, switched, bank_size}, Ready.{IsOfAppend, IsOfSwitch, IsReady, Keeps}, declared.{banks.Banks.Banks, header.TheConstants.{BANK_HEADER, NEWEST}, next_bank.NextBank.NextBank}}
use Rattle.pf_snap.specs.Banks as snap
use Rattle.pf_snap.proofs.Holding.{one_content}
use Rattle.pf_core.specs.{Durable.Changes.{PlainDurable}, Worlds.{last_epoch, raised}}
use Rattle.pf_store.specs.declared.encoding.recorded.Recorded.{Recorded}
use Rattle.pf_store.specs.{Durables.IsDurable, Groups.{IsRecorded, IsRecordOf}, Lengths.snapshot_length, Openings.{FollowsOn, HasRoomHere, HoldsAdded, HoldsBy, IsAsLongAs, IsFull, IsNoLaterThan, IsOfOpening, IsOfSave, LeavesRoom, gate_of, generation_of, version_of}, Snapshots.IsBankOf, Stores.{FollowInTurn, left_by_all, Holds, HoldsEither, IsRoomy, Makes}, StoreKept.{Stands, PlainStore, IsStore, HaveKept, store_with}}
use Rattle.pf_store.proofs.{Leading.{leads-push}, Refusing.{one_at, one_gate, one_held}, Sized.raised_roomy}

not_greater : (a b : ℕ) → (a ≤ b → ⊥) → b < a
not_greater a b none = omega (arith, none)

-- from one fact about a result to another
pub on_ok : {T E : Type 0} (r : Result T E) (P Q : T → Type 0) → ((x : T) → P x → Q x) → IfOk r P → IfOk r Q
on_ok (Ok x) P Q f p = f x p
on_ok (Err e) P Q f p = tt

-- from two facts about a result to a third
pub on_both : {T E : Type 0} (r : Result T E) (P Q R : T → Type 0) → ((x : T) → P x → Q x → R x) → IfOk r P → IfOk r Q → IfOk r R
on_both (Ok x) P Q R f p q = f x p q
on_both (Err e) P Q R f p q = tt

-- ---- what contents make

pub makes_more : (content : Content) (d : PlainDurable) (p : List ℕ) (xs : List Recorded) → Makes content d → IsRecorded content.version xs p → FollowInTurn d xs → Makes (with_payload content p) (left_by_all d xs)
makes_more content d p xs makes is follows = record { first = makes.first; kept = makes.kept; leads = leads-push content.version makes.first content.payloads d p xs makes.leads is follows }

pub makes_switched : (content : Content) (d : PlainDurable) (snapshot : List ℕ) → IsDurable NEWEST d snapshot → Makes (switched content NEWEST snapshot) d
makes_switched content d snapshot is = record { first = d; kept = is; leads = refl }

abbrev pub held : (content : Content) (d : PlainDurable) (c : List ℕ) → Makes content d → snap.Holds c content → Holds c d
held content d c makes bank = record { content = content; bank = bank; makes = makes }

either : (content : Content) (d : PlainDurable) (p : List ℕ) (xs : List Recorded) → Makes content d → IsRecorded content.version xs p → FollowInTurn d xs → (c : List ℕ) → snap.HoldsEither content (with_payload content p) c → HoldsEither d (left_by_all d xs) c
either content d p xs makes is follows c (inl bank) = inl (held content d c makes bank)
either content d p xs makes is follows c (inr bank) = inr (held (with_payload content p) (left_by_all d xs) c (makes_more content d p xs makes is follows) bank)

still : (content : Content) (d : PlainDurable) (snapshot : List ℕ) → Makes content d → IsDurable NEWEST d snapshot → (c : List ℕ) → snap.HoldsEither content (switched content NEWEST snapshot) c → Holds c d
still content d snapshot makes is c (inl bank) = held content d c makes bank
still content d snapshot makes is c (inr bank) = held (switched content NEWEST snapshot) d c (makes_switched content d snapshot is) bank

-- the generation of an image that holds this content, or one of two
pub no_later : (g : ℕ) (content : Content) → content.generation ≤ g → (c : List ℕ) → snap.Holds c content → IsNoLaterThan g c
no_later g content low c has d h = subst (λ (k : Content). k.generation ≤ g) (one_content c content h.content has h.bank) low

neither_later : (g : ℕ) (a b : Content) → a.generation ≤ g → b.generation ≤ g → (c : List ℕ) → snap.HoldsEither a b c → IsNoLaterThan g c
neither_later g a b one other c (inl has) = no_later g a one c has
neither_later g a b one other c (inr has) = no_later g b other c has

-- an image that holds either of two leaves room
roomy_as : (seen : List ℕ) (d : PlainDurable) → IsRoomy (bank_size (length seen)) d → (c : List ℕ) → IsAsLongAs seen c → Holds c d → LeavesRoom c
roomy_as seen d roomy c long has e holds =
    subst (λ (k : PlainDurable). IsRoomy (bank_size (length c)) k) (one_held c d e has holds) (subst (λ (n : ℕ). IsRoomy (bank_size n) d) (sym long) roomy)

roomy_either : (seen : List ℕ) (d e : PlainDurable) → IsRoomy (bank_size (length seen)) d → IsRoomy (bank_size (length seen)) e
    → (c : List ℕ) → IsAsLongAs seen c → HoldsEither d e c → LeavesRoom c
roomy_either seen d e one other c long (inl has) = roomy_as seen d one c long has
roomy_either seen d e one other c long (inr has) = roomy_as seen e other c long has

-- each image of a device that holds this, if nothing is unsynced
pub held_synced : (seen : List ℕ) (unsynced : ℕ → Bool) (d : PlainDurable) → IsSynced unsynced → Holds seen d → (c : List ℕ) → IsImage seen unsynced c → Holds c d
held_synced seen unsynced d synced holds c image = subst (λ (l : List ℕ). Holds l d) (sym (only_read seen unsynced c synced image)) holds

module _ {D : Type 0} {seen : D → List ℕ} {unsynced : D → ℕ → Bool} where
  -- each image of a device that a store stands on
  pub standing : {store : PlainStore D} {d : PlainDurable} → Stands seen unsynced store d → (c : List ℕ) → IsImage (seen store.disk) (unsynced store.disk) c → Holds c d
  standing {store = store} {d = d} s = held_synced (seen store.disk) (unsynced store.disk) d s.synced s.holds

module _ {D : Type 0} {seen : D → List ℕ} {banks : Banks D} {d : PlainDurable} where
  -- what the device of banks that hold it reads as
  abbrev pub have_held : HaveKept seen banks d → Holds (seen banks.journal.disk) d
  have_held k = held k.content d (seen banks.journal.disk) k.makes (record { at = banks.at; other = banks.other; holds = k.keeps.holds })

  -- the fields of a store's banks agree with what they hold
  pub store_has : {unsynced : D → ℕ → Bool} {faults : D → ℕ} → IsStore seen unsynced faults banks → Holds (seen banks.journal.disk) d → HaveKept seen banks d
  store_has s h =
      let there : snap.Holds (seen banks.journal.disk) s.content = record { at = banks.at; other = banks.other; holds = s.keeps.holds } in
      record {
        content = s.content;
        keeps = s.keeps;
        makes = subst (λ (c : Content). Makes c d) (one_content (seen banks.journal.disk) h.content s.content h.bank there) h.makes;
      }

  -- an opening's record, of n bytes with the gate after it
  module _ {unsynced : D → ℕ → Bool} (ready : IsReady seen unsynced banks) (k : HaveKept seen banks d) (n : ℕ) (twelve : n ≡ 12) where
    abbrev image : List ℕ
    image = seen banks.journal.disk

    -- it has no room anywhere
    pub tells_full : (e : PlainDurable) → IsFull image e → (banks.journal.end < banks.journal.gate + n) × (bank_size (length image) < BANK_HEADER + snapshot_length d + n)
    tells_full e full =
        let mine = have_held k in
        let at : full.held.bank.at ≡ banks.at = one_at image e d full.held mine in
        let gate : gate_of image e full.held ≡ gate_of image d mine = one_gate image e d full.held mine in
        let same : snapshot_length e ≡ snapshot_length d = ap (λ (x : PlainDurable). snapshot_length x) (one_held image e d full.held mine) in
        (omega (arith, full.here, at, gate, k.keeps.start, k.keeps.gate, ready.end, twelve), omega (arith, full.there, same, twelve))

    pub is_full : banks.generation < 2 ^ 63 → d.epoch < last_epoch → (banks.journal.end < banks.journal.gate + n) × (bank_size (length image) < BANK_HEADER + snapshot_length d + n) → IsFull image d
    is_full early low full = record {
      held = have_held k;
      early = omega (arith, early, k.keeps.generation);
      low = low;
      here = omega (arith, full.0, k.keeps.start, k.keeps.gate, ready.end, twelve);
      there = omega (arith, full.1, twelve);
    }

    -- whether it has room in the bank that counts
    module _ (e : PlainDurable) (held : Holds image e) where
      at : held.bank.at ≡ banks.at
      at = one_at image e d held (have_held k)

      gate : gate_of image e held ≡ gate_of image d (have_held k)
      gate = one_gate image e d held (have_held k)

      pub room_here : HasRoomHere image e held → banks.journal.gate + n ≤ banks.journal.end
      room_here here = omega (arith, here, at, gate, k.keeps.start, k.keeps.gate, ready.end, twelve)

      pub no_room_here : ¬ HasRoomHere image e held → banks.journal.end < banks.journal.gate + n
      no_room_here full =
          not_greater _ _ (λ fits. full (omega (arith, fits, at, gate, k.keeps.start, k.keeps.gate, ready.end, twelve)))

      pub by_generation : generation_of image e held ≡ banks.generation
      by_generation = ap (λ (c : Content). c.generation) (one_content image held.content k.content held.bank (have_held k).bank) ∙ sym k.keeps.generation

      pub by_version : version_of image e held ≡ banks.version
      by_version = ap (λ (c : Content). c.version) (one_content image held.content k.content held.bank (have_held k).bank) ∙ sym k.keeps.version

  have_more : (new : Banks D) (p : List ℕ) (xs : List Recorded) (k : HaveKept seen banks d) → IsRecorded k.content.version xs p → FollowInTurn d xs → Keeps seen new (with_payload k.content p) → HaveKept seen new (left_by_all d xs)
  have_more new p xs k is follows keeps = record { content = with_payload k.content p; keeps = keeps; makes = makes_more k.content d p xs k.makes is follows }

  pub have_switched : (new : Banks D) (snapshot : List ℕ) (k : HaveKept seen banks d) → IsDurable NEWEST d snapshot → Keeps seen new (switched k.content NEWEST snapshot) → HaveKept seen new d
  have_switched new snapshot k is keeps = record { content = switched k.content NEWEST snapshot; keeps = keeps; makes = makes_switched k.content d snapshot is }

-- ---- images while a record is added

-- a record is of these, in the version of the bank that it is added to
in_version : (v w : ℕ) → v ≡ w → (xs : List Recorded) (added : Record) → IsRecordOf v xs added → IsRecordOf w xs added
in_version v w is xs added of_these = subst (λ (n : ℕ). IsRecordOf n xs added) is of_these

-- so far it holds what was kept
pub not_yet : {seen : List ℕ} {g : ℕ} {IsAdded : List Recorded → Type 0} (d : PlainDurable) (c : List ℕ) → HoldsBy seen g (λ image. Holds image d) c → HoldsBy seen g (HoldsAdded IsAdded d) c
not_yet d c it = record { long = it.long; generation = it.generation; holds = record { either = λ xs is follows. inl it.holds } }

pub either_yet : {seen : List ℕ} {g : ℕ} (d e : PlainDurable) (c : List ℕ) → HoldsBy seen g (λ image. Holds image d) c → HoldsBy seen g (HoldsEither d e) c
either_yet d e c it = record { long = it.long; generation = it.generation; holds = inl it.holds }

-- the record of these is being added
pub either_added : {seen : List ℕ} {g : ℕ} {IsAdded : List Recorded → Type 0} {d : PlainDurable} (e : PlainDurable) (xs : List Recorded) → IsAdded xs → FollowInTurn d xs → e ≡ left_by_all d xs → (c : List ℕ)
    → HoldsBy seen g (HoldsAdded IsAdded d) c → HoldsBy seen g (HoldsEither d e) c
either_added {d = d} e xs is follows leads c it =
    record { long = it.long; generation = it.generation; holds = subst (λ (x : PlainDurable). HoldsEither d x c) (sym leads) (it.holds.either xs is follows) }

-- said of another record of the same size
pub as_added : {seen : List ℕ} {g : ℕ} {IsAdded IsOther : List Recorded → Type 0} {d : PlainDurable} → ((xs : List Recorded) → IsOther xs → IsAdded xs) → (c : List ℕ) → HoldsBy seen g (HoldsAdded IsAdded d) c
    → HoldsBy seen g (HoldsAdded IsOther d) c
as_added tells c it = record { long = it.long; generation = it.generation; holds = record { either = λ xs is follows. it.holds.either xs (tells xs is) follows } }

module _ {D : Type 0} {seen : D → List ℕ} {banks : Banks D} {d : PlainDurable} (k : HaveKept seen banks d) where
  abbrev read : List ℕ
  read = seen banks.journal.disk

  -- no call was made
  pub not_called : {unsynced : D → ℕ → Bool} → IsReady seen unsynced banks → (c : List ℕ) → IsImage read (unsynced banks.journal.disk) c → HoldsBy read (banks.generation + 1) (λ image. Holds image d) c
  not_called {unsynced = unsynced} ready c image =
      let here : snap.Holds read k.content = record { at = banks.at; other = banks.other; holds = k.keeps.holds } in
      record {
        long = image.same_length;
        generation = no_later (banks.generation + 1) k.content (omega (arith, k.keeps.generation)) c
            (subst (λ (l : List ℕ). snap.Holds l k.content) (sym (only_read read (unsynced banks.journal.disk) c ready.journal.synced image)) here);
        holds = held_synced read (unsynced banks.journal.disk) d ready.journal.synced (held k.content d read k.makes here) c image;
      }

  -- a record is being added
  pub of_append : (first : List ℕ) → length read ≡ length first → (g : ℕ) → banks.generation ≤ g → (version : ℕ) → version ≡ banks.version → (added : Record) → (p : List ℕ) × IsOf p added
      → (c : List ℕ) → IsOfAppend seen banks added.after_gate.items c → HoldsBy first g (HoldsAdded (λ xs. IsRecordOf version xs added) d) c
  of_append first long g low version same added made c it =
      let below : k.content.generation ≤ g = omega (arith, low, k.keeps.generation) in
      record {
        long = it.elsewhere.same_length ∙ long;
        generation = neither_later g k.content (with_payload k.content made.0) below below c (it.holds k.content made.0 k.keeps made.1.after_gate);
        holds = record {
          either = λ xs is follows.
              let of_these = in_version version k.content.version (same ∙ k.keeps.version) xs added is in
              either k.content d of_these.payload xs k.makes of_these.recorded follows c (it.holds k.content of_these.payload k.keeps of_these.is.after_gate);
        };
      }

  -- and then it has been
  pub have_added : (new : Banks D) (version : ℕ) → version ≡ banks.version → (added : Record) → ((content : Content) (p : List ℕ) → Keeps seen banks content → IsOf p added → Keeps seen new (with_payload content p))
      → (xs : List Recorded) → IsRecordOf version xs added → FollowInTurn d xs → HaveKept seen new (left_by_all d xs)
  have_added new version same added kept xs is follows =
      let of_these = in_version version k.content.version (same ∙ k.keeps.version) xs added is in
      have_more new of_these.payload xs k of_these.recorded follows (kept k.content of_these.payload k.keeps of_these.is)

  -- the other bank is being begun
  pub of_switch : (next : NextBank) → IsBankOf banks.generation next d → (c : List ℕ) → IsOfSwitch seen banks next.after_gate.items c → HoldsBy read (banks.generation + 1) (λ image. Holds image d) c
  of_switch next is c it =
      let either_one = it.holds k.content is.snapshot k.keeps is.next.after_gate in
      let low : k.content.generation ≤ banks.generation + 1 = omega (arith, k.keeps.generation) in
      record {
        long = it.elsewhere.same_length;
        generation = neither_later (banks.generation + 1) k.content (switched k.content NEWEST is.snapshot) low (omega (arith, k.keeps.generation)) c either_one;
        holds = still k.content d is.snapshot k.makes is.written c either_one;
      }

-- nothing was called
pub unsaved : {D : Type 0} {seen : D → List ℕ} {unsynced : D → ℕ → Bool} {faults : D → ℕ} {banks : Banks D} (halted : Bool) {store : PlainStore D} {d : PlainDurable} (e : PlainDurable) → store_with seen banks halted ≡ store
    → IsStore seen unsynced faults banks → Holds (seen store.disk) d → (c : List ℕ) → IsImage (seen store.disk) (unsynced store.disk) c → IsOfSave (seen store.disk) (store.generation + 1) d e c
unsaved {D = D} {seen = seen} {unsynced = unsynced} {banks = banks} halted {d = d} e view s held =
    subst (λ (v : PlainStore D). Holds (seen v.disk) d → (c : List ℕ) → IsImage (seen v.disk) (unsynced v.disk) c → IsOfSave (seen v.disk) (v.generation + 1) d e c) view
    (λ there c image. record {
      by = either_yet d e c (not_called (store_has s there) s.ready c image);
      roomy = λ leaves. subst LeavesRoom (sym (only_read (seen banks.journal.disk) (unsynced banks.journal.disk) c s.ready.journal.synced image)) leaves;
    }) held

-- what was held gets the next epoch
follows_on : (seen : List ℕ) (g : ℕ) (d : PlainDurable) (held : Holds seen d) → g ≤ generation_of seen d held + 1 → (c : List ℕ) → HoldsBy seen g (HoldsEither d (raised d)) c → FollowsOn seen c
follows_on seen g d held low c is = record {
  kept = d;
  held = held;
  holds = is.holds;
  generation = λ e there. let by : generation_of c e there ≤ g = is.generation e there in omega (arith, by, low);
  roomy = λ room. let own = room d held in roomy_either seen d (raised d) own (raised_roomy (bank_size (length seen)) d own) c is.long is.holds;
}

-- ---- runs

module _ {D : Type 0} {device : Ghosts D} where
  -- a record of changes that leave `e` was added to the banks of a store, or the device failed
  pub saved : (banks : Banks D) (halted : Bool) {store : PlainStore D} {new : D} {failed : Bool} {IsAdded : List Recorded → Type 0} {d e : PlainDurable} → store_with device.seen banks halted ≡ store
      → (xs : List Recorded) → IsAdded xs → FollowInTurn d xs → e ≡ left_by_all d xs → Holds (device.seen store.disk) d → IsRoomy store.size e
      → MayWrite device banks.journal.disk new 10 failed (HoldsBy (device.seen banks.journal.disk) (banks.generation + 1) (HoldsAdded IsAdded d))
      → MayWrite device store.disk new 10 failed (λ image. store.halted ≡ false → IsOfSave (device.seen store.disk) (store.generation + 1) d e image)
  saved banks halted {new = new} {failed = failed} {d = d} {e = e} view xs is follows leads held roomy run =
      subst
      (λ (v : PlainStore D). Holds (device.seen v.disk) d → IsRoomy v.size e → MayWrite device v.disk new 10 failed (λ image. v.halted ≡ false → IsOfSave (device.seen v.disk) (v.generation + 1) d e image)) view
      (λ there fits. weakened {Q = λ image. halted ≡ false → IsOfSave (device.seen banks.journal.disk) (banks.generation + 1) d e image} run (λ c it going.
      let then = either_added e xs is follows leads c it in
      record { by = then; roomy = λ leaves. roomy_either (device.seen banks.journal.disk) d e (leaves d there) fits c it.long then.holds })) held roomy

  -- what a device holds gets the next epoch
  pub followed : {old new : D} {failed : Bool} {g : ℕ} {d : PlainDurable} → (held : Holds (device.seen old) d) → g ≤ generation_of (device.seen old) d held + 1
      → MayWrite device old new 10 failed (HoldsBy (device.seen old) g (HoldsEither d (raised d))) → MayWrite device old new 15 failed (IsOfOpening (device.seen old) (device.unsynced old))
  followed {old = old} {g = g} {d = d} held low run =
      at_most {most = 15} (weakened {Q = IsOfOpening (device.seen old) (device.unsynced old)} run (λ c is. inr (follows_on (device.seen old) g d held low c is))) (omega arith)

  -- and so does what was read on it before
  pub opened : {old mid new : D} {failed : Bool} {g : ℕ} {d : PlainDurable} → WritesNothing device old mid 5 false → (held : Holds (device.seen old) d) → g ≤ generation_of (device.seen old) d held + 1
      → MayWrite device mid new 10 failed (HoldsBy (device.seen mid) g (HoldsEither d (raised d))) → MayWrite device old new 15 failed (IsOfOpening (device.seen old) (device.unsynced old))
  opened {old = old} {g = g} {d = d} first held low second =
      let P = IsOfOpening (device.seen old) (device.unsynced old) in
      let Q = HoldsEither d (raised d) in
      and_then {most = 15} (weakened {Q = P} first.run (λ c image. inl image))
      (weakened {Q = P} second (λ c is. inr (follows_on (device.seen old) g d held low c (subst (λ (l : List ℕ). HoldsBy l g Q c) first.seen is)))) (omega arith)
