-- The calls of a `MemDisk`, one after the other.
use Rattle.std.proofs.{Common.{◌≡◌, ℕ, zero, suc, ◌+◌, ◌<◌, Bool, true, false, ◌&&◌, cond, List, [], ◌∷◌, length, get_or, take, map, refl, sym, ◌∙◌, ap, arith}, lemmas.Bool.and_parts, lemmas.List.{take_more, map-append}}
use Rattle.pf_disk.specs.declared.{call.Call.Call, call.Call.TheVariants.{Read, Write, Sync}}
use Rattle.pf_disk.specs.{Kept.event_of, Calls.{Event, State, after, after_event, is_sync, is_sync_at, counting, fits_in, all_fit}}
use Rattle.pf_disk.proofs.Calls.{after-push, size-after}

pub fit_at : (size : ℕ) (calls : List Call) (i : ℕ) (d : Call) → all_fit size (map event_of calls) ≡ true → i < length calls → fits_in size (event_of (get_or calls i d)) ≡ true
fit_at size [] i d all lt = absurd (omega arith)
fit_at size (it ∷ calls) zero d all lt = (and_parts (fits_in size (event_of it)) (all_fit size (map event_of calls)) all).0
fit_at size (it ∷ calls) (suc k) d all lt = fit_at size calls k d (and_parts (fits_in size (event_of it)) (all_fit size (map event_of calls)) all).1 (omega arith)

pub after-more : (s : State) (calls : List Call) (i : ℕ) (call : Call) → i < length calls → call ≡ get_or calls i call
    → after s (map event_of (take (i + 1) calls)) ≡ after_event (after s (map event_of (take i calls))) (event_of call)
after-more s calls i call lt is =
    ap (λ l. after s (map event_of l)) (take_more calls i call lt) ∙ ap (after s) (map-append event_of (take i calls) (get_or calls i call ∷ []))
    ∙ after-push s (map event_of (take i calls)) (event_of (get_or calls i call)) ∙ ap (λ (it : Call). after_event (after s (map event_of (take i calls))) (event_of it)) (sym is)

pub all_fit-take : (size : ℕ) (events : List Event) (n : ℕ) → all_fit size events ≡ true → all_fit size (take n events) ≡ true
all_fit-take size events zero all = refl
all_fit-take size [] (suc n) all = refl
all_fit-take size (it ∷ events) (suc n) all =
    rw (and_parts (fits_in size it) (all_fit size events) all).0 (all_fit-take size events n (and_parts (fits_in size it) (all_fit size events) all).1)

pub size-after_all : (s : State) (events : List Event) → all_fit (length s.seen) events ≡ true → length (after s events).seen ≡ length s.seen
size-after_all s [] all = refl
size-after_all s (it ∷ events) all =
    let one : length (after_event s it).seen ≡ length s.seen = size-after s it (and_parts (fits_in (length s.seen) it) (all_fit (length s.seen) events) all).0 in
    size-after_all (after_event s it) events (ap (λ (n : ℕ). all_fit n events) one ∙ (and_parts (fits_in (length s.seen) it) (all_fit (length s.seen) events) all).1) ∙ one

sync_at_is : (calls : List Call) (k : ℕ) (d : Call) → k < length calls → is_sync_at (map event_of calls) k ≡ is_sync (event_of (get_or calls k d))
sync_at_is [] k d lt = absurd (omega arith)
sync_at_is (it ∷ calls) zero d lt = refl
sync_at_is (it ∷ calls) (suc k) d lt = sync_at_is calls k d (omega arith)

pub counting_is : (calls : List Call) (m k : ℕ) (call : Call) → m ≡ suc k → k < length calls → call ≡ get_or calls k call → counting (map event_of calls) m ≡ cond (is_sync (event_of call)) k (suc k)
counting_is calls m k call is lt at = ap (counting (map event_of calls)) is ∙ ap (λ (b : Bool). cond b k (suc k)) (sync_at_is calls k call lt ∙ ap (λ (it : Call). is_sync (event_of it)) (sym at))

pub not_sync : (call : Call) → (call ≡ Sync → ⊥) → is_sync (event_of call) ≡ false
not_sync Read isnt = refl
not_sync (Write at bytes) isnt = refl
not_sync Sync isnt = absurd (isnt refl)
