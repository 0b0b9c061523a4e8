-- One call more of a device that keeps its calls.
use Rattle.std.proofs.{Common.{◌≡◌, inl, inr, ⊎_elim, ◌⊎◌, ℕ, zero, suc, ◌+◌, ◌<◌, ◌≤◌, Bool, true, false, ◌&&◌, cond, List, [], ◌∷◌, ◌++◌, length, take, refl, sym, ◌∙◌, ap, subst, arith, append_assoc, take-append-drop, drop, Result, Ok, Err}, lemmas.List.{take_all, take-append-le, length_push, length-take, length-drop, drop-drop}, lemmas.Bool.{cases_lt, cases_eq, leb-true, le-leb, or_parts}}
use Rattle.std.specs.Prelude.{OnOk, OnErr}
use Rattle.pf_disk.specs.{Disk.{IsImage, AreIn, Elapses, with_range, is_within, overwritten}, Calls.{Event, reading, writing, syncing, State, at_rest, after_event, after, is_sync, is_sync_at, counting, state_at, IsImageAt, LeftSince, fits_in, all_fit}, Past.at_past}
use Rattle.pf_disk.proofs.Images.{wide_image, overwritten_elsewhere}

pub after-push : (s : State) (events : List Event) (event : Event) → after s (events ++ event ∷ []) ≡ after_event (after s events) event
after-push s [] event = refl
after-push s (it ∷ events) event = after-push (after_event s it) events event

pub fit-push : (size : ℕ) (events : List Event) (event : Event) → all_fit size events ≡ true → fits_in size event ≡ true → all_fit size (events ++ event ∷ []) ≡ true
fit-push size [] event all one = rw one refl
fit-push size (it ∷ events) event all one = elim (fits_in size it) as (λ b. (b && all_fit size events) ≡ true → (b && all_fit size (events ++ event ∷ [])) ≡ true) [
  | true ↦ λ rest. fit-push size events event rest one
  | false ↦ λ no. absurd cc
] all

sync_before : (events : List Event) (event : Event) (k : ℕ) → k < length events → is_sync_at (events ++ event ∷ []) k ≡ is_sync_at events k
sync_before [] event k lt = absurd (omega arith)
sync_before (it ∷ events) event zero lt = refl
sync_before (it ∷ events) event (suc k) lt = sync_before events event k (omega arith)

sync_last : (events : List Event) (event : Event) → is_sync_at (events ++ event ∷ []) (length events) ≡ is_sync event
sync_last [] event = refl
sync_last (it ∷ events) event = sync_last events event

counting-le : (events : List Event) (m : ℕ) → counting events m ≤ m
counting-le events zero = omega arith
counting-le events (suc k) = elim (is_sync_at events k) as (λ b. cond b k (suc k) ≤ suc k) [ true ↦ omega arith | false ↦ omega arith ]

at_before : (first : List ℕ) (events : List Event) (event : Event) (m : ℕ) → m ≤ length events → state_at first (events ++ event ∷ []) m ≡ state_at first events m
at_before first events event zero le = refl
at_before first events event (suc k) le =
    let same : counting (events ++ event ∷ []) (suc k) ≡ counting events (suc k) = ap (λ (b : Bool). cond b k (suc k)) (sync_before events event k (omega arith)) in
    ap (λ (n : ℕ). after (at_rest first) (take n (events ++ event ∷ []))) same
    ∙ ap (after (at_rest first)) (take-append-le (counting events (suc k)) events (event ∷ []) (omega (arith, counting-le events (suc k))))

at_last : (first : List ℕ) (events : List Event) (event : Event) → state_at first (events ++ event ∷ []) (suc (length events)) ≡ cond (is_sync event) (after (at_rest first) events) (after_event (after (at_rest first) events) event)
at_last first events event =
    let n = length events in
    let number : counting (events ++ event ∷ []) (suc n) ≡ cond (is_sync event) n (suc n) = ap (λ (b : Bool). cond b n (suc n)) (sync_last events event) in
    let by_case : (b : Bool) → after (at_rest first) (take (cond b n (suc n)) (events ++ event ∷ [])) ≡ cond b (after (at_rest first) events) (after_event (after (at_rest first) events) event) =
    elim [
      | true ↦ ap (after (at_rest first)) (take-append-le n events (event ∷ []) (omega arith) ∙ take_all n events (omega arith))
      | false ↦ ap (after (at_rest first)) (take_all (suc n) (events ++ event ∷ []) (omega (arith, length_push events event))) ∙ after-push (at_rest first) events event
    ] in
    ap (λ (k : ℕ). after (at_rest first) (take k (events ++ event ∷ []))) number ∙ by_case (is_sync event)

-- what an event makes of the images
abbrev Shows : State → List ℕ → Type 0
Shows s c = IsImage s.seen s.unsynced c

during : (s : State) (event : Event) (c : List ℕ) → Shows (cond (is_sync event) s (after_event s event)) c → Shows s c ⊎ Shows (after_event s event) c
during s reading c image = inl image
during s (writing at bytes) c image = inr image
during s syncing c image = inl image

still : (s : State) (event : Event) (c : List ℕ) → fits_in (length s.seen) event ≡ true → Shows s c → Shows (cond (is_sync event) s (after_event s event)) c
still s reading c fits image = image
still s (writing at bytes) c fits image = wide_image at s.seen bytes s.unsynced c (leb-true _ _ fits) image
still s syncing c fits image = image

module _ (first : List ℕ) (events : List Event) (event : Event) (fits : fits_in (length (after (at_rest first) events).seen) event ≡ true) where
  abbrev now : State
  now = after (at_rest first) events

  earlier : (t m : ℕ) (c : List ℕ) → t < m → Shows now c → t ≤ length events → LeftSince first events t c
  earlier t m c lt image le = (suc (length events), omega arith, subst (λ (s : State). Shows s c) (sym (at_past first events (suc (length events)) (omega arith))) image)

  nothing : (t : ℕ) (c : List ℕ) → t ≤ length events → (m : ℕ) → t < m → IsImageAt first (events ++ event ∷ []) m c → LeftSince first events t c ⊎ Shows (after_event now event) c
  nothing t c le m lt image = elim (cases_lt (length events) m) [
    | inr past ↦ inl (m, lt, subst (λ (s : State). Shows s c) (at_before first events event m past) image)
    | inl late ↦ elim (cases_eq m (suc (length events))) [
      | inl last ↦
          let here : Shows (cond (is_sync event) now (after_event now event)) c = subst (λ (s : State). Shows s c) (at_last first events event) (subst (λ (k : ℕ). IsImageAt first (events ++ event ∷ []) k c) last image) in
          ⊎_elim (λ old. inl (earlier t m c lt old le)) (λ new. inr new) (during now event c here)
      | inr other ↦
          let here = subst (λ (s : State). Shows s c) (at_past first (events ++ event ∷ []) m (omega (arith, length_push events event)) ∙ after-push (at_rest first) events event) image in inr here
    ]
  ]

  keeps_all : (t : ℕ) (c : List ℕ) → t ≤ length events → (m : ℕ) → t < m → IsImageAt first events m c → LeftSince first (events ++ event ∷ []) t c
  keeps_all t c le m lt image = elim (cases_lt (length events) m) [
    | inr past ↦ (m, lt, subst (λ (s : State). Shows s c) (sym (at_before first events event m past)) image)
    | inl late ↦
        let here : Shows now c = subst (λ (s : State). Shows s c) (at_past first events m late) image in
        (suc (length events), omega arith, subst (λ (s : State). Shows s c) (sym (at_last first events event)) (still now event c fits here))
  ]

  pub elapses_push : Elapses (length events) (length (events ++ event ∷ [])) (LeftSince first events) (LeftSince first (events ++ event ∷ [])) (after_event now event).seen (after_event now event).unsynced
  elapses_push = record {
    later = omega (arith, length_push events event);
    one_call = omega (arith, length_push events event);
    nothing_else = λ t c le left. nothing t c le left.0 left.1 left.2;
    keeps = λ t c le left. keeps_all t c le left.0 left.1 left.2;
  }

-- ---- one call more of a device that keeps its calls

-- what such a device knows of its bytes
pub record Keeps (first bytes : List ℕ) (size : ℕ) (events : List Event) : Type 0 where
  pub seen : (after (at_rest first) events).seen ≡ bytes
  pub same_size : length bytes ≡ size
  pub fit : all_fit size events ≡ true

seen_after : (s : State) (event : Event) → (after_event s event).seen ≡ (after_event (at_rest s.seen) event).seen
seen_after s reading = refl
seen_after s (writing at bytes) = refl
seen_after s syncing = refl

pub size-after : (s : State) (event : Event) → fits_in (length s.seen) event ≡ true → length (after_event s event).seen ≡ length s.seen
size-after s reading fits = refl
size-after s (writing at bytes) fits = (overwritten_elsewhere at s.seen bytes (leb-true _ _ fits)).same_length
size-after s syncing fits = refl

-- a call that is kept: what holds after it
pub record GoesOn (first old_bytes new_bytes : List ℕ) (size : ℕ) (old new : List Event) (event : Event) : Type 0 where
  pub keeps : Keeps first new_bytes size new
  pub unsynced : (i : ℕ) → (after (at_rest first) new).unsynced i ≡ (after_event (after (at_rest first) old) event).unsynced i
  pub time : Elapses (length old) (length new) (LeftSince first old) (LeftSince first new) new_bytes (after (at_rest first) new).unsynced

pub goes : (first old_bytes new_bytes : List ℕ) (size : ℕ) (old new : List Event) (event : Event) → Keeps first old_bytes size old → fits_in size event ≡ true
    → new ≡ old ++ event ∷ [] → new_bytes ≡ (after_event (at_rest old_bytes) event).seen → GoesOn first old_bytes new_bytes size old new event
goes first old_bytes new_bytes size old new event keeps fits is now =
    let s = after (at_rest first) old in
    let state : after (at_rest first) new ≡ after_event s event = ap (after (at_rest first)) is ∙ after-push (at_rest first) old event in
    let here : new_bytes ≡ (after_event s event).seen = now ∙ ap (λ (l : List ℕ). (after_event (at_rest l) event).seen) (sym keeps.seen) ∙ sym (seen_after s event) in
    let fits_here : fits_in (length s.seen) event ≡ true = ap (λ (n : ℕ). fits_in n event) (ap length keeps.seen ∙ keeps.same_size) ∙ fits in
    let seen : (after (at_rest first) new).seen ≡ new_bytes = ap (λ (t : State). t.seen) state ∙ sym here in
    let pushed : Elapses (length old) (length (old ++ event ∷ [])) (LeftSince first old) (LeftSince first (old ++ event ∷ [])) (after (at_rest first) (old ++ event ∷ [])).seen (after (at_rest first) (old ++ event ∷ [])).unsynced =
    subst (λ (t : State). Elapses (length old) (length (old ++ event ∷ [])) (LeftSince first old) (LeftSince first (old ++ event ∷ [])) t.seen t.unsynced) (sym (after-push (at_rest first) old event)) (elapses_push first old event fits_here) in
    let at_new : Elapses (length old) (length new) (LeftSince first old) (LeftSince first new) (after (at_rest first) new).seen (after (at_rest first) new).unsynced =
    subst (λ (l : List Event). Elapses (length old) (length l) (LeftSince first old) (LeftSince first l) (after (at_rest first) l).seen (after (at_rest first) l).unsynced) (sym is) pushed in
    record {
      keeps = record {
        seen = seen;
        same_size = ap length here ∙ size-after s event fits_here ∙ ap length keeps.seen ∙ keeps.same_size;
        fit = ap (all_fit size) is ∙ fit-push size old event keeps.fit fits;
      };
      unsynced = λ i. ap (λ (t : State). t.unsynced i) state;
      time = subst (λ (l : List ℕ). Elapses (length old) (length new) (LeftSince first old) (LeftSince first new) l (after (at_rest first) new).unsynced) seen at_new;
    }

-- a call that writes nothing, kept or not
pub still_keeps : {T E : Type 0} (result : Result T E) (first bytes : List ℕ) (size : ℕ) (old new : List Event) (event : Event) → Keeps first bytes size old → fits_in size event ≡ true
    → bytes ≡ (after_event (at_rest bytes) event).seen → OnOk result (new ≡ old ++ event ∷ []) → OnErr result (new ≡ old) → Keeps first bytes size new
still_keeps (Ok x) first bytes size old new event keeps fits unmoved kept same = (goes first bytes bytes size old new event keeps fits kept unmoved).keeps
still_keeps (Err e) first bytes size old new event keeps fits unmoved kept same = subst (Keeps first bytes size) (sym same) keeps

-- a write that is kept, of n bytes
pub record Wrote (first new_bytes : List ℕ) (size : ℕ) (old new : List Event) (at n : ℕ) : Type 0 where
  pub keeps : Keeps first new_bytes size new
  pub unsynced : AreIn (after (at_rest first) new).unsynced (with_range at n (after (at_rest first) old).unsynced)
  pub still : AreIn (after (at_rest first) old).unsynced (after (at_rest first) new).unsynced
  pub marked : AreIn (is_within at n) (after (at_rest first) new).unsynced
  pub time : Elapses (length old) (length new) (LeftSince first old) (LeftSince first new) new_bytes (after (at_rest first) new).unsynced

pub wrote : (first old_bytes new_bytes : List ℕ) (size : ℕ) (old new : List Event) (at n : ℕ) (bytes : List ℕ) → Keeps first old_bytes size old → at + n ≤ length old_bytes → length bytes ≡ n
    → new ≡ old ++ writing at bytes ∷ [] → new_bytes ≡ overwritten old_bytes at bytes → Wrote first new_bytes size old new at n
wrote first old_bytes new_bytes size old new at n bytes keeps fits len is written =
    let it = goes first old_bytes new_bytes size old new (writing at bytes) keeps (le-leb _ _ (omega (arith, fits, len, keeps.same_size))) is written in
    let set = (after (at_rest first) old).unsynced in
    let marks : (i : ℕ) → (after (at_rest first) new).unsynced i ≡ with_range at n set i = λ i. it.unsynced i ∙ ap (λ (k : ℕ). with_range at k set i) len in
    record {
      keeps = it.keeps;
      unsynced = λ i out. marks i ∙ out;
      still = λ i out. (or_parts (set i) (is_within at n i) (sym (marks i) ∙ out)).0;
      marked = λ i out. (or_parts (set i) (is_within at n i) (sym (marks i) ∙ out)).1;
      time = it.time;
    }

-- the bytes that are there already
pub written_again : (at n : ℕ) (bytes : List ℕ) → at + n ≤ length bytes → bytes ≡ overwritten bytes at (take n (drop at bytes))
written_again at n bytes fits =
    let len : length (take n (drop at bytes)) ≡ n = omega (arith, length-take n (drop at bytes), length-drop at bytes, fits) in
    sym (ap (λ (k : ℕ). take at bytes ++ take n (drop at bytes) ++ drop (at + k) bytes) len
    ∙ append_assoc (take at bytes) (take n (drop at bytes)) (drop (at + n) bytes)
    ∙ ap (λ (l : List ℕ). take at bytes ++ (take n (drop at bytes) ++ l)) (sym (drop-drop n at bytes)) ∙ ap (λ (l : List ℕ). take at bytes ++ l) (take-append-drop n (drop at bytes)) ∙ take-append-drop at bytes)
