-- The moments since the last call: there is the state of now, and no other.
use Rattle.std.specs.Prelude.{◌≡◌, ℕ, zero, suc, ◌+◌, ◌<◌, ◌≤◌, false, List, [], ◌∷◌, length, refl}
use Rattle.std.proofs.{Common.{arith, subst, sym, ap}, lemmas.List.take_all}
use Rattle.pf_disk.specs.{Disk.IsImage, Calls.{Event, State, at_rest, after, is_sync_at, state_at, LeftSince}}

pub no_sync_past : (events : List Event) (k : ℕ) → length events ≤ k → is_sync_at events k ≡ false
no_sync_past [] k le = refl
no_sync_past (event ∷ events) zero le = absurd (omega arith)
no_sync_past (event ∷ events) (suc k) le = no_sync_past events k (omega arith)

pub at_past : (first : List ℕ) (events : List Event) (m : ℕ) → length events < m → state_at first events m ≡ after (at_rest first) events
at_past first events zero lt = absurd (omega arith)
at_past first events (suc k) lt =
    rw (no_sync_past events k (omega arith)) (ap (after (at_rest first)) (take_all (suc k) events (omega arith)))

pub now_counts : (first bytes : List ℕ) (events : List Event) (t : ℕ) (c : List ℕ) → (after (at_rest first) events).seen ≡ bytes
    → t ≤ length events → IsImage bytes (after (at_rest first) events).unsynced c → LeftSince first events t c
now_counts first bytes events t c is le image =
    let m = length events + 1 in
    let same : state_at first events m ≡ after (at_rest first) events = at_past first events m (omega arith) in
    let here : IsImage (after (at_rest first) events).seen (after (at_rest first) events).unsynced c =
    subst (λ (l : List ℕ). IsImage l (after (at_rest first) events).unsynced c) (sym is) image in
    (m, omega arith, subst (λ (s : State). IsImage s.seen s.unsynced c) (sym same) here)

pub now_only : (first bytes : List ℕ) (events : List Event) (c : List ℕ) → (after (at_rest first) events).seen ≡ bytes
    → LeftSince first events (length events) c → IsImage bytes (after (at_rest first) events).unsynced c
now_only first bytes events c is left =
    let here = subst (λ (s : State). IsImage s.seen s.unsynced c) (at_past first events left.0 left.1) left.2 in
    subst (λ (l : List ℕ). IsImage l (after (at_rest first) events).unsynced c) is here
