-- Steps of the loops over groups and records.
use Rattle.std.proofs.{Common.{◌≡◌, ◌≢◌, ◌==◌, true, false, true≢false, ◌+◌, ◌-◌, ◌<◌, ℕ, suc, List, [], ◌∷◌, ◌++◌, length, take, drop, Option, Some, None, Result, Ok, Err, refl, sym, ap, ◌∙◌, subst, append_assoc, arith}, lemmas.Bool.Decides.nat_tests, lemmas.List.append-nil}
use Rattle.pf_state.specs.{declared.{peer.fault.PeerFault.PeerFault, peer.fault.PeerFault.TheVariants.BadRecord, peer.message.Group.Group, peer.record.TheConstants.RECORD_LENGTH, peer.fault.ReadError.ReadError, peer.fault.ReadError.TheVariants.Memory, peer.fault.ReadError.TheVariants.Fault}, Peer.Outcomes.{Fails, IfFault}, Peer.Groups.{records_of, ◌>>=◌, group_at, AreGroups, BreakAfterGroups}}

-- a bind after a bind
pub in_turn : {A : Type 0} (xs : List A) (x : A) (r : Result (List A) PeerFault) → ((r >>= λ ys. Ok (x ∷ ys)) >>= λ zs. Ok (xs ++ zs)) ≡ (r >>= λ ys. Ok ((xs ++ x ∷ []) ++ ys))
in_turn xs x (Ok ys) = ap (λ l. Ok l) (sym (append_assoc xs (x ∷ []) ys))
in_turn xs x (Err e) = refl

-- the next record is invalid
pub bad_here : {A : Type 0} (reading : List ℕ → Option A) (n k : ℕ) (rest : List ℕ) (xs : List A) (r : Result (List A) PeerFault) → k < n → reading (take RECORD_LENGTH rest) ≡ None
    → (records_of reading (n - k) rest >>= λ ys. Ok (xs ++ ys)) ≡ r → r ≡ Err BadRecord
bad_here reading n k rest xs r lt none so =
    let step : n - k ≡ suc (n - suc k) = omega (arith, lt) in
    sym so ∙ rw (step, none) refl

-- the next record is valid
pub one_more_record : {A : Type 0} (reading : List ℕ → Option A) (n k : ℕ) (rest following : List ℕ) (xs more : List A) (x : A) (r : Result (List A) PeerFault) → k < n
    → reading (take RECORD_LENGTH rest) ≡ Some x → more ≡ xs ++ x ∷ [] → following ≡ drop RECORD_LENGTH rest → (records_of reading (n - k) rest >>= λ ys. Ok (xs ++ ys)) ≡ r
    → (records_of reading (n - (k + 1)) following >>= λ ys. Ok (more ++ ys)) ≡ r
one_more_record reading n k rest following xs more x r lt some items back so =
    let step : n - k ≡ suc (n - (k + 1)) = omega (arith, lt) in
    let now : ((records_of reading (n - (k + 1)) (drop RECORD_LENGTH rest) >>= λ ys. Ok (x ∷ ys)) >>= λ ys. Ok (xs ++ ys)) ≡ r = (rw (step, some) refl) ∙ so in
    rw (items, back) (sym (in_turn xs x (records_of reading (n - (k + 1)) (drop RECORD_LENGTH rest))) ∙ now)

-- the fault that the next group has
pub fault_in : (bytes rest : List ℕ) (gs : List Group) (e : ReadError)
    → ((hs : List Group) (f : PeerFault) → BreakAfterGroups hs rest f → BreakAfterGroups (gs ++ hs) bytes f) → rest ≢ [] → Fails e (group_at rest)
    → IfFault e (λ f. (before : List Group) × BreakAfterGroups before bytes f)
fault_in bytes rest gs Memory so some is = tt
fault_in bytes rest gs (Fault f) so some is = (gs ++ [], so [] f (some, is))

-- no byte is left
pub all_groups : (bytes rest : List ℕ) (gs : List Group) → ((hs : List Group) → AreGroups rest hs → AreGroups bytes (gs ++ hs)) → rest ≡ [] → AreGroups bytes gs
all_groups bytes rest gs so none = subst (λ (l : List Group). AreGroups bytes l) (append-nil gs) (so [] none)

by_test : (n : ℕ) → (n == 0) ≡ true → n ≡ 0
by_test n e = grind (arith, nat_tests)

pub none_left : (xs : List ℕ) → (length xs == 0) ≡ true → xs ≡ []
none_left [] e = refl
none_left (x ∷ xs) e = absurd (omega (arith, by_test (length (x ∷ xs)) e))

pub some_left : (xs : List ℕ) → (length xs == 0) ≡ false → xs ≢ []
some_left xs e none = true≢false (subst (λ (l : List ℕ). (length l == 0) ≡ false) none e)
