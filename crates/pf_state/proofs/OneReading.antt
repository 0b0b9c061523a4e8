-- A stream has one reading.
use Rattle.std.proofs.{Common.{◌≡◌, ℕ, List, [], ◌∷◌, ◌++◌, length, take, drop, Result, Ok, Err, inl, inr, refl, sym, ap, ◌∙◌, subst, length-append, arith}, lemmas.List.{take_at, drop_at}}
use Rattle.pf_state.specs.{declared.{peer.fault.PeerFault.PeerFault, peer.message.Group.Group, peer.message.Message.Message}, Peer.Groups.{group_at, AreGroups, BreakAfterGroups}, Peer.Messages.{IsWhole, IsMessage, IsBroken}, Peer.Streams.{Ending, Unfinished, Faulty, Reads, Ends, IsUnfinished, IsFaulty, IsBadHeader, HasBadVersion, HasShortLength}}
use Rattle.pf_rule.specs.Bytes.{number_at}

-- ---- groups

ok_one : {A : Type 0} (r : Result A PeerFault) (x y : A) → r ≡ Ok x → r ≡ Ok y → x ≡ y
ok_one r x y p q = let e : Ok x ≡ Ok y = sym p ∙ q in cc

err_one : {A : Type 0} (r : Result A PeerFault) (x y : PeerFault) → r ≡ Err x → r ≡ Err y → x ≡ y
err_one {A} r x y p q = let e : ◌≡◌ {A = Result A PeerFault} (Err x) (Err y) = sym p ∙ q in cc

not_both : {A : Type 0} (r : Result A PeerFault) (x : A) (f : PeerFault) → r ≡ Ok x → r ≡ Err f → ⊥
not_both r x f p q = let e : Ok x ≡ Err f = sym p ∙ q in cc

pub groups_one : (bytes : List ℕ) (gs hs : List Group) → AreGroups bytes gs → AreGroups bytes hs → gs ≡ hs
groups_one bytes [] [] p q = refl
groups_one bytes [] (h ∷ hs) p q = absurd (q.0 p)
groups_one bytes (g ∷ gs) [] p q = absurd (p.0 q)
groups_one bytes (g ∷ gs) (h ∷ hs) p q =
    let same = ok_one (group_at bytes) (g, p.1) (h, q.1) p.2 q.2 in
    let later = groups_one q.1 gs hs (subst (λ (l : List ℕ). AreGroups l gs) (ap (λ (x : Group × List ℕ). x.1) same) p.3) q.3 in
    rw (ap (λ (x : Group × List ℕ). x.0) same, later) refl

breaks_one : (bytes : List ℕ) (gs hs : List Group) (e f : PeerFault) → BreakAfterGroups gs bytes e → BreakAfterGroups hs bytes f → e ≡ f
breaks_one bytes [] [] e f p q = err_one (group_at bytes) e f p.1 q.1
breaks_one bytes [] (h ∷ hs) e f p q = absurd (not_both (group_at bytes) (h, q.1) e q.2 p.1)
breaks_one bytes (g ∷ gs) [] e f p q = absurd (not_both (group_at bytes) (g, p.1) f p.2 q.1)
breaks_one bytes (g ∷ gs) (h ∷ hs) e f p q =
    let same = ok_one (group_at bytes) (g, p.1) (h, q.1) p.2 q.2 in
    breaks_one q.1 gs hs e f (subst (λ (l : List ℕ). BreakAfterGroups gs l e) (ap (λ (x : Group × List ℕ). x.1) same) p.3) q.3

good_or_bad : (bytes : List ℕ) (gs hs : List Group) (f : PeerFault) → AreGroups bytes gs → BreakAfterGroups hs bytes f → ⊥
good_or_bad bytes [] [] f p q = q.0 p
good_or_bad bytes [] (h ∷ hs) f p q = q.0 p
good_or_bad bytes (g ∷ gs) [] f p q = not_both (group_at bytes) (g, p.1) f p.2 q.1
good_or_bad bytes (g ∷ gs) (h ∷ hs) f p q =
    let same = ok_one (group_at bytes) (g, p.1) (h, q.1) p.2 q.2 in
    good_or_bad q.1 gs hs f (subst (λ (l : List ℕ). AreGroups l gs) (ap (λ (x : Group × List ℕ). x.1) same) p.3) q.3

-- ---- one message at the front

-- its length is in its front, whatever follows
length_in : (front following : List ℕ) → IsWhole front → number_at 2 2 (front ++ following) ≡ length front
unfolding number_at
length_in (v ∷ z ∷ a ∷ b ∷ front) following is = is.measured
length_in front following is = absurd (omega (arith, is.enough))

-- two whole messages at the front of a stream are the same
front_one : (a x b y : List ℕ) → a ++ x ≡ b ++ y → IsWhole a → IsWhole b → (a ≡ b) × (x ≡ y)
front_one a x b y is p q =
    let len : length a ≡ length b = sym (length_in a x p) ∙ ap (number_at 2 2) is ∙ length_in b y q in
    (sym (take_at a x (length b) len) ∙ ap (take (length b)) is ∙ take_at b y (length b) refl, sym (drop_at a x (length b) len) ∙ ap (drop (length b)) is ∙ drop_at b y (length b) refl)

message_one : (bytes : List ℕ) (m n : Message) → IsMessage bytes m → IsMessage bytes n → m ≡ n
message_one bytes m n p q = rw (p.checksum, q.checksum, groups_one _ _ _ p.groups q.groups) refl

-- a whole message isn't unfinished
not_unfinished : (front following : List ℕ) → IsWhole front → IsUnfinished (front ++ following) → ⊥
unfolding number_at
not_unfinished (v ∷ z ∷ a ∷ b ∷ front) following is un = omega (arith, un.3, is.measured, length-append front following)
not_unfinished front following is un = absurd (omega (arith, is.enough))

-- nor is its header bad
not_bad_header : (front following : List ℕ) (f : PeerFault) → IsWhole front → IsBadHeader (front ++ following) f → ⊥
unfolding number_at
not_bad_header (v ∷ z ∷ a ∷ b ∷ front) following f is (inl (same, inl differs)) = differs is.version
not_bad_header (v ∷ z ∷ a ∷ b ∷ front) following f is (inl (same, inr differs)) = differs.1 is.zero
not_bad_header (v ∷ z ∷ a ∷ b ∷ front) following f is (inr short) = omega (arith, short.1.2, is.measured, is.enough)
not_bad_header front following f is bad = absurd (omega (arith, is.enough))

-- a header isn't both bad and unfinished
header_apart : (bytes : List ℕ) (f : PeerFault) → IsUnfinished bytes → IsBadHeader bytes f → ⊥
header_apart [] f un (inl h) = elim h.1 [ ]
header_apart [] f un (inr h) = elim h.1 [ ]
header_apart (v ∷ []) f un (inl h) = h.1 un
header_apart (v ∷ []) f un (inr h) = elim h.1 [ ]
header_apart (v ∷ z ∷ []) f un (inl (same, inl differs)) = differs un.0
header_apart (v ∷ z ∷ []) f un (inl (same, inr differs)) = differs.1 un.1
header_apart (v ∷ z ∷ []) f un (inr h) = elim h.1 [ ]
header_apart (v ∷ z ∷ a ∷ []) f un (inl (same, inl differs)) = differs un.0
header_apart (v ∷ z ∷ a ∷ []) f un (inl (same, inr differs)) = differs.1 un.1
header_apart (v ∷ z ∷ a ∷ []) f un (inr h) = elim h.1 [ ]
header_apart (v ∷ z ∷ a ∷ b ∷ bytes) f un (inl (same, inl differs)) = differs un.0
header_apart (v ∷ z ∷ a ∷ b ∷ bytes) f un (inl (same, inr differs)) = differs.1 un.1
header_apart (v ∷ z ∷ a ∷ b ∷ bytes) f un (inr h) = omega (arith, h.1.2, un.2)

-- a bad version and a short length exclude each other
version_or_length : (bytes : List ℕ) → HasBadVersion bytes → HasShortLength bytes → ⊥
version_or_length (v ∷ z ∷ a ∷ b ∷ bytes) (inl differs) q = differs q.0
version_or_length (v ∷ z ∷ a ∷ b ∷ bytes) (inr differs) q = differs.1 q.1
version_or_length bytes p q = elim q [ ]

header_one : (bytes : List ℕ) (e f : PeerFault) → IsBadHeader bytes e → IsBadHeader bytes f → e ≡ f
header_one bytes e f (inl p) (inl q) = p.0 ∙ sym q.0
header_one bytes e f (inl p) (inr q) = absurd (version_or_length bytes p.1 q.1)
header_one bytes e f (inr p) (inl q) = absurd (version_or_length bytes q.1 p.1)
header_one bytes e f (inr p) (inr q) = p.0 ∙ sym q.0

faulty_one : (bytes : List ℕ) (e f : PeerFault) → IsFaulty bytes e → IsFaulty bytes f → e ≡ f
faulty_one bytes e f (inl p) (inl q) = header_one bytes e f p q
faulty_one bytes e f (inl p) (inr q) = absurd (not_bad_header q.front q.following e q.broken.whole (subst (λ (l : List ℕ). IsBadHeader l e) q.split p))
faulty_one bytes e f (inr p) (inl q) = absurd (not_bad_header p.front p.following f p.broken.whole (subst (λ (l : List ℕ). IsBadHeader l f) p.split q))
faulty_one bytes e f (inr p) (inr q) =
    let same = front_one p.front p.following q.front q.following (sym p.split ∙ q.split) p.broken.whole q.broken.whole in
    let broken = subst (λ (l : List ℕ). IsBroken l e) same.0 p.broken in
    breaks_one _ broken.before q.broken.before e f broken.breaks q.broken.breaks

not_faulty : (bytes : List ℕ) (f : PeerFault) → IsUnfinished bytes → IsFaulty bytes f → ⊥
not_faulty bytes f un (inl p) = header_apart bytes f un p
not_faulty bytes f un (inr p) = not_unfinished p.front p.following p.broken.whole (subst IsUnfinished p.split un)

ends_one : (bytes : List ℕ) (d e : Ending) → Ends bytes d → Ends bytes e → d ≡ e
ends_one bytes (Unfinished r) (Unfinished s) p q = ap (λ (l : List ℕ). Unfinished l) (sym p.0 ∙ q.0)
ends_one bytes (Unfinished r) (Faulty f) p q = absurd (not_faulty bytes f p.1 q)
ends_one bytes (Faulty e) (Unfinished s) p q = absurd (not_faulty bytes e q.1 p)
ends_one bytes (Faulty e) (Faulty f) p q = ap (λ (x : PeerFault). Faulty x) (faulty_one bytes e f p q)

-- at a message a stream doesn't end
not_ended : (bytes front following : List ℕ) (m : Message) (e : Ending) → bytes ≡ front ++ following → IsMessage front m → Ends bytes e → ⊥
not_ended bytes front following m (Unfinished r) split is p = not_unfinished front following is.whole (subst IsUnfinished split p.1)
not_ended bytes front following m (Faulty f) split is (inl p) = not_bad_header front following f is.whole (subst (λ (l : List ℕ). IsBadHeader l f) split p)
not_ended bytes front following m (Faulty f) split is (inr p) =
    let same = front_one front following p.front p.following (sym split ∙ p.split) is.whole p.broken.whole in
    let broken = subst (λ (l : List ℕ). IsBroken l f) (sym same.0) p.broken in
    good_or_bad _ m.groups broken.before f is.groups broken.breaks

pub one_reading : (bytes : List ℕ) (ms ns : List Message) (d e : Ending) → Reads bytes ms d → Reads bytes ns e → (ms ≡ ns) × (d ≡ e)
one_reading bytes [] [] d e p q = (refl, ends_one bytes d e p q)
one_reading bytes [] (n ∷ ns) d e p q = absurd (not_ended bytes q.0 q.1 n d q.2 q.3 p)
one_reading bytes (m ∷ ms) [] d e p q = absurd (not_ended bytes p.0 p.1 m e p.2 p.3 q)
one_reading bytes (m ∷ ms) (n ∷ ns) d e p q =
    let same = front_one p.0 p.1 q.0 q.1 (sym p.2 ∙ q.2) p.3.whole q.3.whole in
    let first = message_one q.0 m n (subst (λ (l : List ℕ). IsMessage l m) same.0 p.3) q.3 in
    let later = one_reading q.1 ms ns d e (subst (λ (l : List ℕ). Reads l ms d) same.1 p.4) q.4 in
    (rw (first, later.0) refl, later.1)
