-- Faults stay, and pieces join.
use Rattle.std.proofs.{Common.{ℕ, List, [], ◌∷◌, ◌++◌, inl, inr, refl, sym, ap, ◌∙◌, subst, append_assoc}, lemmas.List.append-nil}
use Rattle.std.specs.List.{concat}
use Rattle.pf_state.specs.{declared.{peer.fault.PeerFault.PeerFault, peer.message.Message.Message}, Peer.Streams.{Ending, Unfinished, Faulty, Reads, Feeds, IsUnfinished, IsFaulty, IsBadHeader, HasBadVersion, HasShortLength, BeginsBroken}}

version_stays : (bytes more : List ℕ) → HasBadVersion bytes → HasBadVersion (bytes ++ more)
version_stays [] more h = elim h [ ]
version_stays (v ∷ []) [] h = h
version_stays (v ∷ []) (m ∷ more) h = inl h
version_stays (v ∷ z ∷ bytes) more h = h

length_stays : (bytes more : List ℕ) → HasShortLength bytes → HasShortLength (bytes ++ more)
length_stays (v ∷ z ∷ a ∷ b ∷ bytes) more h = h
length_stays bytes more h = elim h [ ]

header_stays : (bytes more : List ℕ) (f : PeerFault) → IsBadHeader bytes f → IsBadHeader (bytes ++ more) f
header_stays bytes more f (inl h) = inl (h.0, version_stays bytes more h.1)
header_stays bytes more f (inr h) = inr (h.0, length_stays bytes more h.1)

broken_stays : (bytes more : List ℕ) (f : PeerFault) → BeginsBroken bytes f → BeginsBroken (bytes ++ more) f
broken_stays bytes more f h = record {
  front = h.front;
  following = h.following ++ more;
  split = ap (λ (l : List ℕ). l ++ more) h.split ∙ append_assoc h.front h.following more;
  broken = h.broken;
}

faulty_stays : (bytes more : List ℕ) (f : PeerFault) → IsFaulty bytes f → IsFaulty (bytes ++ more) f
faulty_stays bytes more f (inl h) = inl (header_stays bytes more f h)
faulty_stays bytes more f (inr h) = inr (broken_stays bytes more f h)

pub fault_stays : (bytes more : List ℕ) (ms : List Message) (f : PeerFault) → Reads bytes ms (Faulty f) → Reads (bytes ++ more) ms (Faulty f)
fault_stays bytes more [] f h = faulty_stays bytes more f h
fault_stays bytes more (m ∷ ms) f h =
    let front = h.0 in
    let following = h.1 in
    (front, following ++ more, ap (λ (l : List ℕ). l ++ more) h.2 ∙ append_assoc front following more, h.3, fault_stays following more ms f h.4)

-- a reading up to a rest, and one of what follows that rest
pub reads_join : (bytes rest more : List ℕ) (ms ns : List Message) (e : Ending) → Reads bytes ms (Unfinished rest) → Reads (rest ++ more) ns e → Reads (bytes ++ more) (ms ++ ns) e
reads_join bytes rest more [] ns e h later = subst (λ (l : List ℕ). Reads (l ++ more) ns e) (sym h.0) later
reads_join bytes rest more (m ∷ ms) ns e h later =
    let front = h.0 in
    let following = h.1 in
    (front, following ++ more, ap (λ (l : List ℕ). l ++ more) h.2 ∙ append_assoc front following more, h.3, reads_join following rest more ms ns e h.4 later)

-- what is kept between two pieces is unfinished
rest_unfinished : (bytes rest : List ℕ) (ms : List Message) → Reads bytes ms (Unfinished rest) → IsUnfinished rest
rest_unfinished bytes rest [] h = subst IsUnfinished h.0 h.1
rest_unfinished bytes rest (m ∷ ms) h = rest_unfinished h.1 rest ms h.4

any_pieces : (rest : List ℕ) (pieces : List (List ℕ)) (ms : List Message) (e : Ending) → IsUnfinished rest → Feeds rest pieces ms e → Reads (rest ++ concat pieces) ms e
any_pieces rest [] ms e un h = rw (h.0, h.1, append-nil rest) (refl, un)
any_pieces rest (p ∷ ps) ms e un (inl (f, is, read)) =
    rw is (subst (λ (l : List ℕ). Reads l ms (Faulty f)) (append_assoc rest p (concat ps)) (fault_stays (rest ++ p) (concat ps) ms f (subst (λ (x : Ending). Reads (rest ++ p) ms x) is read)))
any_pieces rest (p ∷ ps) ms e un (inr (first, others, left, is, read, later)) =
    let so = any_pieces left ps others e (rest_unfinished (rest ++ p) left first read) later in
    let all = reads_join (rest ++ p) left (concat ps) first others e read so in
    rw is (subst (λ (l : List ℕ). Reads l (first ++ others) e) (append_assoc rest p (concat ps)) all)

pub pieces_join : (pieces : List (List ℕ)) (ms : List Message) (e : Ending) → Feeds [] pieces ms e → Reads (concat pieces) ms e
pieces_join pieces ms e h = any_pieces [] pieces ms e tt h
