-- What the first bytes of a message mean.
use Rattle.std.proofs.{Common.{◌≡◌, ℕ, List, [], ◌∷◌, ◌++◌, take, drop, Option, Some, None, Result, Ok, Err, inr, refl, sym, subst, append_assoc}, lemmas.List.{append-nil, take-append-drop}}
use Rattle.pf_state.specs.{declared.{peer.message.Message.Message, peer.fault.PeerFault.PeerFault}, Peer.Streams.{Ending, Unfinished, Faulty, Reads, Ends, IsUnfinished, IsFaulty}, Peer.Outcomes.ending, Peer.Messages.{IsMessage, IsJudged}}

pub one_more_message : (bytes rest front following : List ℕ) (ms : List Message) (m : Message)
    → ((ns : List Message) (e : Ending) → Reads rest ns e → Reads bytes (ms ++ ns) e) → rest ≡ front ++ following → IsMessage front m
    → (ns : List Message) (e : Ending) → Reads following ns e → Reads bytes ((ms ++ m ∷ []) ++ ns) e
one_more_message bytes rest front following ms m so split is ns e read = subst (λ (l : List Message). Reads bytes l e) (sym (append_assoc ms (m ∷ []) ns)) (so (m ∷ ns) e (front, following, split, is, read))

-- nothing more is read: what is left ends like this
pub end_here : (bytes rest : List ℕ) (ms : List Message) (e : Ending) → ((ns : List Message) (d : Ending) → Reads rest ns d → Reads bytes (ms ++ ns) d) → Ends rest e → Reads bytes ms e
end_here bytes rest ms e so is = subst (λ (l : List Message). Reads bytes l e) (append-nil ms) (so [] e is)

pub unfinished_here : (bytes rest left : List ℕ) (ms ns : List Message) (fault : Option PeerFault)
    → ((ks : List Message) (d : Ending) → Reads rest ks d → Reads bytes (ms ++ ks) d) → ns ≡ ms → fault ≡ None → left ≡ rest → IsUnfinished rest → Reads bytes ns (ending fault left)
unfinished_here bytes rest left ms ns fault so same none here is = rw (same, none, here) (end_here bytes rest ms (Unfinished rest) so (refl, is))

pub faulty_here : (bytes rest left : List ℕ) (ms ns : List Message) (fault : Option PeerFault) (f : PeerFault)
    → ((ks : List Message) (d : Ending) → Reads rest ks d → Reads bytes (ms ++ ks) d) → ns ≡ ms → fault ≡ Some f → IsFaulty rest f → Reads bytes ns (ending fault left)
faulty_here bytes rest left ms ns fault f so same some is = rw (same, some) (end_here bytes rest ms (Faulty f) so is)

-- what comes before a place and what comes from it on
pub cut_at : (rest front following : List ℕ) (size : ℕ) → front ≡ take size rest → following ≡ drop size rest → rest ≡ front ++ following
cut_at rest front following size p q = rw (p, q) (sym (take-append-drop size rest))

pub begins_broken : (rest front following : List ℕ) (f : PeerFault) (r : Result Message PeerFault) → rest ≡ front ++ following → IsJudged front r → r ≡ Err f → IsFaulty rest f
begins_broken rest front following f r split is err = inr (record { front = front; following = following; split = split; broken = subst (λ (x : Result Message PeerFault). IsJudged front x) err is })

pub judged_message : (front : List ℕ) (m : Message) (r : Result Message PeerFault) → IsJudged front r → r ≡ Ok m → IsMessage front m
judged_message front m r is ok = subst (λ (x : Result Message PeerFault). IsJudged front x) ok is
