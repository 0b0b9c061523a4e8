-- A peer's stream as a whole.
use Rattle.std.proofs.Common.{◌≡◌, ◌∙◌, ℕ, List, [], ◌∷◌, ◌++◌, Option, Some, None, refl, sym, ap, subst, append_assoc, append-nil}
use Rattle.std.specs.Prelude.{flat_map}
use Rattle.pf_state.specs.declared.{peer.fault.PeerFault.PeerFault, peer.message.Message.Message}
use Rattle.pf_state.specs.Peer.{Outcomes.{TakenAs, ending}, Streams.{Ending, Unfinished, Faulty, IsUnfinished, Reads}}
use Rattle.pf_session.specs.{Laws.Streams.AreOneStream, Server.Streams.{ArePieces, Piece, messages_of, fault_parts}}

reads-more : (bytes piece : List ℕ) (ms others : List Message) (rest : List ℕ) (e : Ending) → Reads bytes ms (Unfinished rest) → Reads (rest ++ piece) others e → Reads (bytes ++ piece) (ms ++ others) e
reads-more bytes piece [] others rest e (is, unfinished) more = subst (λ (l : List ℕ). Reads (l ++ piece) others e) (sym is) more
reads-more bytes piece (m ∷ ms) others rest e (front, following, split, message, reads) more =
    (front, following ++ piece, ap (λ (l : List ℕ). l ++ piece) split ∙ append_assoc front following piece, message, reads-more following piece ms others rest e reads more)

rest-unfinished : (bytes rest : List ℕ) (ms : List Message) → Reads bytes ms (Unfinished rest) → IsUnfinished rest
rest-unfinished bytes rest [] (is, unfinished) = subst IsUnfinished is unfinished
rest-unfinished bytes rest (m ∷ ms) (front, following, split, message, reads) = rest-unfinished following rest ms reads

-- what pieces say together, behind these bytes of a message
record AreJoined (rest : List ℕ) (pieces : List Piece) (left : Option (List ℕ)) : Type 0 where
  pub fault : Option PeerFault
  pub one : flat_map (λ (p : Piece). fault_parts p.fault) pieces ≡ fault_parts fault
  pub taken : TakenAs (Some rest) (flat_map (λ (p : Piece). p.bytes) pieces) left (flat_map (λ (p : Piece). messages_of p.groups) pieces) fault

none-joined : (rest : List ℕ) (left : Option (List ℕ)) → IsUnfinished rest → left ≡ Some rest → AreJoined rest [] left
none-joined rest left unfinished is =
    record { fault = None; one = refl; taken = (rest, (append-nil rest, subst IsUnfinished (sym (append-nil rest)) unfinished), is) }

-- the first of them brings a fault, so there is no other
fault-joined : (rest : List ℕ) (p : Piece) (pieces : List Piece) (left : Option (List ℕ)) (f : PeerFault) → p.fault ≡ Some f → Reads (rest ++ p.bytes) (messages_of p.groups) (Faulty f) → ArePieces None pieces left
    → AreJoined rest (p ∷ pieces) left
fault-joined rest p [] left f is reads none = record {
  fault = Some f;
  one = append-nil (fault_parts p.fault) ∙ ap fault_parts is;
  taken = ([], rw (append-nil p.bytes, append-nil (messages_of p.groups)) reads, none);
}
fault-joined rest p (q ∷ pieces) left f is reads (mid, next, more) = absurd next.taken

on-joined : (rest : List ℕ) (p : Piece) (pieces : List Piece) (left : Option (List ℕ)) (next : List ℕ) → p.fault ≡ None → Reads (rest ++ p.bytes) (messages_of p.groups) (Unfinished next) → AreJoined next pieces left
    → AreJoined rest (p ∷ pieces) left
on-joined rest p pieces left next is reads more =
    let (end, all, same) = more.taken in
    let bytes : List ℕ = flat_map (λ (q : Piece). q.bytes) pieces in
    let others : List Message = flat_map (λ (q : Piece). messages_of q.groups) pieces in
    record {
      fault = more.fault;
      one = ap (λ (l : Option PeerFault). fault_parts l ++ flat_map (λ (q : Piece). fault_parts q.fault) pieces) is ∙ more.one;
      taken = (
        end,
        subst (λ (l : List ℕ). Reads l (messages_of p.groups ++ others) (ending more.fault end)) (append_assoc rest p.bytes bytes)
            (reads-more (rest ++ p.bytes) bytes (messages_of p.groups) others next (ending more.fault end) reads all),
        same,
      );
    }

joined-by : (rest : List ℕ) (p : Piece) (pieces : List Piece) (mid left : Option (List ℕ)) (f : Option PeerFault) → p.fault ≡ f → TakenAs (Some rest) p.bytes mid (messages_of p.groups) f → ArePieces mid pieces left
    → ((next : List ℕ) → IsUnfinished next → ArePieces (Some next) pieces left → AreJoined next pieces left) → AreJoined rest (p ∷ pieces) left
joined-by rest p pieces mid left None is (next, reads, same) more others =
    on-joined rest p pieces left next is reads (others next (rest-unfinished (rest ++ p.bytes) next (messages_of p.groups) reads) (subst (λ (l : Option (List ℕ)). ArePieces l pieces left) same more))
joined-by rest p pieces mid left (Some f) is (next, reads, same) more others = fault-joined rest p pieces left f is reads (subst (λ (l : Option (List ℕ)). ArePieces l pieces left) same more)

joined : (rest : List ℕ) (pieces : List Piece) (left : Option (List ℕ)) → IsUnfinished rest → ArePieces (Some rest) pieces left → AreJoined rest pieces left
joined rest [] left unfinished is = none-joined rest left unfinished is
joined rest (p ∷ pieces) left unfinished (mid, is, more) = joined-by rest p pieces mid left p.fault refl is.taken more (λ next un are. joined next pieces left un are)

pub are_one_stream : AreOneStream
are_one_stream pieces left are = let all : AreJoined [] pieces left = joined [] pieces left tt are in (all.fault, all.one, all.taken)
