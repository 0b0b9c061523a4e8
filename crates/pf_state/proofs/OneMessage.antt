-- Bytes that have to be one message.
use Rattle.std.proofs.{Common.{◌≡◌, ◌↔◌, ℕ, List, [], ◌∷◌, Result, Ok, refl, sym, ◌∙◌}, lemmas.List.append-nil}
use Rattle.pf_state.specs.{declared.{peer.fault.OneFault.OneFault, peer.message.Message.Message}, Peer.Messages.IsMessage, Peer.Streams.{Ending, Unfinished, Faulty, Reads}, Peer.One.{IsOne, one_of}}
use Rattle.pf_state.proofs.OneReading.{one_reading}

pub one_answer : (bytes : List ℕ) (r s : Result Message OneFault) → IsOne bytes r → IsOne bytes s → r ≡ s
one_answer bytes r s p q =
    let same = one_reading bytes p.0 q.0 p.1 q.1 p.2 q.2 in
    p.3 ∙ rw (same.0, same.1) refl ∙ sym q.3

-- a stream that is one message is that message's bytes
alone : (bytes : List ℕ) (m n : Message) → Reads bytes (n ∷ []) (Unfinished []) → ◌≡◌ {A = Result Message OneFault} (Ok m) (Ok n) → IsMessage bytes m
alone bytes m n (front, following, split, is, ends) same =
    let whole : bytes ≡ front = split ∙ rw ends.0 (append-nil front) in
    let one : m ≡ n = cc in
    rw (whole, one) is

is_message : (bytes : List ℕ) (m : Message) (ms : List Message) (e : Ending) → Reads bytes ms e → ◌≡◌ {A = Result Message OneFault} (Ok m) (one_of ms e) → IsMessage bytes m
is_message bytes m ms (Faulty f) read same = absurd cc
is_message bytes m ms (Unfinished (b ∷ rest)) read same = absurd cc
is_message bytes m [] (Unfinished []) read same = absurd cc
is_message bytes m (n ∷ []) (Unfinished []) read same = alone bytes m n read same
is_message bytes m (n ∷ k ∷ ms) (Unfinished []) read same = absurd cc

is_one : (bytes : List ℕ) (m : Message) → IsMessage bytes m → IsOne bytes (Ok m)
is_one bytes m is = (m ∷ [], Unfinished [], (bytes, [], sym (append-nil bytes), is, (refl, tt)), refl)

pub message_alone : (bytes : List ℕ) (m : Message) → IsOne bytes (Ok m) ↔ IsMessage bytes m
message_alone bytes m = (λ p. is_message bytes m p.0 p.1 p.2 p.3, is_one bytes m)
