-- Written bytes are read back.
use Rattle.std.proofs.Common.{◌≡◌, ℕ, List, [], ◌∷◌, Ok, inl, refl, ap}
use Rattle.std.specs.Prelude.{codes, Some}
use Rattle.hex.specs.Hex.{IsBytes, encode_lower, encode_upper}
use Rattle.hex.proofs.HexLemmas.{decode_of-encode_lower, decode_of-encode_upper}
use Rattle.pf_state.specs.declared.peer.message.Message.{Message}
use Rattle.pf_state.specs.Peer.Written.{message_bytes, CanBeWritten}
use Rattle.pf_state.proofs.{OneMessage.message_alone, RoundTrip.message_again}
use Rattle.pf_core.specs.declared.{command.Command.TheVariants.States, command.StateCommand.TheVariants.Peer}
use Rattle.pf_line.specs.{declared.request.Request.TheVariants.Run, States.{as_word, bytes_of}, Grammar.{Tells, line as grammar}, Lines.{Means, SpellsLine}}
use Rattle.pf_form.specs.Form.Forms.{Spells}

-- ---- bytes in hexadecimal

pub bytes_again : (bytes : List ℕ) → IsBytes bytes → bytes_of (encode_lower bytes) ≡ Ok bytes
bytes_again bytes are = ap as_word (decode_of-encode_lower bytes are)

pub upper_bytes_again : (bytes : List ℕ) → IsBytes bytes → bytes_of (encode_upper bytes) ≡ Ok bytes
upper_bytes_again bytes are = ap as_word (decode_of-encode_upper bytes are)

-- ---- a peer's message

pub message_spelled : (m : Message) → IsBytes (message_bytes m) → Spells grammar (Tells (message_bytes m)) (codes "peer" ∷ encode_lower (message_bytes m) ∷ [])
message_spelled m are =
    let text = encode_lower (message_bytes m) in
    inl (text ∷ [], (message_bytes m, (text, bytes_again (message_bytes m) are, refl), refl), refl)

pub message_meant : (m : Message) → CanBeWritten m → Means (Ok (Some (Tells (message_bytes m)))) (Ok (Some (Run (States (Peer m)))))
message_meant m can = (Ok m, (message_alone (message_bytes m) m).1 (message_again m can), refl)

pub message_said : (m : Message) → CanBeWritten m → IsBytes (message_bytes m) → SpellsLine (Run (States (Peer m))) (codes "peer" ∷ encode_lower (message_bytes m) ∷ [])
message_said m can are = (Tells (message_bytes m), message_spelled m are, message_meant m can)
