-- Words for a state's number, and for bytes. The creator of a state is spelled like a ticket's epoch.
use Rattle.std.specs.Prelude.{◌≡◌, ℕ, List, [], ◌∷◌, codes, Option, Result, Ok, Err}
use Rattle.std.proofs.Common.{refl}
use Rattle.hex.specs.declared.error.FromHexError.{FromHexError}
use Rattle.hex.specs.Hex.{decode_of, decode_pairs}
use Rattle.pf_form.specs.declared.{form.fault.Kind.Kind, form.fault.Kind.TheVariants.BadWord}
use Rattle.pf_form.specs.{Form.Words.Word, Form.Numbers.{IsNumberIn, number_in}}
use Rattle.pf_line.specs.declared.state.TheConstants.{ID_DIGIT_LIMIT}

-- a state's number: 1 to 20 digits of a number of 64 bits
abbrev pub id_of : Word → Option ℕ
id_of w = number_in 64 ID_DIGIT_LIMIT w

-- a number of 64 bits in 1 to 20 decimal digits, with leading zeros allowed
abbrev pub IsId : List ℕ → ℕ → Type 0
IsId text n = IsNumberIn 64 ID_DIGIT_LIMIT text n

-- any fault of hexadecimal makes a bad word
abbrev pub as_word : Result (List ℕ) FromHexError → Result (List ℕ) Kind
as_word (Ok bytes) = Ok bytes
as_word (Err e) = Err BadWord

-- whole bytes in hexadecimal: two digits for each, with letters of either case
abbrev pub bytes_of : Word → Result (List ℕ) Kind
bytes_of w = as_word (decode_of w)

pub a_byte : bytes_of (codes "00") ≡ Ok (0 ∷ [])
unfolding decode_pairs
a_byte = refl
