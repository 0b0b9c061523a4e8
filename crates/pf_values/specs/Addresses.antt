-- Addresses and networks, as pf_addr has them, but that their decimal numbers have no zeros in front.
use Rattle.std.specs.{Prelude.{ℕ, ◌==◌, ◌&&◌, ◌||◌, not, Bool, true, false, [], ◌∷◌, Result, Ok, Err, if◌then◌else◌}, List.list_any}
use Rattle.pf_form.specs.Form.Numbers.{is_digit}
use Rattle.pf_addr.specs.{Address.PlainNet, Reading.net_at}
use Rattle.pf_addr.specs.declared.fault.AddrFault.{AddrFault}
use Rattle.pf_values.specs.declared.{numbers.Mistake.Mistake, numbers.Mistake.TheVariants.{Address, Zeros}}
use Rattle.pf_values.specs.Numbers.{Word}

-- what stands behind the last such byte, or this if there is none
abbrev pub rest_after_last : ℕ → Word → Word → Word
rest_after_last byte otherwise [] = otherwise
rest_after_last byte otherwise (b ∷ bs) = rest_after_last byte (if b == byte then bs else otherwise) bs

abbrev pub has : ℕ → Word → Bool
has byte text = list_any (λ b. b == byte) text

-- What is written in decimal numbers: of a V6 address a V4 one at its end, and the length.
abbrev pub decimal_part : Word → Word
decimal_part text =
    let last : Word = rest_after_last 58 text text in
    if has 58 text && not (has 46 last) then (if has 47 last then rest_after_last 47 last last else []) else last

abbrev pub begins_number : Word → Bool
begins_number [] = false
begins_number (b ∷ bs) = is_digit b

-- whether a zero that begins a number has a digit behind it; `begins` if no digit stands before the text
abbrev pub zeros_within : Bool → Word → Bool
zeros_within begins [] = false
zeros_within begins (b ∷ bs) = (begins && ((b == 48) && begins_number bs)) || zeros_within (not (is_digit b)) bs

abbrev pub without_zeros : Word → Result PlainNet AddrFault → Result PlainNet Mistake
without_zeros text (Err e) = Err Address
without_zeros text (Ok n) = if zeros_within true (decimal_part text) then Err Zeros else Ok n

abbrev pub net_of : Word → Result PlainNet Mistake
net_of text = without_zeros text (net_at text)
