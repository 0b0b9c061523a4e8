-- How a text is read from left to right: the value that it spells (`Grammar`), or else its fault (`FaultCases`). Functions compute this;
-- laws say that it gives exactly the spelled value and the fault by cases.
use Rattle.std.specs.{Prelude.{ℕ, ◌+◌, ◌-◌, ◌==◌, nat_le, Bool, true, false, ◌&&◌, List, [], ◌∷◌, ◌++◌, length, take, drop, replicate, Option, Some, None, is_some, Result, Ok, Err, if◌then◌else◌}, List.position, Option.ok_or, Str.Parse.digits_value}
use Rattle.pf_addr.specs.{Address.{PlainNet, width, family_of, network_from, network_of}, Grammar.{is_other, is_short, pieces, v4_number, v6_number, two_groups}}
use Rattle.pf_form.specs.Form.{Forms.◌>>=◌, Numbers.number_of}
use Rattle.pf_addr.specs.declared.{addr.Addr.Addr, fault.AddrFault.AddrFault, fault.AddrFault.TheVariants.{Empty, BadDigit, TooBig, BadLength, BadGroups}, reading.TheConstants.NUMBER_DIGITS, ipv6_text.TheConstants.GROUPS}
use Rattle.pf_addr.specs.declared.addr.Addr.TheVariants as addr

-- the number, if it is at most `most`
abbrev pub kept_to : ℕ → Option ℕ → Option ℕ
kept_to most (Some n) = if nat_le n most then Some n else None
kept_to most None = None

abbrev pub small_number : ℕ → List ℕ → Option ℕ
small_number most text = kept_to most (number_of NUMBER_DIGITS text)

-- ---- one piece, which begins at `at`

-- given the place in it of the first byte that isn't a digit
abbrev pub fault_by : ℕ → List ℕ → Option ℕ → AddrFault
fault_by at text (Some i) = BadDigit (at + i)
fault_by at text None = if length text == 0 then BadDigit at else TooBig at

abbrev pub part_fault : ℕ → List ℕ → AddrFault
part_fault at text = fault_by at text (position (is_other 10) text)

unfoldable pub part_at : ℕ → List ℕ → Result ℕ AddrFault
part_at at text = ok_or (small_number 255 text) (part_fault at text)

abbrev pub piece_by : ℕ → (List ℕ → Bool) → ℕ → List ℕ → Option ℕ → Result ℕ AddrFault
piece_by radix fits at text (Some i) = Err (BadDigit (at + i))
piece_by radix fits at text None =
    if length text == 0 then Err (BadDigit at) else (if fits text then Ok (digits_value radix text) else Err (TooBig at))

unfoldable pub group_at : ℕ → List ℕ → Result ℕ AddrFault
group_at at text = piece_by 16 is_short at text (position (is_other 16) text)

-- ---- pieces in a row, with one byte between two; the first begins at `at`

-- How a piece is read: as one number; the last one as some numbers.
abbrev pub One : Type 0
One = ℕ → List ℕ → Result ℕ AddrFault

abbrev pub Last : Type 0
Last = ℕ → List ℕ → Result (List ℕ) AddrFault

abbrev pub single : One → Last
single one at p = one at p >>= λ n. Ok (n ∷ [])

unfoldable pub pieces_at : One → Last → ℕ → List (List ℕ) → Result (List ℕ) AddrFault
pieces_at one last at [] = Ok []
pieces_at one last at (p ∷ []) = last at p
pieces_at one last at (p ∷ q ∷ ps) = one at p >>= λ n. pieces_at one last (at + length p + 1) (q ∷ ps) >>= λ ns. Ok (n ∷ ns)

-- ---- V4

abbrev pub parts_at : ℕ → List ℕ → Result (List ℕ) AddrFault
parts_at at text = pieces_at part_at (single part_at) at (pieces 46 text)

abbrev pub v4_of : ℕ → ℕ → List ℕ → Result ℕ AddrFault
v4_of fewest at parts = if nat_le fewest (length parts) && nat_le (length parts) 4 then Ok (v4_number parts) else Err (BadGroups at)

-- at least `fewest` parts
unfoldable pub v4_at : ℕ → ℕ → List ℕ → Result ℕ AddrFault
v4_at fewest at text = parts_at at text >>= v4_of fewest at

-- ---- V6

abbrev pub has : ℕ → List ℕ → Bool
has c text = is_some (position (λ b. b == c) text)

-- The very last piece may be a V4 address.
unfoldable pub end_at : Bool → ℕ → List ℕ → Result (List ℕ) AddrFault
end_at ends at text = if ends && has 46 text then (v4_at 4 at text >>= λ n. Ok (two_groups n)) else single group_at at text

-- the groups of a text, and whether the address ends with it
abbrev pub groups_at : Bool → ℕ → List ℕ → Result (List ℕ) AddrFault
groups_at ends at text = pieces_at group_at (end_at ends) at (pieces 58 text)

abbrev pub v6_of : List ℕ → Result ℕ AddrFault
v6_of groups = if length groups == GROUPS then Ok (v6_number groups) else Err (BadGroups 0)

-- with zeros in between
abbrev pub v6_around : List ℕ → List ℕ → Result ℕ AddrFault
v6_around front back =
    let count : ℕ = length front + length back in
    if nat_le count (GROUPS - 1) then Ok (v6_number (front ++ replicate (GROUPS - count) 0 ++ back)) else Err (BadGroups 0)

abbrev pub later : ℕ → Option ℕ → Option ℕ
later n (Some i) = Some (n + i)
later n None = None

abbrev pub begins_with_byte : ℕ → List ℕ → Bool
begins_with_byte c [] = false
begins_with_byte c (b ∷ bs) = b == c

-- the place of the first `::`
unfoldable pub gap : List ℕ → Option ℕ
gap [] = None
gap (b ∷ bs) = if (b == 58) && begins_with_byte 58 bs then Some 0 else later 1 (gap bs)

-- given the place of its first `::`
abbrev pub v6_by : List ℕ → Option ℕ → Result ℕ AddrFault
v6_by text None = groups_at true 0 text >>= v6_of
v6_by text (Some i) = groups_at false 0 (take i text) >>= λ front. groups_at true (i + 2) (drop (i + 2) text) >>= v6_around front

unfoldable pub v6_at : List ℕ → Result ℕ AddrFault
v6_at text = v6_by text (gap text)

-- ---- an address

-- A text with a colon is V6, any other is V4 with at least `fewest` parts.
abbrev pub family_at : ℕ → List ℕ → Bool → Result Addr AddrFault
family_at fewest text true = v6_at text >>= λ n. Ok (addr.V6 n)
family_at fewest text false = v4_at fewest 0 text >>= λ n. Ok (addr.V4 n)

unfoldable pub address_at : ℕ → List ℕ → Result Addr AddrFault
address_at fewest text = if length text == 0 then Err (Empty 0) else family_at fewest text (has 58 text)

abbrev pub addr_at : List ℕ → Result Addr AddrFault
addr_at text = address_at 4 text

-- ---- a network

abbrev pub is_slash : ℕ → Bool
is_slash b = b == 47

-- Whatever is wrong with a length, there is one fault for it.
abbrev pub length_at : ℕ → ℕ → List ℕ → Result ℕ AddrFault
length_at most at text = ok_or (small_number most text) (BadLength at)

-- given this address, and a length that begins at `at`
abbrev pub front_at : ℕ → List ℕ → Addr → Result PlainNet AddrFault
front_at at digits a = length_at (width (family_of a)) at digits >>= λ len. Ok (network_from a len)

-- given the place of its first slash
abbrev pub cut_at : List ℕ → Option ℕ → Result PlainNet AddrFault
cut_at text None = addr_at text >>= λ a. Ok (network_of a)
cut_at text (Some i) = address_at 1 (take i text) >>= front_at (i + 1) (drop (i + 1) text)

abbrev pub net_at : List ℕ → Result PlainNet AddrFault
net_at text = cut_at text (position is_slash text)
