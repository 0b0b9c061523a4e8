-- Which texts spell an address or a network: V4 in decimal numbers between dots, V6 in hexadecimal groups between colons
-- (RFC 4291 section 2.2), a network in CIDR notation (pf.conf(5), PARAMETERS).
use Rattle.std.specs.{Prelude.{◌≡◌, ℕ, ◌/◌, ◌%◌, ◌<◌, ◌≤◌, nat_le, Bool, ◌&&◌, ◌==◌, ◌⊎◌, List, [], ◌∷◌, ◌++◌, length, take, replicate}, Char.digit_value, List.{AllZip, slice_split}, Int.{from_be_bytes, w32}, Int.Digits.number_from_digits, Str.Parse.{IsNumeral, digits_value}}
use Rattle.pf_form.specs.Form.Numbers as digits
use Rattle.pf_addr.specs.declared.{addr.Addr.Addr, reading.TheConstants.NUMBER_DIGITS, ipv6_text.TheConstants.{GROUP_DIGITS, GROUPS}}
use Rattle.pf_addr.specs.declared.addr.Addr.TheVariants as addr
use Rattle.pf_addr.specs.Address.{PlainNet, width, family_of, network_from, network_of}

-- the pieces of a text between such bytes; the empty text has no pieces
abbrev pub pieces : ℕ → List ℕ → List (List ℕ)
pieces c [] = []
pieces c (b ∷ bs) = slice_split (λ x. x == c) (b ∷ bs)

-- a byte that isn't a digit in the radix
abbrev pub is_other : ℕ → ℕ → Bool
is_other radix b = nat_le radix (digit_value b)

-- digits that a part of a V4 address may have, and those that a group of a V6 address may have
abbrev pub is_small : List ℕ → Bool
is_small digits = nat_le (length digits) NUMBER_DIGITS && nat_le (digits_value 10 digits) 255

abbrev pub is_short : List ℕ → Bool
is_short digits = nat_le (length digits) GROUP_DIGITS

-- ---- V4

-- a number of at most `most` in one to three decimal digits; leading zeros are allowed
pub record IsNumber (most : ℕ) (text : List ℕ) (n : ℕ) : Type 0 where
  pub number : digits.IsNumber NUMBER_DIGITS text n
  pub small : n ≤ most

-- The text's parts, between its dots (46), are these numbers of a byte.
abbrev pub Dotted : List ℕ → List ℕ → Type 0
Dotted numbers text = AllZip (IsNumber 255) (pieces 46 text) numbers

-- the four bytes of an address of which these are written; missing ones are zero
abbrev pub four_bytes : List ℕ → List ℕ
four_bytes parts = take 4 (parts ++ replicate 4 0)

abbrev pub v4_number : List ℕ → ℕ
v4_number parts = from_be_bytes w32 (four_bytes parts)

-- at least `fewest` parts and at most four, the address's bytes from the first on
pub record SpellsV4 (fewest : ℕ) (text : List ℕ) (n : ℕ) : Type 0 where
  pub parts : List ℕ
  pub dotted : Dotted parts text
  pub enough : fewest ≤ length parts
  pub few : length parts ≤ 4
  pub value : n ≡ v4_number parts

-- ---- V6

-- a group of 16 bits: one to four hexadecimal digits, in either case
pub record IsGroup (text : List ℕ) (n : ℕ) : Type 0 where
  pub digits : IsNumeral 16 text
  pub few : length text ≤ GROUP_DIGITS
  pub value : digits_value 16 text ≡ n

-- The text's pieces, between its colons (58), are these groups.
abbrev pub Grouped : List ℕ → List ℕ → Type 0
Grouped groups text = AllZip IsGroup (pieces 58 text) groups

-- a V4 address takes the place of two groups
abbrev pub two_groups : ℕ → List ℕ
two_groups n = n / 65536 ∷ n % 65536 ∷ []

-- The text's pieces are groups, except the last, which is a V4 address.
pub record EndsInV4 (groups text : List ℕ) : Type 0 where
  pub front : List (List ℕ)
  pub last : List ℕ
  pub before : List ℕ
  pub number : ℕ
  pub cut : pieces 58 text ≡ front ++ last ∷ []
  pub grouped : AllZip IsGroup front before
  pub v4 : SpellsV4 4 last number
  pub value : groups ≡ before ++ two_groups number

-- the groups of a text that ends an address
abbrev pub EndGrouped : List ℕ → List ℕ → Type 0
EndGrouped groups text = Grouped groups text ⊎ EndsInV4 groups text

-- groups, `::` in place of one or more zero groups, and groups again
pub record Shortened (groups text : List ℕ) : Type 0 where
  pub front : List ℕ
  pub back : List ℕ
  pub before : List ℕ
  pub following : List ℕ
  pub zeros : ℕ
  pub cut : text ≡ front ++ 58 ∷ 58 ∷ back
  pub grouped : Grouped before front
  pub ended : EndGrouped following back
  pub some : 0 < zeros
  pub value : groups ≡ before ++ replicate zeros 0 ++ following

-- the number that groups write, the first the highest
abbrev pub v6_number : List ℕ → ℕ
v6_number groups = number_from_digits 65536 groups

-- eight groups, some of which `::` may replace
pub record SpellsV6 (text : List ℕ) (n : ℕ) : Type 0 where
  pub groups : List ℕ
  pub spelled : EndGrouped groups text ⊎ Shortened groups text
  pub eight : length groups ≡ GROUPS
  pub value : n ≡ v6_number groups

-- ---- addresses and networks

-- a V6 address, or a V4 address of at least `fewest` parts
abbrev pub Spells : ℕ → List ℕ → Addr → Type 0
Spells fewest text (addr.V4 n) = SpellsV4 fewest text n
Spells fewest text (addr.V6 n) = SpellsV6 text n

-- an address; V4 has all four parts
unfoldable pub SpellsAddr : List ℕ → Addr → Type 0
SpellsAddr text a = Spells 4 text a

-- an address whose last parts may be missing, a slash (47), and how many bits are the front
pub record SpellsFront (text : List ℕ) (net : PlainNet) : Type 0 where
  pub front : List ℕ
  pub digits : List ℕ
  pub first : Addr
  pub len : ℕ
  pub address : Spells 1 front first
  pub number : IsNumber (width (family_of first)) digits len
  pub cut : text ≡ front ++ 47 ∷ digits
  pub value : net ≡ network_from first len

-- A network is an address alone, or an address and a length.
unfoldable pub SpellsNet : List ℕ → PlainNet → Type 0
SpellsNet text net = ((a : Addr) × SpellsAddr text a × (net ≡ network_of a)) ⊎ SpellsFront text net
