-- What is written is a text of the grammar, and what the values and the texts of the grammar look like.
use Rattle.std.proofs.{Common.{◌≡◌, ℕ, ◌+◌, ◌-◌, ◌*◌, ◌/◌, ◌%◌, ◌^◌, ◌<◌, ◌≤◌, ◌==◌, true, List, [], ◌∷◌, ◌++◌, length, replicate, decimal, map, refl, sym, ap, ◌∙◌, inl, inr, arith, append-nil, length-append, le-leb}, lemmas.Bool.{cases_lt, lt-leb}, lemmas.Bool.Decides.{eqb_tells, nat_tests}, lemmas.List.Elements.{All-nil, All-cons, All-head, All-tail, All-append, All-drop, All-replicate, All-map, All-from_get_or, recursion_from_All}, lemmas.List.Splits.{slice_split_at, slice_split_none}, lemmas.Int.Digits.{number_lt, digits_value-lt}, lemmas.Str.digit_value-digit_char, lemmas.Str.Parse.digit_at, lemmas.Fmt.{decimal_is_IsNumeral, length-decimal-le}, lemmas.Nat.{from_be_bytes-to_be_bytes_4, shl_below, shl-shr, shr-shr, shr_split, shr_below, mod_below}, Math.Nat.pow-le-pow_right}
use Rattle.std.specs.{Prelude.◌⊎◌, Char.digit_char, Int.{to_be_bytes, from_be_bytes, w32}, List.{All, AllZip, slice_split, join_with_byte, slice_index_or}, Net.Text.{hex, leading_zero_digits}, Str.Parse.{AllDigits, IsNumeral, digits_value}}
use Rattle.pf_addr.specs.declared.{addr.Addr.Addr, addr.Family.Family, addr.Family.TheVariants.{V4, V6}}
use Rattle.pf_addr.specs.declared.addr.Addr.TheVariants as addr
use Rattle.pf_addr.specs.{Address.{PlainNet, width, family_of, number_in, network_from, IsAddr}, Laws.Bits.{front_below, number_below}, Laws.Digits.none_in_digits, Grammar.{pieces, IsNumber, Dotted, four_bytes, SpellsV4, IsGroup, Grouped, two_groups, EndGrouped, Shortened, v6_number, SpellsV6, Spells, SpellsAddr, SpellsNet}, Laws.Pieces.{zip_all, zip_numbers}, Laws.Places.without, Reading.{addr_at, net_at}, Laws.Reading.{joined_bytes, dotted_bytes, addr_only, net_only}, Spelling.{group_text, addr_text, addr_in, first_addr, length_text, net_text}}
pub use Rattle.pf_addr.specs.Address.{IsNetwork}

-- ---- pieces that are joined

split_joined : (c : ℕ) (ps : List (List ℕ)) → 0 < length ps → All (without c) ps → slice_split (λ b. b == c) (join_with_byte c ps) ≡ ps
split_joined c [] some all = absurd (omega arith)
split_joined c (p ∷ []) some all = slice_split_none (λ b. b == c) p (All-head (without c) p [] all)
split_joined c (p ∷ q ∷ ps) some all =
    let same : (c == c) ≡ true = grind (arith, nat_tests) in
    slice_split_at (λ b. b == c) p c (join_with_byte c (q ∷ ps)) (All-head (without c) p (q ∷ ps) all) same
    ∙ ap (λ (l : List (List ℕ)). p ∷ l) (split_joined c (q ∷ ps) (omega arith) (All-tail (without c) p (q ∷ ps) all))

some_pieces : (c : ℕ) (text : List ℕ) → 0 < length text → pieces c text ≡ slice_split (λ b. b == c) text
some_pieces c [] lt = absurd (omega arith)
some_pieces c (b ∷ bs) lt = refl

pieces_joined : (c : ℕ) (ps : List (List ℕ)) → 0 < length ps → 0 < length (join_with_byte c ps) → All (without c) ps → pieces c (join_with_byte c ps) ≡ ps
pieces_joined c ps some long all = some_pieces c (join_with_byte c ps) long ∙ split_joined c ps some all

-- ---- V4

pub IsNumber-decimal : (most n : ℕ) → n ≤ most → most < 1000 → IsNumber most (decimal n) n
IsNumber-decimal most n le lt =
    let is = decimal_is_IsNumeral n (omega arith) in
    record { number = record { digits = is.0; few = length-decimal-le 3 n (omega arith) (omega arith) (omega arith); value = is.1 }; small = le }

v4_length : (n : ℕ) → (0 < length (addr_text (addr.V4 n))) × (length (addr_text (addr.V4 n)) ≤ 15)
v4_length n =
    let few : (m : ℕ) → length (decimal (m % 256)) ≤ 3 = λ m. length-decimal-le 3 (m % 256) (omega arith) (omega arith) (omega arith) in
    (omega (arith, length-append {A = ℕ}), omega (arith, length-append {A = ℕ}, few (n / 16777216), few (n / 65536), few (n / 256), few n))

dotted-addr_text : (n : ℕ) → Dotted (to_be_bytes w32 n) (addr_text (addr.V4 n))
dotted-addr_text n =
    let number : (m : ℕ) → IsNumber 255 (decimal (m % 256)) (m % 256) = λ m. IsNumber-decimal 255 (m % 256) (omega arith) (omega arith) in
    let parts : List (List ℕ) = map decimal (to_be_bytes w32 n) in
    let all : AllZip (IsNumber 255) parts (to_be_bytes w32 n) = (number (n / 16777216), (number (n / 65536), (number (n / 256), (number n, tt)))) in
    let clean = zip_all (IsNumber 255) (without 46) parts (to_be_bytes w32 n) (λ p m is. none_in_digits 10 46 p (omega arith) is.number.digits.1) all in
    rw (pieces_joined 46 parts (omega arith) (v4_length n).0 clean) all

v4_spelled : (n : ℕ) → n < 2 ^ 32 → SpellsV4 4 (addr_text (addr.V4 n)) n
v4_spelled n lt = record { parts = to_be_bytes w32 n; dotted = dotted-addr_text n; enough = omega arith; few = omega arith; value = sym (from_be_bytes-to_be_bytes_4 n lt) }

four_below : (ns : List ℕ) → All (λ n. n ≤ 255) ns → from_be_bytes w32 (four_bytes ns) < 2 ^ 32
four_below [] low = omega arith
four_below (a ∷ []) low = omega (arith, low 0 0)
four_below (a ∷ b ∷ []) low = omega (arith, low 0 0, low 1 0)
four_below (a ∷ b ∷ c ∷ []) low = omega (arith, low 0 0, low 1 0, low 2 0)
four_below (a ∷ b ∷ c ∷ d ∷ ns) low = omega (arith, low 0 0, low 1 0, low 2 0, low 3 0)

v4_below : (fewest : ℕ) (text : List ℕ) (n : ℕ) → SpellsV4 fewest text n → n < 2 ^ 32
v4_below fewest text n is = rw is.value (four_below is.parts (zip_numbers (IsNumber 255) (λ m. m ≤ 255) (pieces 46 text) is.parts (λ p m h. h.small) is.dotted))

-- ---- V6

-- the groups of a number of 128 bits
abbrev groups_in : ℕ → List ℕ
groups_in n = map (λ k. n / 2 ^ k % 2 ^ 16) (112 ∷ 96 ∷ 80 ∷ 64 ∷ 48 ∷ 32 ∷ 16 ∷ 0 ∷ [])

low_group : (n k : ℕ) → n / 2 ^ k % 2 ^ 16 < 2 ^ 16
low_group n k = mod_below (n / 2 ^ k) (2 ^ 16) (omega arith)

-- The digits are the number's, and those that are left out are 0.
hex_is : (n : ℕ) → n < 2 ^ 16 → IsNumeral 16 (hex n) × (length (hex n) ≤ 4) × (digits_value 16 (hex n) ≡ n)
unfolding hex
hex_is n fits =
    let a = digit_value-digit_char (n / 0x1000) (omega arith) in
    let b = digit_value-digit_char (n / 0x100 % 16) (omega arith) in
    let c = digit_value-digit_char (n / 0x10 % 16) (omega arith) in
    let d = digit_value-digit_char (n % 16) (omega arith) in
    elim (cases_lt n 0x1000) [
      | inr four ↦ rw (le-leb 0x1000 n four) (omega arith)
      | inl h₃ ↦ elim (cases_lt n 0x100) [
        | inr three ↦ rw (lt-leb 0x1000 n h₃, le-leb 0x100 n three) (omega arith)
        | inl h₂ ↦ elim (cases_lt n 0x10) [
          | inr two ↦ rw (lt-leb 0x1000 n h₃, lt-leb 0x100 n h₂, le-leb 0x10 n two) (omega arith)
          | inl h₁ ↦ rw (lt-leb 0x1000 n h₃, lt-leb 0x100 n h₂, lt-leb 0x10 n h₁) (omega arith)
        ]
      ]
    ]

hex_group : (n : ℕ) → n < 2 ^ 16 → IsGroup (hex n) n
hex_group n fits = let is = hex_is n fits in record { digits = is.0; few = is.1; value = is.2 }

v6_length : (n : ℕ) → (0 < length (addr_text (addr.V6 n))) × (length (addr_text (addr.V6 n)) ≤ 39)
v6_length n =
    let few : (k : ℕ) → length (group_text n k) ≤ 4 = λ k. (hex_is (n / 2 ^ k % 2 ^ 16) (low_group n k)).1 in
    (omega (arith, length-append {A = ℕ}), omega (arith, length-append {A = ℕ}, few 112, few 96, few 80, few 64, few 48, few 32, few 16, few 0))

grouped-addr_text : (n : ℕ) → Grouped (groups_in n) (addr_text (addr.V6 n))
grouped-addr_text n =
    let group : (k : ℕ) → IsGroup (group_text n k) (n / 2 ^ k % 2 ^ 16) = λ k. hex_group (n / 2 ^ k % 2 ^ 16) (low_group n k) in
    let texts : List (List ℕ) = map (group_text n) (112 ∷ 96 ∷ 80 ∷ 64 ∷ 48 ∷ 32 ∷ 16 ∷ 0 ∷ []) in
    let all : AllZip IsGroup texts (groups_in n) = (group 112, (group 96, (group 80, (group 64, (group 48, (group 32, (group 16, (group 0, tt)))))))) in
    let clean = zip_all IsGroup (without 58) texts (groups_in n) (λ p m is. none_in_digits 16 58 p (omega arith) is.digits.1) all in
    rw (pieces_joined 58 texts (omega arith) (v6_length n).0 clean) all

-- one group more
longer : (n k : ℕ) → n / 2 ^ (k + 16) * 65536 + n / 2 ^ k % 65536 ≡ n / 2 ^ k
longer n k = rw (← shr-shr n k 16) (shr_split (n / 2 ^ k) 16)

v6_whole : (n : ℕ) → n < 2 ^ 128 → n ≡ v6_number (groups_in n)
v6_whole n lt =
    let top : 0 + n / 2 ^ 112 % 65536 ≡ n / 2 ^ 112 = let low = shr_below n 16 112 lt in omega arith in
    rw (top, longer n 96, longer n 80, longer n 64, longer n 48, longer n 32, longer n 16, longer n 0) (omega arith)

v6_spelled : (n : ℕ) → n < 2 ^ 128 → SpellsV6 (addr_text (addr.V6 n)) n
v6_spelled n lt = record { groups = groups_in n; spelled = inl (inl (grouped-addr_text n)); eight = refl; value = v6_whole n lt }

group_low : (p : List ℕ) (n : ℕ) → IsGroup p n → n < 65536
group_low p n is =
    let base : 0 < 16 = omega arith in
    let le = is.few in
    let most : 16 ^ length p ≤ 16 ^ 4 = pow-le-pow_right base le in
    omega (arith, is.value, digits_value-lt 16 p is.digits.1, most)

abbrev AllLow : List ℕ → Type 0
AllLow groups = All (λ g. g < 65536) groups

grouped_low : (text groups : List ℕ) → Grouped groups text → AllLow groups
grouped_low text groups is = zip_numbers IsGroup (λ g. g < 65536) (pieces 58 text) groups group_low is

ended_low : (text groups : List ℕ) → EndGrouped groups text → AllLow groups
ended_low text groups (inl is) = grouped_low text groups is
ended_low text groups (inr is) =
    let below = v4_below 4 is.last is.number is.v4 in
    let high : is.number / 65536 < 65536 = omega arith in
    let low : is.number % 65536 < 65536 = omega arith in
    let two = All-cons (λ g. g < 65536) (is.number / 65536) (is.number % 65536 ∷ []) high (All-cons (λ g. g < 65536) (is.number % 65536) [] low (All-nil (λ g. g < 65536))) in
    rw is.value (All-append (λ g. g < 65536) is.before (two_groups is.number) (zip_numbers IsGroup (λ g. g < 65536) is.front is.before group_low is.grouped) two)

v6_below : (text : List ℕ) (n : ℕ) → SpellsV6 text n → n < 2 ^ 128
v6_below text n is =
    let few : v6_number is.groups < 65536 ^ length is.groups = number_lt 65536 is.groups (recursion_from_All (λ g. g < 65536) is.groups (by is.spelled)) in
    rw is.value (let size = rw is.eight at few in size) where
      by : EndGrouped is.groups text ⊎ Shortened is.groups text → AllLow is.groups
      by (inl whole) = ended_low text is.groups whole
      by (inr short) =
          let zeros = All-replicate (λ g. g < 65536) short.zeros 0 (omega arith) in
          let front = All-append (λ g. g < 65536) short.before (replicate short.zeros 0) (grouped_low short.front short.before short.grouped) zeros in
          rw short.value (All-append (λ g. g < 65536) (short.before ++ replicate short.zeros 0) short.following front (ended_low short.back short.following short.ended))

-- ---- an address

-- an address is read again from its text
pub addr_text_spells : (a : Addr) → IsAddr a → SpellsAddr (addr_text a) a
unfolding SpellsAddr
addr_text_spells (addr.V4 n) is = v4_spelled n is
addr_text_spells (addr.V6 n) is = v6_spelled n is

-- two addresses with the same text are the same
pub own_addr_text : (a b : Addr) → IsAddr a → IsAddr b → addr_text a ≡ addr_text b → a ≡ b
own_addr_text a b p q e =
    let first = addr_only (addr_text a) a (addr_text_spells a p) in
    let second = addr_only (addr_text b) b (addr_text_spells b q) in
    let same : addr_at (addr_text a) ≡ addr_at (addr_text b) = ap addr_at e in
    cc

below_spelled : (fewest : ℕ) (text : List ℕ) (a : Addr) → Spells fewest text a → IsAddr a
below_spelled fewest text (addr.V4 n) is = v4_below fewest text n is
below_spelled fewest text (addr.V6 n) is = v6_below text n is

-- each address that a text spells fits its family's bits
pub IsAddr-spelled : (text : List ℕ) (a : Addr) → SpellsAddr text a → IsAddr a
unfolding SpellsAddr
IsAddr-spelled text a is = below_spelled 4 text a is

-- ---- a network

first_below : (f : Family) (len front : ℕ) → len ≤ width f → front < 2 ^ len → IsAddr (addr_in f (front * 2 ^ (width f - len)))
first_below V4 len front le lt = let sum : len + (32 - len) ≡ 32 = omega arith in rw sum at (shl_below front len (32 - len) lt)
first_below V6 len front le lt = let sum : len + (128 - len) ≡ 128 = omega arith in rw sum at (shl_below front len (128 - len) lt)

first_is : (net : PlainNet) → IsNetwork net → IsAddr (first_addr net)
first_is net is = first_below net.family net.len net.front is.len is.front

pub family_first : (f : Family) (n : ℕ) → family_of (addr_in f n) ≡ f
family_first V4 n = refl
family_first V6 n = refl

abbrev network : Family → ℕ → ℕ → PlainNet
network f len front = record { family = f; len = len; front = front }

from_first : (f : Family) (len front : ℕ) → network_from (addr_in f (front * 2 ^ (width f - len))) len ≡ network f len front
from_first V4 len front = ap (network V4 len) (shl-shr front (32 - len))
from_first V6 len front = ap (network V6 len) (shl-shr front (128 - len))

fewer : (text : List ℕ) (a : Addr) → Spells 4 text a → Spells 1 text a
fewer text (addr.V4 n) is = record { parts = is.parts; dotted = is.dotted; enough = omega (arith, is.enough); few = is.few; value = is.value }
fewer text (addr.V6 n) is = is

width_small : (f : Family) → width f ≤ 128
width_small V4 = omega arith
width_small V6 = omega arith

-- a network is read again from its text
pub net_text_spells : (net : PlainNet) → IsNetwork net → SpellsNet (net_text net) net
unfolding SpellsNet SpellsAddr
net_text_spells net is =
    let a : Addr = first_addr net in
    let spelled : Spells 4 (addr_text a) a = addr_text_spells a (first_is net is) in
    let family : family_of a ≡ net.family = family_first net.family (net.front * 2 ^ (width net.family - net.len)) in
    let same : net ≡ network_from a net.len = sym (from_first net.family net.len net.front) in
    elim (eqb_tells net.len (width net.family)) [
      | inl full ↦
          let all : net.len ≡ width (family_of a) = full.1 ∙ ap width (sym family) in
          rw (full.0, append-nil (addr_text a)) (inl (a, spelled, same ∙ ap (network_from a) all))
      | inr short ↦
          let number = IsNumber-decimal (width (family_of a)) net.len (rw family is.len) (omega (arith, width_small (family_of a))) in
          rw short.0 (inr (record { front = addr_text a; digits = decimal net.len; first = a; len = net.len; address = fewer (addr_text a) a spelled; number = number; cut = refl; value = same }))
    ]

-- two networks with the same text are the same
pub own_net_text : (a b : PlainNet) → IsNetwork a → IsNetwork b → net_text a ≡ net_text b → a ≡ b
own_net_text a b p q e =
    let first = net_only (net_text a) a (net_text_spells a p) in
    let second = net_only (net_text b) b (net_text_spells b q) in
    let same : net_at (net_text a) ≡ net_at (net_text b) = ap net_at e in
    cc

from_addr : (a : Addr) (len : ℕ) → IsAddr a → len ≤ width (family_of a) → IsNetwork (network_from a len)
from_addr a len is le = record { len = le; front = front_below (width (family_of a)) len (number_in a) le (number_below a is) }

-- what a text spells is a network
pub IsNetwork-spelled : (text : List ℕ) (net : PlainNet) → SpellsNet text net → IsNetwork net
unfolding SpellsNet
IsNetwork-spelled text net (inl (a, is, e)) = rw e (from_addr a (width (family_of a)) (IsAddr-spelled text a is) (omega arith))
IsNetwork-spelled text net (inr is) = rw is.value (from_addr is.first is.len (below_spelled 1 is.front is.first is.address) is.number.small)

-- ---- the bytes of a network's text

-- a digit, a dot, a slash or a colon, or a letter from a to f
abbrev pub IsNetByte : ℕ → Type 0
IsNetByte b = ((46 ≤ b) × (b ≤ 58)) ⊎ ((97 ≤ b) × (b ≤ 102))

-- at least one such byte and at most so many: so it is one word
pub record IsNetWord (most : ℕ) (text : List ℕ) : Type 0 where
  pub some : 0 < length text
  pub few : length text ≤ most
  pub bytes : All IsNetByte text

digits_bytes : (text : List ℕ) → AllDigits 10 text → All IsNetByte text
digits_bytes text ds = All-from_get_or IsNetByte text 0 (λ i lt. let d = digit_at text i ds lt in inl (omega arith, omega arith))

digit_byte : (d : ℕ) → d < 16 → IsNetByte (digit_char d)
digit_byte d lt = elim (cases_lt d 10) [ inl small ↦ inl (grind (arith, nat_tests)) | inr letter ↦ inr (grind (arith, nat_tests)) ]

hex_bytes : (n : ℕ) → n < 2 ^ 16 → All IsNetByte (hex n)
unfolding hex
hex_bytes n lt =
    let a = digit_byte (n / 0x1000) (omega arith) in
    let b = digit_byte (n / 0x100 % 16) (omega arith) in
    let c = digit_byte (n / 0x10 % 16) (omega arith) in
    let d = digit_byte (n % 16) (omega arith) in
    let all =
    All-cons IsNetByte (digit_char (n / 0x1000)) (digit_char (n / 0x100 % 16) ∷ digit_char (n / 0x10 % 16) ∷ digit_char (n % 16) ∷ []) a
    (All-cons IsNetByte (digit_char (n / 0x100 % 16)) (digit_char (n / 0x10 % 16) ∷ digit_char (n % 16) ∷ []) b
    (All-cons IsNetByte (digit_char (n / 0x10 % 16)) (digit_char (n % 16) ∷ []) c (All-cons IsNetByte (digit_char (n % 16)) [] d (All-nil IsNetByte)))) in
    All-drop IsNetByte (leading_zero_digits n) (digit_char (n / 0x1000) ∷ digit_char (n / 0x100 % 16) ∷ digit_char (n / 0x10 % 16) ∷ digit_char (n % 16) ∷ []) all

addr_bytes : (a : Addr) → All IsNetByte (addr_text a)
addr_bytes (addr.V4 n) = dotted_bytes IsNetByte (to_be_bytes w32 n) (addr_text (addr.V4 n)) (inl (omega arith, omega arith)) digits_bytes (dotted-addr_text n)
addr_bytes (addr.V6 n) =
    let ends : List ℕ = 112 ∷ 96 ∷ 80 ∷ 64 ∷ 48 ∷ 32 ∷ 16 ∷ 0 ∷ [] in
    joined_bytes IsNetByte 58 (map (group_text n) ends) (inl (omega arith, omega arith)) (All-map (All IsNetByte) (group_text n) ends (λ k d lt. hex_bytes (n / 2 ^ slice_index_or ends k d % 2 ^ 16) (low_group n (slice_index_or ends k d))))

length_bytes : (net : PlainNet) → IsNetwork net → All IsNetByte (length_text net) × (length (length_text net) ≤ 4)
length_bytes net is = elim (eqb_tells net.len (width net.family)) [
  | inl full ↦ rw full.0 (All-nil IsNetByte, omega arith)
  | inr short ↦
      let le : net.len ≤ 128 = omega (arith, is.len, width_small net.family) in
      let digits = (decimal_is_IsNumeral net.len (omega arith)).0 in
      let few = length-decimal-le 3 net.len (omega arith) (omega arith) (omega arith) in
      rw short.0 (All-cons IsNetByte 47 (decimal net.len) (inl (omega arith, omega arith)) (digits_bytes (decimal net.len) digits.1), omega arith)
]

addr_length : (a : Addr) → (0 < length (addr_text a)) × (length (addr_text a) ≤ 39)
addr_length (addr.V4 n) = let l = v4_length n in (l.0, omega (arith, l.1))
addr_length (addr.V6 n) = v6_length n

-- a network's text is one word of at most 43 digits, letters, dots, colons and slashes
pub net_text_is_word : (net : PlainNet) → IsNetwork net → IsNetWord 43 (net_text net)
net_text_is_word net is =
    let a : Addr = first_addr net in
    let size = length-append (addr_text a) (length_text net) in
    let address = addr_length a in
    let following = length_bytes net is in
    record { some = omega (arith, size, address.0); few = omega (arith, size, address.1, following.1); bytes = All-append IsNetByte (addr_text a) (length_text net) (addr_bytes a) following.0 }
