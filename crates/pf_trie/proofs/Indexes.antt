-- Rows with an index: what is below and above the digit of an address.
use Rattle.std.proofs.{Common.{◌≡◌, ◌≢◌, ℕ, ◌+◌, ◌-◌, ◌/◌, ◌^◌, ◌<◌, ◌≤◌, ◌==◌, min, Bool, true, false, nat_lt, List, length, get_or, set, refl, sym, ap, ◌∙◌, subst, arith}, lemmas.{Bool.Decides.nat_tests, Nat.shr-shr, List.{get_or_default, length-set, get_or-set_same, get_or-set_other}}, Math.Pow.shr_mono}
use Rattle.std.specs.List.{AllWithin}
use Rattle.pf_trie.specs.declared.{rows.Row.{Row}}
use Rattle.pf_trie.specs.{Prefixes.IsApart, Rows.{IsInOrder, IsBetween}, Indexes.{digit_at, AreByDigit, IsUpToDigit, IsEntry, IsIndex, BeginAlike}}
use Rattle.pf_trie.proofs.{Cuts.share_fewer, RowLists.no_later}

-- ---- how the index is made

-- one row more whose digit is lower
pub one_lower : (shift digit place found : ℕ) (rows : List Row) (e : Row) → place < length rows → found ≡ digit_at shift (get_or rows place e).first → found < digit
    → AllWithin (λ r. digit_at shift r.first < digit) rows 0 place → AllWithin (λ r. digit_at shift r.first < digit) rows 0 (place + 1)
one_lower shift digit place found rows e lt is less before = λ k d low high. by k d high (k == place) refl where
  by : (k : ℕ) (d : Row) → k < place + 1 → (t : Bool) → (k == place) ≡ t → digit_at shift (get_or rows k d).first < digit
  by k d high true t =
      let same : place ≡ k = let e : k ≡ place = grind (arith, nat_tests) in sym e in
      let own : digit_at shift (get_or rows place d).first < digit =
      subst (λ (x : Row). digit_at shift x.first < digit) (get_or_default rows place e d lt) (subst (λ (n : ℕ). n < digit) is less) in
      subst (λ (j : ℕ). digit_at shift (get_or rows j d).first < digit) same own
  by k d high false t = let apart : k ≢ place = λ e. grind (arith, nat_tests) in before k d (omega arith) (omega (arith, high, apart))

-- the first whose digit isn't lower
pub first_not_lower : (shift digit place found : ℕ) (rows : List Row) (e : Row) → place < length rows → found ≡ digit_at shift (get_or rows place e).first
    → digit ≤ found → AllWithin (λ r. digit_at shift r.first < digit) rows 0 place → IsUpToDigit shift digit rows place
first_not_lower shift digit place found rows e lt is le before = record {
  within = omega (arith, lt);
  lower = before;
  next = λ d _. subst (λ (x : Row). digit ≤ digit_at shift x.first) (get_or_default rows place e d lt) (subst (λ (n : ℕ). digit ≤ n) is le);
}

pub all_lower : (shift digit n : ℕ) (rows : List Row) → n ≡ length rows → AllWithin (λ r. digit_at shift r.first < digit) rows 0 n → IsUpToDigit shift digit rows n
all_lower shift digit n rows whole before = record { within = omega (arith, whole); lower = before; next = λ d lt. absurd (omega (arith, lt, whole)) }

-- where a row's digit is lower, those of the rows before it are too
pub lower_before : (shift digit place found : ℕ) (rows : List Row) (e : Row) → AreByDigit shift rows → place < length rows
    → found ≡ digit_at shift (get_or rows place e).first → found < digit → AllWithin (λ r. digit_at shift r.first < digit) rows 0 (place + 1)
lower_before shift digit place found rows e sorted lt is less = one_lower shift digit place found rows e lt is less (λ k d low high.
    let up = sorted k place d high lt in
    let own : digit_at shift (get_or rows place d).first ≡ found =
    ap (λ (x : Row). digit_at shift x.first) (get_or_default rows place d e lt) ∙ sym is in
    omega (arith, up, own, less))

-- the entries before a digit
pub record IndexedUpTo (shift : ℕ) (before : List ℕ) (rows : List Row) (place digit : ℕ) : Type 0 where
  pub count : length before ≡ 32
  pub within : place ≤ length rows
  pub each : (d : ℕ) → d < digit → IsEntry shift d rows (get_or before d 0)

pub one_entry : (shift : ℕ) (before : List ℕ) (rows : List Row) (place digit n : ℕ) → IndexedUpTo shift before rows place digit → digit < 32
    → n ≤ length rows → (AreByDigit shift rows → IsUpToDigit shift digit rows n) → IndexedUpTo shift (set before digit (min n 255)) rows n (digit + 1)
one_entry shift before rows place digit n is lt within up = record {
  count = length-set before digit (min n 255) ∙ is.count;
  within = within;
  each = λ d near. by d near (d == digit) refl;
} where
  by : (d : ℕ) → d < digit + 1 → (t : Bool) → (d == digit) ≡ t → IsEntry shift d rows (get_or (set before digit (min n 255)) d 0)
  by d near true t =
      let same : digit ≡ d = let e : d ≡ digit = grind (arith, nat_tests) in sym e in
      let long : digit < length before = let c = is.count in omega (arith, c, lt) in
      subst (λ (j : ℕ). IsEntry shift j rows (get_or (set before digit (min n 255)) j 0)) same
      (record { count = n; within = within; up_to = up; byte = get_or-set_same before digit (min n 255) 0 long })
  by d near false t =
      let apart : d ≢ digit = λ e. grind (arith, nat_tests) in
      subst (λ (m : ℕ). IsEntry shift d rows m) (sym (get_or-set_other before digit d (min n 255) 0 apart)) (is.each d (omega (arith, near, apart)))

pub all_entries : (shift : ℕ) (before : List ℕ) (rows : List Row) (place digit : ℕ) → IndexedUpTo shift before rows place digit → 32 ≤ digit
    → IsIndex shift before rows
all_entries shift before rows place digit is le = record { entries = is.count; each = λ d lt. is.each d (omega (arith, lt, le)) }

-- ---- how rows begin

pub no_rows_alike : (shift front : ℕ) (rows : List Row) → length rows ≡ 0 → BeginAlike shift front rows
no_rows_alike shift front rows none = record { alike = λ o k d lt. absurd (omega (arith, lt, none)) }

-- what the first and the last one share all do
pub rows_alike : (shift n first last : ℕ) (rows : List Row) (e x : Row) → 0 < length rows → first ≡ (get_or rows 0 e).first
    → last ≡ (get_or rows (length rows - 1) x).first → IsApart first last n → n ≤ shift + 5 → BeginAlike shift (first / 2 ^ shift / 32) rows
rows_alike shift n first last rows e x some is_first is_last apart reach = record {
  alike = λ o k d lt.
      let low = no_later rows 0 k d o (omega arith) lt in
      let high = no_later rows k (length rows - 1) d o (omega (arith, lt)) (omega (arith, some)) in
      let own_first : (get_or rows 0 d).first ≡ first = ap (λ (r : Row). r.first) (get_or_default rows 0 d e some) ∙ sym is_first in
      let own_last : (get_or rows (length rows - 1) d).first ≡ last =
      ap (λ (r : Row). r.first) (get_or_default rows (length rows - 1) d x (omega (arith, some))) ∙ sym is_last in
      let up : first ≤ (get_or rows k d).first = omega (arith, low, own_first) in
      let down : (get_or rows k d).first ≤ last = omega (arith, high, own_last) in
      shr-shr (get_or rows k d).first shift 5 ∙ same (get_or rows k d).first up down ∙ sym (shr-shr first shift 5);
}
  where
    same : (m : ℕ) → first ≤ m → m ≤ last → m / 2 ^ (shift + 5) ≡ first / 2 ^ (shift + 5)
    same m up down =
        let ends = share_fewer n (shift + 5) first last reach apart.same in
        let low : first / 2 ^ (shift + 5) ≤ m / 2 ^ (shift + 5) = shr_mono (shift + 5) up in
        let high : m / 2 ^ (shift + 5) ≤ last / 2 ^ (shift + 5) = shr_mono (shift + 5) down in
        omega (arith, ends, low, high)

-- bits that the first and the last one have all do
pub ends_alike : (shift front first last : ℕ) (rows : List Row) (e x : Row) → 0 < length rows → first ≡ (get_or rows 0 e).first
    → last ≡ (get_or rows (length rows - 1) x).first → first / 2 ^ shift / 32 ≡ front → last / 2 ^ shift / 32 ≡ front → BeginAlike shift front rows
ends_alike shift front first last rows e x some is_first is_last low_is high_is = record {
  alike = λ o k d lt.
      let low = no_later rows 0 k d o (omega arith) lt in
      let high = no_later rows k (length rows - 1) d o (omega (arith, lt)) (omega (arith, some)) in
      let own_first : (get_or rows 0 d).first ≡ first = ap (λ (r : Row). r.first) (get_or_default rows 0 d e some) ∙ sym is_first in
      let own_last : (get_or rows (length rows - 1) d).first ≡ last =
      ap (λ (r : Row). r.first) (get_or_default rows (length rows - 1) d x (omega (arith, some))) ∙ sym is_last in
      let up : first ≤ (get_or rows k d).first = omega (arith, low, own_first) in
      let down : (get_or rows k d).first ≤ last = omega (arith, high, own_last) in
      same (get_or rows k d).first (shr_mono shift up) (shr_mono shift down);
}
  where
    same : (m : ℕ) → first / 2 ^ shift ≤ m / 2 ^ shift → m / 2 ^ shift ≤ last / 2 ^ shift → m / 2 ^ shift / 32 ≡ front
    same m up down = omega (arith, up, down, low_is, high_is)

-- ---- look-ups

-- among addresses that have the same bits before a digit the one with the lower digit is less
lower_first : (shift x y : ℕ) → x / 2 ^ shift / 32 ≡ y / 2 ^ shift / 32 → digit_at shift x < digit_at shift y → x < y
lower_first shift x y same lt = by (nat_lt x y) refl where
  less : x / 2 ^ shift < y / 2 ^ shift
  less = omega (arith, same, lt)

  by : (t : Bool) → nat_lt x y ≡ t → x < y
  by true t = grind (arith, nat_tests)
  by false t =
      let le : y ≤ x = grind (arith, nat_tests) in
      let up : y / 2 ^ shift ≤ x / 2 ^ shift = shr_mono shift le in
      absurd (omega (arith, up, less))

-- rows in order that have the same bits before a digit are in the order of the digits
pub by_digit : (shift front : ℕ) (rows : List Row) → IsInOrder rows → BeginAlike shift front rows → AreByDigit shift rows
by_digit shift front rows order begin k m d less lt =
    by (nat_lt (digit_at shift (get_or rows m d).first) (digit_at shift (get_or rows k d).first)) refl where
      by : (t : Bool) → nat_lt (digit_at shift (get_or rows m d).first) (digit_at shift (get_or rows k d).first) ≡ t
          → digit_at shift (get_or rows k d).first ≤ digit_at shift (get_or rows m d).first
      by false t = grind (arith, nat_tests)
      by true t =
          let lower : digit_at shift (get_or rows m d).first < digit_at shift (get_or rows k d).first = grind (arith, nat_tests) in
          let inside : k < length rows = omega (arith, less, lt) in
          let same = begin.alike order m d lt ∙ sym (begin.alike order k d inside) in
          let back = lower_first shift (get_or rows m d).first (get_or rows k d).first same lower in
          let ahead = order k m d less lt in
          absurd (omega (arith, back, ahead))

module _ (shift a : ℕ) (rows : List Row) (order : IsInOrder rows) (begin : BeginAlike shift (a / 2 ^ shift / 32) rows) where
  sorted : AreByDigit shift rows
  sorted = by_digit shift (a / 2 ^ shift / 32) rows order begin

  -- rows up to a digit are before the address of the digit
  before_digit : (n low : ℕ) → IsUpToDigit shift (digit_at shift a) rows n → low ≤ n → AllWithin (λ r. r.first ≤ a) rows 0 low
  before_digit n low up le k d zero_ lt =
      let inside : k < length rows = let w = up.within in omega (arith, w, le, lt) in
      let less = lower_first shift (get_or rows k d).first a (begin.alike order k d inside) (up.lower k d (omega arith) (omega (arith, le, lt))) in
      omega (arith, less)

  -- those from a higher digit on are behind it
  after_digit : (n digit : ℕ) → IsUpToDigit shift digit rows n → digit_at shift a < digit → AllWithin (λ r. a < r.first) rows n (length rows)
  after_digit n digit up lt k d le inside =
      let first : n < length rows = omega (arith, le, inside) in
      let more : digit_at shift a < digit_at shift (get_or rows n d).first = let next = up.next d first in omega (arith, next, lt) in
      let beyond = lower_first shift a (get_or rows n d).first (sym (begin.alike order n d first)) more in
      let later = no_later rows n k d order le inside in
      omega (arith, beyond, later)

  -- fewer are up to a digit than up to a higher one
  digits_grow : (n m digit higher : ℕ) → IsUpToDigit shift digit rows n → IsUpToDigit shift higher rows m → digit < higher → n ≤ m
  digits_grow n m digit higher up more lt = by (nat_lt m n) refl where
    no_row : Row
    no_row = record { first = 0; signs = record { plain = 0; negated = 0 } }

    by : (t : Bool) → nat_lt m n ≡ t → n ≤ m
    by false t = grind (arith, nat_tests)
    by true t =
        let less : m < n = grind (arith, nat_tests) in
        let inside : m < length rows = let w = up.within in omega (arith, w, less) in
        let low = up.lower m no_row (omega arith) less in
        let high = more.next no_row inside in
        absurd (omega (arith, low, high, lt))

  pub to_next : (before : List ℕ) (low high : ℕ) → IsIndex shift before rows → digit_at shift a + 1 < 32 → low ≡ get_or before (digit_at shift a) 0
      → high ≡ get_or before (digit_at shift a + 1) 0 → high < 255 → IsBetween rows a low high
  to_next before low high index near is_low is_high small =
      let own = index.each (digit_at shift a) (omega (arith, near)) in
      let next = index.each (digit_at shift a + 1) near in
      let low_byte = own.byte in
      let high_byte = next.byte in
      let exact : high ≡ next.count = omega (arith, is_high, high_byte, small) in
      let grow = digits_grow own.count next.count (digit_at shift a) (digit_at shift a + 1) (own.up_to sorted) (next.up_to sorted) (omega arith) in
      let most : low ≤ own.count = omega (arith, is_low, low_byte) in
      record {
        ordered = omega (arith, most, grow, exact);
        within = let w = next.within in omega (arith, w, exact);
        before = λ o. before_digit own.count low (own.up_to sorted) most;
        beyond = λ o. subst (λ (n : ℕ). AllWithin (λ r. a < r.first) rows n (length rows)) (sym exact)
            (after_digit next.count (digit_at shift a + 1) (next.up_to sorted) (omega arith));
      }

  pub to_end : (before : List ℕ) (low high : ℕ) → IsIndex shift before rows → digit_at shift a < 32 → low ≡ get_or before (digit_at shift a) 0
      → high ≡ length rows → IsBetween rows a low high
  to_end before low high index near is_low whole =
      let own = index.each (digit_at shift a) near in
      let low_byte = own.byte in
      let most : low ≤ own.count = omega (arith, is_low, low_byte) in
      record {
        ordered = let w = own.within in omega (arith, w, most, whole);
        within = omega (arith, whole);
        before = λ o. before_digit own.count low (own.up_to sorted) most;
        beyond = λ o k d le lt. absurd (omega (arith, le, lt, whole));
      }

-- an entry is no more than there are rows
pub entry_within : (shift digit entry : ℕ) (before : List ℕ) (rows : List Row) → IsIndex shift before rows → digit < 32 → entry ≡ get_or before digit 0
    → entry ≤ length rows
entry_within shift digit entry before rows index near is =
    let own = index.each digit near in
    let byte = own.byte in
    let w = own.within in
    omega (arith, is, byte, w)
