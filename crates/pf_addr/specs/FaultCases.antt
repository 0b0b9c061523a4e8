-- Which fault a text has that spells no address or no network, and at which byte, by cases on the text. The order of faults is this
-- project's own.
use Rattle.std.specs.{Prelude.{◌≡◌, ◌≢◌, ℕ, ◌+◌, ◌==◌, ◌<◌, ◌≤◌, ◌⊎◌, Bool, true, false, List, [], ◌∷◌, ◌++◌, length, slice_index, All}, List.AllZip, Str.Parse.IsNumeral}
use Rattle.pf_addr.specs.declared.{addr.Addr.Addr, fault.AddrFault.AddrFault, fault.AddrFault.TheVariants.{Empty, BadDigit, TooBig, BadLength, BadGroups}, ipv6_text.TheConstants.GROUPS}
use Rattle.pf_addr.specs.{Address.{width, family_of}, Grammar.{is_other, is_small, is_short, pieces, IsNumber, Dotted, IsGroup, Grouped, EndGrouped, Spells}}

-- the first byte that passes a test is at this place
pub record FirstAt (test : ℕ → Bool) (text : List ℕ) (place : ℕ) : Type 0 where
  pub within : place < length text
  pub passes : test (slice_index text place) ≡ true
  pub before : (i : ℕ) → i < place → test (slice_index text i) ≡ false

-- the byte is nowhere in the text
abbrev pub Without : ℕ → List ℕ → Type 0
Without c = All (λ b. (b == c) ≡ false)

-- the fault of a text that begins at a byte
abbrev pub Faulty : Type 1
Faulty = ℕ → List ℕ → AddrFault → Type 0

-- ---- one piece

-- A piece isn't a number in the radix: it is empty, has a byte that isn't a digit, or is only digits that don't fit.
pub data IsPieceFault (radix : ℕ) (fits : List ℕ → Bool) (at : ℕ) (piece : List ℕ) (fault : AddrFault) : Type 0 where
  -- at the start of the piece
  empty : piece ≡ [] → fault ≡ BadDigit at → IsPieceFault radix fits at piece fault
  -- at the first such byte
  no_digit : (i : ℕ) → FirstAt (is_other radix) piece i → fault ≡ BadDigit (at + i) → IsPieceFault radix fits at piece fault
  -- at the start of the piece
  too_big : IsNumeral radix piece → fits piece ≡ false → fault ≡ TooBig at → IsPieceFault radix fits at piece fault

-- a part of a V4 address has at most three digits, and is at most 255
abbrev pub IsPartFault : Faulty
IsPartFault = IsPieceFault 10 is_small

-- a group of a V6 address has at most four digits
abbrev pub IsGroupFault : Faulty
IsGroupFault = IsPieceFault 16 is_short

-- ---- pieces in a row, with one byte between two

-- where a piece begins that comes after these
abbrev pub start_after : ℕ → List (List ℕ) → ℕ
start_after at [] = at
start_after at (p ∷ ps) = start_after (at + length p + 1) ps

-- the fault of a piece followed by these: if there are none, it is the last
abbrev pub where_last : List (List ℕ) → Faulty → Faulty → Faulty
where_last [] inner last = last
where_last (p ∷ ps) inner last = inner

-- One piece has the fault, and each before it is good.
pub record IsFirstFault (Good : List ℕ → ℕ → Type 0) (inner last : Faulty) (at : ℕ) (ps : List (List ℕ)) (fault : AddrFault) : Type 0 where
  pub front : List (List ℕ)
  pub piece : List ℕ
  pub following : List (List ℕ)
  pub numbers : List ℕ
  pub cut : ps ≡ front ++ piece ∷ following
  pub good : AllZip Good front numbers
  pub faulty : where_last following inner last (start_after at front) piece fault

-- ---- V4

-- the fault of its first faulty part; or all parts are good, and they are too few or more than four
pub data IsV4Fault (fewest at : ℕ) (text : List ℕ) (fault : AddrFault) : Type 0 where
  bad_part : IsFirstFault (IsNumber 255) IsPartFault IsPartFault at (pieces 46 text) fault → IsV4Fault fewest at text fault
  wrong_number : (parts : List ℕ) → Dotted parts text → (length parts < fewest) ⊎ (4 < length parts)
      → fault ≡ BadGroups at → IsV4Fault fewest at text fault

-- ---- V6

-- the fault of an address's last piece: with a dot (46) it is that of a V4 address with four parts
pub data IsEndFault (at : ℕ) (piece : List ℕ) (fault : AddrFault) : Type 0 where
  end_v4 : (i : ℕ) → FirstAt (λ b. b == 46) piece i → IsV4Fault 4 at piece fault → IsEndFault at piece fault
  end_group : Without 46 piece → IsGroupFault at piece fault → IsEndFault at piece fault

-- the first faulty piece's fault, in a text that doesn't end the address, and in one that does
abbrev pub IsInnerFault : Faulty
IsInnerFault at text fault = IsFirstFault IsGroup IsGroupFault IsGroupFault at (pieces 58 text) fault

abbrev pub IsOuterFault : Faulty
IsOuterFault at text fault = IsFirstFault IsGroup IsGroupFault IsEndFault at (pieces 58 text) fault

-- the text has no `::`
abbrev pub NoGap : List ℕ → Type 0
NoGap text = (front back : List ℕ) → text ≢ front ++ 58 ∷ 58 ∷ back

-- the text's first `::` is between these
pub record FirstGap (text front back : List ℕ) : Type 0 where
  pub cut : text ≡ front ++ 58 ∷ 58 ∷ back
  pub first : (f b : List ℕ) → text ≡ f ++ 58 ∷ 58 ∷ b → length front ≤ length f

-- The first faulty piece's fault, before or after `::`; or all pieces are good, and without `::` they aren't eight groups, or with it
-- more than seven.
pub data IsV6Fault (text : List ℕ) (fault : AddrFault) : Type 0 where
  bad_piece : NoGap text → IsOuterFault 0 text fault → IsV6Fault text fault
  wrong_number : NoGap text → (groups : List ℕ) → EndGrouped groups text → length groups ≢ GROUPS
      → fault ≡ BadGroups 0 → IsV6Fault text fault
  bad_before : (front back : List ℕ) → FirstGap text front back → IsInnerFault 0 front fault → IsV6Fault text fault
  bad_after_gap : (front back fs : List ℕ) → FirstGap text front back → Grouped fs front
      → IsOuterFault (length front + 2) back fault → IsV6Fault text fault
  too_many : (front back fs bs : List ℕ) → FirstGap text front back → Grouped fs front → EndGrouped bs back
      → GROUPS ≤ length fs + length bs → fault ≡ BadGroups 0 → IsV6Fault text fault

-- ---- an address: V6 if it has a colon (58), otherwise V4 with at least `fewest` parts

pub data IsAddressFault (fewest : ℕ) (text : List ℕ) (fault : AddrFault) : Type 0 where
  no_text : text ≡ [] → fault ≡ Empty 0 → IsAddressFault fewest text fault
  as_v6 : (i : ℕ) → FirstAt (λ b. b == 58) text i → IsV6Fault text fault → IsAddressFault fewest text fault
  as_v4 : 0 < length text → Without 58 text → IsV4Fault fewest 0 text fault → IsAddressFault fewest text fault

abbrev pub IsAddrFault : List ℕ → AddrFault → Type 0
IsAddrFault = IsAddressFault 4

-- ---- a network

-- Without a slash (47), as an address. With one, the fault of the address before its first slash; or that is good, and what comes after
-- the slash isn't a length.
pub data IsNetFault (text : List ℕ) (fault : AddrFault) : Type 0 where
  no_slash : Without 47 text → IsAddrFault text fault → IsNetFault text fault
  bad_address : (front digits : List ℕ) → text ≡ front ++ 47 ∷ digits → Without 47 front
      → IsAddressFault 1 front fault → IsNetFault text fault
  bad_length : (front digits : List ℕ) → text ≡ front ++ 47 ∷ digits → Without 47 front
      → (a : Addr) → Spells 1 front a → ((n : ℕ) → IsNumber (width (family_of a)) digits n → ⊥)
      → fault ≡ BadLength (length front + 1) → IsNetFault text fault
