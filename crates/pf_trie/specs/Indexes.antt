-- An index of rows by a digit of their addresses.
use Rattle.std.specs.{Prelude.{◌≡◌, ℕ, ◌/◌, ◌%◌, ◌^◌, ◌<◌, ◌≤◌, min, List, length, slice_index_or, All}, List.{AllPairs, AllWithin}}
use Rattle.pf_trie.specs.declared.{rows.Row.{Row}, indexed.TheConstants.{DIGITS}}
use Rattle.pf_trie.specs.Rows.{IsInOrder}

-- the digit of an address before its last `shift` bits
abbrev pub digit_at : ℕ → ℕ → ℕ
digit_at shift a = a / 2 ^ shift % DIGITS

-- no row's digit is lower than that of a row before it
abbrev pub AreByDigit : ℕ → List Row → Type 0
AreByDigit shift rows = AllPairs (λ r t. digit_at shift r.first ≤ digit_at shift t.first) rows

-- so many rows come before the first whose digit isn't lower than this one
pub record IsUpToDigit (shift digit : ℕ) (rows : List Row) (n : ℕ) : Type 0 where
  pub within : n ≤ length rows
  pub lower : AllWithin (λ r. digit_at shift r.first < digit) rows 0 n
  pub next : (d : Row) → n < length rows → digit ≤ digit_at shift (slice_index_or rows n d).first

-- how many those are of rows in the order of the digits, in a byte, whose last number stands for all higher ones
pub record IsEntry (shift digit : ℕ) (rows : List Row) (entry : ℕ) : Type 0 where
  pub count : ℕ
  pub within : count ≤ length rows
  pub up_to : AreByDigit shift rows → IsUpToDigit shift digit rows count
  pub byte : entry ≡ min count 255

-- an entry for each digit
pub record IsIndex (shift : ℕ) (before : List ℕ) (rows : List Row) : Type 0 where
  pub entries : length before ≡ DIGITS
  pub each : (digit : ℕ) → digit < DIGITS → IsEntry shift digit rows (slice_index_or before digit 0)

-- rows in order have these bits before the digit
pub record BeginAlike (shift front : ℕ) (rows : List Row) : Type 0 where
  pub alike : IsInOrder rows → All (λ r. r.first / 2 ^ shift / DIGITS ≡ front) rows
