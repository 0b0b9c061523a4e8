-- A number is read from a word exactly when the word writes it.
use Rattle.std.proofs.{Common.{◌≡◌, ℕ, ◌+◌, ◌*◌, ◌-◌, ◌<◌, ◌≤◌, ◌^◌, ◌&&◌, Bool, true, false, List, length, Some, None, Option, refl, sym, ◌∙◌, rules, arith}, lemmas.Bool.{and_parts, ltb-true, leb-true, lt-ltb, le-leb}, lemmas.Bool.Decides.nat_tests, lemmas.Str.Parse.{IsNumeralModel, numerals_by_fold, digits_value_short}}
use Rattle.std.specs.{Prelude.{fold, if◌then◌else◌, nat_lt, nat_le}, List.list_all}
use Rattle.pf_form.specs.{Form.Words.Word, Form.Numbers.{is_digit, decimal_value, number_of, of_bits, number_in, IsNumber, IsNumberIn}}

abbrev IsDigits : List ℕ → Type 0
IsDigits ds = list_all is_digit ds ≡ true

abbrev read_on : ℕ → List ℕ → ℕ
read_on n ds = fold (λ v b. v * 10 + (b - 48)) n ds

own : IsNumeralModel IsDigits (read_on 0)
own = numerals_by_fold IsDigits (search rules) read_on (search rules)

pub number_only : (most : ℕ) (w : Word) (n : ℕ) → IsNumber most w n → number_of most w ≡ Some n
number_only most w n is =
    let some : nat_lt 0 (length w) ≡ true = lt-ltb 0 (length w) is.digits.0 in
    let few : nat_le (length w) most ≡ true = le-leb (length w) most is.few in
    let all : list_all is_digit w ≡ true = own.from w is.digits.1 in
    let value : decimal_value w ≡ n = own.same w is.digits.1 ∙ is.value in
    rw (some, few, all, value) refl

where_true : (t : Bool) (m n : ℕ) → (if t then Some m else None) ≡ Some n → (t ≡ true) × (m ≡ n)
where_true true m n e = let same : m ≡ n = cc in (refl, same)
where_true false m n e = absurd cc

pub number_found : (most : ℕ) (w : Word) (n : ℕ) → number_of most w ≡ Some n → IsNumber most w n
number_found most w n e =
    let is = where_true (nat_lt 0 (length w) && nat_le (length w) most && list_all is_digit w) (decimal_value w) n e in
    let tests = and_parts (nat_lt 0 (length w) && nat_le (length w) most) (list_all is_digit w) is.0 in
    let long = and_parts (nat_lt 0 (length w)) (nat_le (length w) most) tests.0 in
    let ds = own.to w tests.1 in
    record { digits = (ltb-true 0 (length w) long.0, ds); few = leb-true (length w) most long.1; value = sym (own.same w ds) ∙ is.1 }

pub number_in_only : (bits most : ℕ) (w : Word) (n : ℕ) → IsNumberIn bits most w n → number_in bits most w ≡ Some n
number_in_only bits most w n is = rw (number_only most w n is.number, lt-ltb n (2 ^ bits) is.small) refl

kept : (bits : ℕ) (o : Option ℕ) (n : ℕ) → of_bits bits o ≡ Some n → (o ≡ Some n) × (n < 2 ^ bits)
kept bits o n e = (grind (arith, nat_tests), grind (arith, nat_tests))

pub number_in_found : (bits most : ℕ) (w : Word) (n : ℕ) → number_in bits most w ≡ Some n → IsNumberIn bits most w n
number_in_found bits most w n e = let is = kept bits (number_of most w) n e in record { number = number_found most w n is.0; small = is.1 }

pub ruleset numbers_read = (number_found, number_only, number_in_found, number_in_only)

-- so few digits write a number of 64 bits at most
pub few_digits : (w : Word) → list_all is_digit w ≡ true → length w ≤ 19 → decimal_value w < 2 ^ 64
few_digits w all few = omega (arith, digits_value_short own w 19 all few)
