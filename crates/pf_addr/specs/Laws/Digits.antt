-- Laws of digits: which bytes they are, and what their numbers are.
use Rattle.std.proofs.{Common.{◌≡◌, ℕ, ◌<◌, ◌≤◌, ◌==◌, false, List, [], ◌∷◌, None, arith}, lemmas.Bool.Decides.nat_tests, lemmas.List.Elements.{All-nil, All-cons, All-head, All-tail}}
use Rattle.std.specs.{Char.digit_value, List.{All, position}, Str.Parse.AllDigits}
use Rattle.pf_addr.specs.{Laws.Places.{without, first_none, none_first}, Grammar.is_other}

-- a byte that isn't a digit is in no digits
pub none_in_digits : (radix c : ℕ) (text : List ℕ) → radix ≤ digit_value c → AllDigits radix text → without c text
none_in_digits radix c [] le all = All-nil (λ b. (b == c) ≡ false)
none_in_digits radix c (b ∷ bs) le all =
    let other : (b == c) ≡ false = let lt = all.0 in grind (arith, nat_tests) in
    All-cons (λ b. (b == c) ≡ false) b bs other (none_in_digits radix c bs le all.1)

pub from_tests : (radix : ℕ) (text : List ℕ) → All (λ b. is_other radix b ≡ false) text → AllDigits radix text
from_tests radix [] all = tt
from_tests radix (b ∷ bs) all =
    let here = All-head (λ b. is_other radix b ≡ false) b bs all in
    let low : digit_value b < radix = grind (arith, nat_tests) in
    (low, from_tests radix bs (All-tail (λ b. is_other radix b ≡ false) b bs all))

pub to_tests : (radix : ℕ) (text : List ℕ) → AllDigits radix text → All (λ b. is_other radix b ≡ false) text
to_tests radix [] all = All-nil (λ b. is_other radix b ≡ false)
to_tests radix (b ∷ bs) all =
    let here : is_other radix b ≡ false = let lt = all.0 in grind (arith, nat_tests) in
    All-cons (λ b. is_other radix b ≡ false) b bs here (to_tests radix bs all.1)

pub digits_all : (radix : ℕ) (text : List ℕ) → AllDigits radix text → position (is_other radix) text ≡ None
digits_all radix text all = none_first (is_other radix) text (to_tests radix text all)

pub all_digits : (radix : ℕ) (text : List ℕ) → position (is_other radix) text ≡ None → AllDigits radix text
all_digits radix text e = from_tests radix text (first_none (is_other radix) text e)
