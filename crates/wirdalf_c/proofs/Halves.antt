-- Bytes by their halves.
use Rattle.std.proofs.Common.{◌≡◌, ◌∙◌, ℕ, ◌+◌, ◌<◌, ◌≤◌, List, ◌++◌, length, take, drop, get_or, sym, ap, inl, inr, arith, length-drop}
use Rattle.std.proofs.lemmas.{Bool.cases_lt, Nat.le_bytes_8, List.{get_or-take, get_or-drop, get_or_past, length-take-le, take-append-drop}}
use Rattle.std.specs.Int.{from_le_bytes, w64}

-- each of them is a byte
abbrev AreBytes : List ℕ → Type 0
AreBytes bytes = (i : ℕ) → get_or bytes i 0 < 256

front_bytes : (n : ℕ) (bytes : List ℕ) → n ≤ length bytes → AreBytes bytes → AreBytes (take n bytes)
front_bytes n bytes fits are = λ i. elim (cases_lt i n) [
  | inl less ↦ rw (get_or-take n bytes i 0 less) (are i)
  | inr past ↦ let long : length (take n bytes) ≤ i = omega (arith, length-take-le n bytes fits) in rw (get_or_past (take n bytes) i 0 long) (omega arith)
]

rest_bytes : (n : ℕ) (bytes : List ℕ) → AreBytes bytes → AreBytes (drop n bytes)
rest_bytes n bytes are = λ i. rw (get_or-drop n bytes i 0) (are (n + i))

same_eight : (a b : List ℕ) → length a ≡ 8 → length b ≡ 8 → AreBytes a → AreBytes b → from_le_bytes w64 a ≡ from_le_bytes w64 b → a ≡ b
same_eight a b long_a long_b are_a are_b same =
    sym (le_bytes_8 a (from_le_bytes w64 b) long_a are_a (sym same)) ∙ le_bytes_8 b (from_le_bytes w64 b) long_b are_b (λ i. from_le_bytes w64 b)

pub same_halves : (a b : List ℕ) → length a ≡ 16 → length b ≡ 16 → AreBytes a → AreBytes b
    → from_le_bytes w64 (take 8 a) ≡ from_le_bytes w64 (take 8 b) → from_le_bytes w64 (drop 8 a) ≡ from_le_bytes w64 (drop 8 b) → a ≡ b
same_halves a b long_a long_b are_a are_b first last =
    let fits_a : 8 ≤ length a = omega arith in
    let fits_b : 8 ≤ length b = omega arith in
    let fronts : take 8 a ≡ take 8 b =
    same_eight (take 8 a) (take 8 b) (length-take-le 8 a fits_a) (length-take-le 8 b fits_b) (front_bytes 8 a fits_a are_a) (front_bytes 8 b fits_b are_b) first in
    let rests : drop 8 a ≡ drop 8 b =
    same_eight (drop 8 a) (drop 8 b) (omega (arith, length-drop 8 a)) (omega (arith, length-drop 8 b)) (rest_bytes 8 a are_a) (rest_bytes 8 b are_b) last in
    sym (take-append-drop 8 a) ∙ (ap (λ (xs : List ℕ). xs ++ drop 8 a) fronts ∙ (ap (λ (xs : List ℕ). take 8 b ++ xs) rests ∙ take-append-drop 8 b))
