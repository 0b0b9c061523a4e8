-- Parts that are appended to bytes in one piece.
use Rattle.std.proofs.{Common.{◌≡◌, ℕ, ◌<◌, List, [], ◌∷◌, ◌++◌, refl, sym, ap, ◌∙◌, append_assoc, arith}}
use Rattle.pf_form.specs.Bytes.BasicForms.{number_bytes}

pub two_pushed : (out a b : List ℕ) → out ++ (a ++ b) ≡ (out ++ a) ++ b
two_pushed out a b = sym (append_assoc out a b)

pub three_pushed : (out a b c : List ℕ) → out ++ ((a ++ b) ++ c) ≡ ((out ++ a) ++ b) ++ c
three_pushed out a b c = two_pushed out (a ++ b) c ∙ ap (λ (l : List ℕ). l ++ c) (two_pushed out a b)

pub four_pieces : (out a b c d : List ℕ) → out ++ (((a ++ b) ++ c) ++ d) ≡ (((out ++ a) ++ b) ++ c) ++ d
four_pieces out a b c d = two_pushed out ((a ++ b) ++ c) d ∙ ap (λ (l : List ℕ). l ++ d) (three_pushed out a b c)

pub six_pieces : (out a b c d e f : List ℕ) → out ++ (((((a ++ b) ++ c) ++ d) ++ e) ++ f) ≡ (((((out ++ a) ++ b) ++ c) ++ d) ++ e) ++ f
six_pieces out a b c d e f =
    two_pushed out ((((a ++ b) ++ c) ++ d) ++ e) f ∙ ap (λ (l : List ℕ). l ++ f) (two_pushed out (((a ++ b) ++ c) ++ d) e ∙ ap (λ (l : List ℕ). l ++ e) (four_pieces out a b c d))

one_byte : (n : ℕ) → n < 256 → number_bytes 1 n ≡ n ∷ []
unfolding number_bytes
one_byte n small = grind (arith, small)

pub four_pushed : (out : List ℕ) (a b c : ℕ) → a < 256 → b < 256 → c < 256
    → out ++ (a ∷ b ∷ c ∷ 0 ∷ []) ≡ (((out ++ number_bytes 1 a) ++ number_bytes 1 b) ++ number_bytes 1 c) ++ 0 ∷ []
four_pushed out a b c one two three =
    rw (one_byte a one, one_byte b two, one_byte c three, append_assoc out (a ∷ []) (b ∷ []), append_assoc out (a ∷ b ∷ []) (c ∷ []), append_assoc out (a ∷ b ∷ c ∷ []) (0 ∷ [])) refl

-- a state's front and the ends of its flow
pub state_pieces : (out i c g : List ℕ) (direction protocol : ℕ) (s o d p q : List ℕ) → direction < 256 → protocol < 256
    → out ++ ((((i ++ c) ++ g) ++ (direction ∷ 4 ∷ protocol ∷ 0 ∷ [])) ++ (((((s ++ o) ++ d) ++ o) ++ p) ++ q))
    ≡ ((((((((((((out ++ i) ++ c) ++ g) ++ number_bytes 1 direction) ++ number_bytes 1 4) ++ number_bytes 1 protocol) ++ 0 ∷ []) ++ s) ++ o) ++ d) ++ o) ++ p) ++ q
state_pieces out i c g direction protocol s o d p q one three =
    let small : 4 < 256 = grind (arith) in
    let front = ((i ++ c) ++ g) ++ (direction ∷ 4 ∷ protocol ∷ 0 ∷ []) in
    two_pushed out front (((((s ++ o) ++ d) ++ o) ++ p) ++ q)
    ∙ six_pieces (out ++ front) s o d o p q
    ∙ ap (λ (l : List ℕ). (((((l ++ s) ++ o) ++ d) ++ o) ++ p) ++ q)
    (four_pieces out i c g (direction ∷ 4 ∷ protocol ∷ 0 ∷ []) ∙ four_pushed (((out ++ i) ++ c) ++ g) direction 4 protocol one small three)
