-- An entry's bytes, appended in few pieces.
use Rattle.std.proofs.{Common.{◌≡◌, ℕ, ◌<◌, List, [], ◌∷◌, ◌++◌, refl, sym, ap, ◌∙◌, append_assoc, arith}}
use Rattle.pf_form.specs.Bytes.BasicForms.{number_bytes}

pub one_byte : (n : ℕ) → n < 256 → number_bytes 1 n ≡ n ∷ []
unfolding number_bytes
one_byte n small = grind (arith, small)

pub four_pushed : (out : List ℕ) (a b c : ℕ) → a < 256 → b < 256 → c < 256
    → out ++ (a ∷ b ∷ c ∷ 0 ∷ []) ≡ (((out ++ number_bytes 1 a) ++ number_bytes 1 b) ++ number_bytes 1 c) ++ 0 ∷ []
four_pushed out a b c one two three =
    rw (one_byte a one, one_byte b two, one_byte c three, append_assoc out (a ∷ []) (b ∷ []), append_assoc out (a ∷ b ∷ []) (c ∷ []), append_assoc out (a ∷ b ∷ c ∷ []) (0 ∷ [])) refl

-- the four bytes, then an address
pub entry_pushed : (out : List ℕ) (a b c : ℕ) (address zeros : List ℕ) → a < 256 → b < 256 → c < 256
    → out ++ (((a ∷ b ∷ c ∷ 0 ∷ []) ++ address) ++ zeros) ≡ (((((out ++ number_bytes 1 a) ++ number_bytes 1 b) ++ number_bytes 1 c) ++ 0 ∷ []) ++ address) ++ zeros
entry_pushed out a b c address zeros one two three =
    let front = a ∷ b ∷ c ∷ 0 ∷ [] in
    sym (append_assoc out (front ++ address) zeros) ∙ ap (λ (l : List ℕ). l ++ zeros) (sym (append_assoc out front address))
    ∙ ap (λ (l : List ℕ). (l ++ address) ++ zeros) (four_pushed out a b c one two three)
