-- A value is written in as many bytes as its form says.
use Rattle.std.proofs.{Common.{◌≡◌, ◌+◌, ℕ, zero, suc, List, [], ◌∷◌, ◌++◌, length, inl, inr, refl, ap, ◌∙◌, arith}, lemmas.List.{length-append, Sums.sum_by-cons}}
use Rattle.std.specs.List.{flat_map, sum_by}
use Rattle.pf_form.specs.{Bytes.BasicForms.number_bytes, Bytes.Forms.{Shape, Value, ByteForm, nothing, number, part, front, back, or, pair_by, times, counted, that, writes, length_of}}

number_long : (w n : ℕ) → length (number_bytes w n) ≡ w
unfolding number_bytes
number_long zero n = refl
number_long (suc w) n = let rest = number_long w n in omega arith

each_long : {A : Type 0} (write : A → List ℕ) (long : A → ℕ) → ((x : A) → length (write x) ≡ long x) → (xs : List A) → length (flat_map write xs) ≡ sum_by long xs
each_long write long is [] = refl
each_long write long is (x ∷ xs) = omega (arith, length-append (write x) (flat_map write xs), is x, each_long write long is xs, sum_by-cons long x xs)

pub length_is : {a : Shape} (f : ByteForm a) (x : Value a) → length (writes f x) ≡ length_of f x
length_is (nothing only) x = refl
length_is (number w) n = number_long w n
length_is (part p) x = refl
length_is (front k f) x = length-append k (writes f x) ∙ ap (λ (n : ℕ). length k + n) (length_is f x)
length_is (back f k) x = length-append (writes f x) k ∙ ap (λ (n : ℕ). n + length k) (length_is f x)
length_is (or k f g) (inl x) = let rest = length_is f x in omega arith
length_is (or k f g) (inr y) = length_is g y
length_is (pair_by f g) x = omega (arith, length-append (writes f x.0) (writes (g x.0) x.1), length_is f x.0, length_is (g x.0) x.1)
length_is (times n f) xs = each_long (writes f) (length_of f) (length_is f) xs
length_is (counted w f) xs =
    omega (
      arith,
      length-append (number_bytes w (length xs)) (flat_map (writes f) xs),
      number_long w (length xs),
      each_long (writes f) (length_of f) (length_is f) xs,
    )
length_is (that test f) x = length_is f x
