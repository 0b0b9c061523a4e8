-- What is appended to bytes is what is written.
use Rattle.std.proofs.{Common.{◌≡◌, ℕ, List, [], ◌∷◌, ◌++◌, length, inl, inr, refl, sym, ap, ◌∙◌, append_assoc}, lemmas.List.append-nil}
use Rattle.std.specs.List.{flat_map}
use Rattle.pf_form.specs.{Bytes.BasicForms.{onto_each, number_bytes}, Bytes.Forms.{Shape, Value, ByteForm, nothing, number, part, front, back, or, pair_by, times, counted, that, writes, onto}}

each_is : {A : Type 0} (push : A → List ℕ → List ℕ) (write : A → List ℕ) → ((x : A) (out : List ℕ) → push x out ≡ out ++ write x) → (xs : List A) (out : List ℕ) → onto_each push xs out ≡ out ++ flat_map write xs
each_is push write is [] out = sym (append-nil out)
each_is push write is (x ∷ xs) out = each_is push write is xs (push x out) ∙ ap (λ (m : List ℕ). m ++ flat_map write xs) (is x out) ∙ append_assoc out (write x) (flat_map write xs)

pub onto_is : {a : Shape} (f : ByteForm a) (x : Value a) (out : List ℕ) → onto f x out ≡ out ++ writes f x
onto_is (nothing only) x out = sym (append-nil out)
onto_is (number w) n out = refl
onto_is (part p) x out = refl
onto_is (front k f) x out = onto_is f x (out ++ k) ∙ append_assoc out k (writes f x)
onto_is (back f k) x out = ap (λ (m : List ℕ). m ++ k) (onto_is f x out) ∙ append_assoc out (writes f x) k
onto_is (or k f g) (inl x) out = onto_is f x (out ++ k ∷ []) ∙ append_assoc out (k ∷ []) (writes f x)
onto_is (or k f g) (inr y) out = onto_is g y out
onto_is (pair_by f g) x out = onto_is (g x.0) x.1 (onto f x.0 out) ∙ ap (λ (m : List ℕ). m ++ writes (g x.0) x.1) (onto_is f x.0 out) ∙ append_assoc out (writes f x.0) (writes (g x.0) x.1)
onto_is (times n f) xs out = each_is (onto f) (writes f) (onto_is f) xs out
onto_is (counted w f) xs out = each_is (onto f) (writes f) (onto_is f) xs (out ++ number_bytes w (length xs)) ∙ append_assoc out (number_bytes w (length xs)) (flat_map (writes f) xs)
onto_is (that test f) x out = onto_is f x out
