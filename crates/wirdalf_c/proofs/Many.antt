-- A list, of which an element is replaced.
use Rattle.std.proofs.Common.{◌≡◌, ◌≢◌, ℕ, zero, suc, ◌+◌, ◌<◌, List, [], ◌∷◌, length, Option, Some, IfSome, arith, slice_get, slice_set, get_or, refl, ap, inl, inr}
use Rattle.std.proofs.lemmas.{Bool.cases_lt, Option.slice_get-get_or}

pub get_set_same : {A : Type 0} (ys : List A) (i : ℕ) (v : A) → i < length ys → slice_get (slice_set ys i v) i ≡ Some v
get_set_same [] i v h = absurd (omega arith)
get_set_same (y ∷ ys) zero v h = refl
get_set_same (y ∷ ys) (suc i) v h = get_set_same ys i v (omega arith)

pub get_set_other : {A : Type 0} (ys : List A) (i k : ℕ) (v : A) → k ≢ i → slice_get (slice_set ys i v) k ≡ slice_get ys k
get_set_other [] i k v ne = refl
get_set_other (y ∷ ys) zero zero v ne = absurd (ne refl)
get_set_other (y ∷ ys) zero (suc k) v ne = refl
get_set_other (y ∷ ys) (suc i) zero v ne = refl
get_set_other (y ∷ ys) (suc i) (suc k) v ne = get_set_other ys i k v (λ e. ne (ap (λ (n : ℕ). suc n) e))

if_known : {A : Type 0} (o : Option A) (x : A) (P : A → Type 0) → o ≡ Some x → P x → IfSome o P
if_known o x P e p = rw e p

-- what holds of each pair before, and of the new one, holds of each pair
pub pair_more : {A B : Type 0} (P : A → B → Type 0) (xs : List A) (ys : List B) (i : ℕ) (v : B) (d : A) → i < length xs → i < length ys → P (get_or xs i d) v
    → ((k : ℕ) → k < i → IfSome (slice_get xs k) (λ a. IfSome (slice_get ys k) (λ b. P a b)))
    → (k : ℕ) → k < i + 1 → IfSome (slice_get xs k) (λ a. IfSome (slice_get (slice_set ys i v) k) (λ b. P a b))
pair_more P xs ys i v d here there p before k less = elim (cases_lt k i) [
  | inl earlier ↦ rw (get_set_other ys i k v (λ e. absurd (omega (arith, e)))) (before k earlier)
  | inr later ↦ let same : k ≡ i = omega arith in rw same (if_known (slice_get xs i) (get_or xs i d) (λ a. IfSome (slice_get (slice_set ys i v) i) (λ b. P a b)) (slice_get-get_or xs i d here)
      (if_known (slice_get (slice_set ys i v) i) v (λ b. P (get_or xs i d) b) (get_set_same ys i v there) p))
]
