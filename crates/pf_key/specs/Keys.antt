-- Keys in order: pairs of them, and numbers that rise with them, so that most comparisons are of numbers.
use Rattle.std.specs.{Prelude.{◌≡◌, ℕ, ◌<◌, T, nat_lt, true}, declared.{cmp.Ordering.Ordering, cmp.Ordering.TheVariants.Less, cmp.Ordering.TheVariants.Equal, cmp.Ordering.TheVariants.Greater}, FinMap.IsAntisymmetric, Ordering.{ordering_then, is_eq, nat_cmp}}
use Rattle.std.proofs.Common.{refl, sym, ap, subst, lt-ltb}

-- ---- pairs: the first parts decide, and where these tie the second do

abbrev pub pair_order : {K L : Type 0} → (K → K → Ordering) → (L → L → Ordering) → K × L → K × L → Ordering
pair_order R S p q = ordering_then (R p.0 q.0) (S p.1 q.1)

both_tie : (r s : Ordering) → ordering_then r s ≡ Equal → (r ≡ Equal) × (s ≡ Equal)
both_tie Less s tied = absurd (subst (λ r. T (is_eq r)) (sym tied) tt)
both_tie Equal s tied = (λ i. Equal, tied)
both_tie Greater s tied = absurd (subst (λ r. T (is_eq r)) (sym tied) tt)

-- where only equal parts tie, only equal pairs do
pub pairs_alike : {K L : Type 0} {R : K → K → Ordering} {S : L → L → Ordering} → IsAntisymmetric R → IsAntisymmetric S →
    IsAntisymmetric (pair_order R S)
pairs_alike {R = R} {S = S} r s p q tied = let parts = both_tie (R p.0 q.0) (S p.1 q.1) tied in
    λ i. (r p.0 q.0 parts.0 i, s p.1 q.1 parts.1 i)

-- ---- hints: numbers that rise with the keys

-- where the hint of one key is less than that of another, it comes first
abbrev pub RisesWith : {K : Type 0} → (K → K → Ordering) → (K → ℕ) → Type 0
RisesWith {K} R hint = (a b : K) → hint a < hint b → R a b ≡ Less

first_less : (r s : Ordering) → r ≡ Less → ordering_then r s ≡ Less
first_less r s is = ap (λ o. ordering_then o s) is

-- a pair has the hint of its first part
pub pairs_rise : {K L : Type 0} (R : K → K → Ordering) (S : L → L → Ordering) (hint : K → ℕ) → RisesWith R hint → RisesWith (pair_order R S) (λ p. hint p.0)
pairs_rise R S hint rises p q less = first_less (R p.0 q.0) (S p.1 q.1) (rises p.0 q.0 less)

-- a number rises with itself
pub numbers_rise : RisesWith nat_cmp (λ n. n)
numbers_rise a b less = let is : nat_lt a b ≡ true = lt-ltb a b less in rw is refl
