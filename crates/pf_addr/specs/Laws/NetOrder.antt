-- Networks are totally ordered, and no two of them tie.
use Rattle.std.proofs.{Common.{◌≡◌, ℕ, ◌*◌, ◌-◌, ◌/◌, ◌^◌, ◌<◌, ◌≤◌, Bool, true, false, nat_lt, refl, sym, ap, ◌∙◌, true≢false, arith}, Math.Nat.mul-div_cancel, Math.Pow.shr_mono, lemmas.Bool.Decides.nat_tests, lemmas.Nat.pow_pos, lemmas.Cmp.nat_cmp_total}
use Rattle.std.specs.{Cmp.{IsTotalOrder, on_total, then_total, nat_cmp_is}, FinMap.{IsAntisymmetric, nat_cmp-IsAntisymmetric}, Ordering.{ordering_then, is_eq, nat_cmp}, declared.{cmp.Ordering.Ordering, cmp.Ordering.TheVariants.Less, cmp.Ordering.TheVariants.Equal, cmp.Ordering.TheVariants.Greater}}
use Rattle.pf_addr.specs.{declared.{addr.Family.Family, addr.Family.TheVariants.V4, addr.Family.TheVariants.V6}, Address.{PlainNet, width}, NetForms.first_number}
use Rattle.pf_addr.specs.NetOrder.{rank, net_order, hint_in, net_hint}
use Rattle.pf_key.specs.Keys.{RisesWith}

pub net_total : IsTotalOrder net_order
unfolding net_order
net_total = then_total (on_total (λ (n : PlainNet). rank n.family) nat_cmp_total)
    (then_total (on_total first_number nat_cmp_total) (on_total (λ (n : PlainNet). n.len) nat_cmp_total))

first_tied : (a b : Ordering) → ordering_then a b ≡ Equal → a ≡ Equal
first_tied Less b e = absurd (true≢false (sym (ap is_eq e)))
first_tied Equal b e = refl
first_tied Greater b e = absurd (true≢false (sym (ap is_eq e)))

then_tied : (a b : Ordering) → ordering_then a b ≡ Equal → b ≡ Equal
then_tied Less b e = absurd (true≢false (sym (ap is_eq e)))
then_tied Equal b e = e
then_tied Greater b e = absurd (true≢false (sym (ap is_eq e)))

pub one_rank : (f g : Family) → rank f ≡ rank g → f ≡ g
one_rank V4 V4 e = refl
one_rank V4 V6 e = absurd (omega arith)
one_rank V6 V4 e = absurd (omega arith)
one_rank V6 V6 e = refl

one_front : (a b k : ℕ) → a * 2 ^ k ≡ b * 2 ^ k → a ≡ b
one_front a b k e = sym (mul-div_cancel a (pow_pos k)) ∙ ap (λ (m : ℕ). m / 2 ^ k) e ∙ mul-div_cancel b (pow_pos k)

pub net_same : IsAntisymmetric net_order
unfolding net_order
net_same x y e =
    let family = one_rank x.family y.family (nat_cmp-IsAntisymmetric (rank x.family) (rank y.family) (first_tied _ _ e)) in
    let following = then_tied _ _ e in
    let first = nat_cmp-IsAntisymmetric (first_number x) (first_number y) (first_tied _ _ following) in
    let len = nat_cmp-IsAntisymmetric x.len y.len (then_tied _ _ following) in
    let front = one_front x.front y.front (width y.family - y.len) (ap (λ (k : ℕ). x.front * 2 ^ k) (λ i. width (sym family i) - sym len i)
    ∙ first) in
    λ i. record { family = family i; len = len i; front = front i }

less_is : (m n : ℕ) → m < n → nat_cmp m n ≡ Less
less_is m n lt = sym (nat_cmp_is m n Less lt)

more_of_front : (m n : ℕ) → m / 2 ^ 65 < n / 2 ^ 65 → m < n
more_of_front m n lt = by (nat_lt m n) refl where
  by : (t : Bool) → nat_lt m n ≡ t → m < n
  by true less = grind (arith, nat_tests)
  by false more = let le : n ≤ m = grind (arith, nat_tests) in let back : n / 2 ^ 65 ≤ m / 2 ^ 65 = shr_mono 65 le in
      absurd (omega (arith, back, lt))

-- a network with a lesser hint comes first
pub net_rises : RisesWith net_order net_hint
unfolding net_order
net_rises x y less = by x.family y.family less where
  by : (f g : Family) → hint_in f (first_number x) < hint_in g (first_number y) →
      ordering_then (nat_cmp (rank f) (rank g)) (ordering_then (nat_cmp (first_number x) (first_number y)) (nat_cmp x.len y.len)) ≡ Less
  by V4 V4 less = let lt : first_number x < first_number y = omega (arith, less) in rw (less_is _ _ lt) refl
  by V4 V6 less = refl
  by V6 V4 less = absurd (omega (arith, less))
  by V6 V6 less = let lt : first_number x < first_number y = more_of_front (first_number x) (first_number y) (omega (arith, less)) in
      rw (less_is _ _ lt) refl
