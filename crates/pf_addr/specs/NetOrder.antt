-- The order of networks as keys of a map.
use Rattle.std.specs.{Prelude.{ℕ, ◌+◌, ◌-◌, ◌/◌, ◌^◌, min}, Ordering.{ordering_then, nat_cmp}}
use Rattle.std.specs.declared.cmp.Ordering.{Ordering}
use Rattle.pf_addr.specs.{declared.{addr.Family.Family, addr.Family.TheVariants.V4, addr.Family.TheVariants.V6}, Address.PlainNet, NetForms.first_number}

-- V4 comes first
abbrev pub rank : Family → ℕ
rank V4 = 0
rank V6 = 1

-- V4 before V6, then by the first address, then the shorter front before the longer
unfoldable pub net_order : PlainNet → PlainNet → Ordering
net_order x y = ordering_then (nat_cmp (rank x.family) (rank y.family))
    (ordering_then (nat_cmp (first_number x) (first_number y)) (nat_cmp x.len y.len))

-- A number that rises with the networks: for V6 as many first bits of the first address as fit after the family's bit, for V4 all of
-- them.
abbrev pub hint_in : Family → ℕ → ℕ
hint_in V4 first = min first (2 ^ 63 - 1)
hint_in V6 first = 2 ^ 63 + first / 2 ^ 65

abbrev pub net_hint : PlainNet → ℕ
net_hint n = hint_in n.family (first_number n)
