-- Entries in order.
use Rattle.std.proofs.Common.{◌≡◌, ℕ, zero, suc, T, List, [], ◌∷◌, length, ◌<◌, get_or, arith}
use Rattle.std.specs.{declared.{cmp.Ordering.TheVariants.Less}, FinMap.is_sorted, FinMap.Entries.below_all}
use Rattle.pf_addr.specs.Address.{PlainNet}
use Rattle.pf_table.specs.Entries.{PlainEntry}
use Rattle.pf_addr.specs.NetOrder.{net_order}
use Rattle.pf_map.proofs.Tests.{first_of, second_of, less_of}

-- ---- what comes after a network

abbrev pub below : PlainNet → List PlainEntry → Type 0
below x es = T (below_all net_order x es)

abbrev pub sorted : List PlainEntry → Type 0
sorted es = T (is_sorted net_order es)

pub below_at : (x : PlainNet) (es : List PlainEntry) (j : ℕ) (d : PlainEntry) → below x es → j < length es → net_order x (get_or es j d).0 ≡ Less
below_at x [] j d h lt = absurd (omega arith)
below_at x (e ∷ es) zero d h lt = less_of _ (first_of _ _ h)
below_at x (e ∷ es) (suc j) d h lt = below_at x es j d (second_of _ _ h) (omega arith)
