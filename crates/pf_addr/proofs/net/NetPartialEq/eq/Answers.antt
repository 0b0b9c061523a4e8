use Rattle.std.proofs.{Common.{◌≡◌, ◌==◌, ◌&&◌, Bool, true, false, refl, rules}, Math.Bool.and_comm}
use denote.Enum.Bare.{sameb}
use Rattle.pf_addr.specs.{contracts.addr.Family.the_type, Address.PlainNet, Nets.{network_in, IsWithin, inside_of, filled}}
use Rattle.pf_addr.specs.declared.{addr.Family.Family, net.Net.TheInside.Inside}
use Rattle.pf_addr.proofs.net.NetPartialEq.eq.Goals as goal

turned : (a b c : Bool) → ((a && b) && c) ≡ (a && (c && b))
turned true b c = and_comm b c
turned false b c = refl

nets_equal : (same : Family → Family → Bool) (x y : Inside) (m n : PlainNet) (p q r : Bool) → IsWithin x → network_in x ≡ m → IsWithin y → network_in y ≡ n → p ≡ (x.number == y.number) → q ≡ (p && (x.len == y.len)) → r ≡ (q && same x.family y.family) → r ≡ (((inside_of m).number == (inside_of n).number) && (same m.family n.family && (m.len == n.len)))
nets_equal same x y m n p q r is_x at_x is_y at_y e f g = rw (← at_x, ← at_y, filled x is_x, filled y is_y, g, f, e) (turned (x.number == y.number) (x.len == y.len) (same x.family y.family))

pub returns : goal.returns
returns c = nets_equal (sameb the_type) _ _ c.args.self.now c.args.other.now c.eq.result c.and_eq.result c.and_eq-2.result (search rules) (search rules) (search rules) (search rules) c.eq.ensures c.and_eq.ensures c.and_eq-2.ensures
