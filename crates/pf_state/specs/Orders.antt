-- The orders of names, of expiries and of flows' keys are total, in each only equal items tie, and hints rise with them.
use Rattle.std.specs.{Prelude.{◌≡◌, ℕ, zero, suc, T}, Cmp.{IsTotalOrder, then_total, on_total, nat_cmp_total}, FinMap.{IsAntisymmetric, nat_cmp-IsAntisymmetric}, Ordering.{ordering_then, is_eq, nat_cmp}}
use Rattle.std.specs.declared.{cmp.Ordering.Ordering, cmp.Ordering.TheVariants.Less, cmp.Ordering.TheVariants.Equal, cmp.Ordering.TheVariants.Greater}
use Rattle.std.proofs.Common.{refl, sym, ap, ◌∙◌, subst}
use Rattle.pf_addr.specs.declared.{addr.Addr.Addr, addr.Addr.TheVariants.V4, addr.Addr.TheVariants.V6}
use Rattle.pf_key.specs.Keys.{RisesWith, pairs_rise, numbers_rise, pair_order, pairs_alike}
use Rattle.pf_state.specs.{declared.{dues.Due.Due, flow_key.FlowEnds.FlowEnds, state.StateName.StateName}, Dues.due_order, FlowKeys.{family_rank, number_of, addr_order, ends_order, mixed, key_order}, States.name_order}

-- ---- names

pub name_total : IsTotalOrder name_order
name_total = then_total (on_total (λ (n : StateName). n.id) nat_cmp_total) (on_total (λ (n : StateName). n.creator) nat_cmp_total)

pub name_alike : IsAntisymmetric name_order
name_alike a b tied =
    let pair : (a.id, a.creator) ≡ (b.id, b.creator) = pairs_alike nat_cmp-IsAntisymmetric nat_cmp-IsAntisymmetric (a.id, a.creator) (b.id, b.creator) tied in
    λ i. record { id = (pair i).0; creator = (pair i).1 }

-- ---- expiries

pub due_total : IsTotalOrder due_order
due_total = then_total (on_total (λ (d : Due). d.expiry) nat_cmp_total) (on_total (λ (d : Due). d.name) name_total)

pub due_alike : IsAntisymmetric due_order
due_alike a b tied =
    let pair : (a.expiry, a.name) ≡ (b.expiry, b.name) = pairs_alike {R = nat_cmp} {S = name_order} nat_cmp-IsAntisymmetric name_alike (a.expiry, a.name) (b.expiry, b.name) tied in
    λ i. record { expiry = (pair i).0; name = (pair i).1 }

-- ---- keys

addr_total : IsTotalOrder addr_order
addr_total = then_total (on_total family_rank nat_cmp_total) (on_total number_of nat_cmp_total)

-- an address of this family with this number
addr_by : ℕ → ℕ → Addr
addr_by zero n = V4 n
addr_by (suc rank) n = V6 n

addr_back : (a : Addr) → addr_by (family_rank a) (number_of a) ≡ a
unfolding addr_by
addr_back (V4 n) = refl
addr_back (V6 n) = refl

addr_alike : IsAntisymmetric addr_order
addr_alike a b tied =
    let both : (family_rank a, number_of a) ≡ (family_rank b, number_of b) = pairs_alike nat_cmp-IsAntisymmetric nat_cmp-IsAntisymmetric (family_rank a, number_of a) (family_rank b, number_of b) tied in
    sym (addr_back a) ∙ ap (λ (p : ℕ × ℕ). addr_by p.0 p.1) both ∙ addr_back b

ends_total : IsTotalOrder ends_order
ends_total =
    then_total (on_total (λ (e : FlowEnds). e.protocol) nat_cmp_total)
    (then_total (on_total (λ (e : FlowEnds). e.source_port) nat_cmp_total)
    (then_total (on_total (λ (e : FlowEnds). e.destination_port) nat_cmp_total)
    (then_total (on_total (λ (e : FlowEnds). e.source) addr_total)
    (on_total (λ (e : FlowEnds). e.destination) addr_total))))

pub key_total : IsTotalOrder key_order
key_total = then_total (on_total mixed nat_cmp_total) ends_total

abbrev fields_of : FlowEnds → ℕ × (ℕ × (ℕ × (Addr × Addr)))
fields_of e = (e.protocol, (e.source_port, (e.destination_port, (e.source, e.destination))))

fields_alike : IsAntisymmetric (pair_order nat_cmp (pair_order nat_cmp (pair_order nat_cmp (pair_order addr_order addr_order))))
fields_alike =
    pairs_alike {R = nat_cmp} {S = pair_order nat_cmp (pair_order nat_cmp (pair_order addr_order addr_order))} nat_cmp-IsAntisymmetric
    (pairs_alike {R = nat_cmp} {S = pair_order nat_cmp (pair_order addr_order addr_order)} nat_cmp-IsAntisymmetric
    (pairs_alike {R = nat_cmp} {S = pair_order addr_order addr_order} nat_cmp-IsAntisymmetric
    (pairs_alike {R = addr_order} {S = addr_order} addr_alike addr_alike)))

ends_alike : IsAntisymmetric ends_order
ends_alike a b tied =
    let same : fields_of a ≡ fields_of b = fields_alike (fields_of a) (fields_of b) tied in
    λ i. record { protocol = (same i).0; source_port = (same i).1.0; destination_port = (same i).1.1.0; source = (same i).1.1.1.0; destination = (same i).1.1.1.1 }

second_ties : (r s : Ordering) → ordering_then r s ≡ Equal → s ≡ Equal
second_ties Less s tied = absurd (subst (λ r. T (is_eq r)) (sym tied) tt)
second_ties Equal s tied = tied
second_ties Greater s tied = absurd (subst (λ r. T (is_eq r)) (sym tied) tt)

pub key_alike : IsAntisymmetric key_order
key_alike a b tied = ends_alike a b (second_ties (nat_cmp (mixed a) (mixed b)) (ends_order a b) tied)

-- ---- hints

pub names_rise : RisesWith name_order (λ n. n.id)
names_rise a b less = pairs_rise nat_cmp nat_cmp (λ n. n) numbers_rise (a.id, a.creator) (b.id, b.creator) less

pub keys_rise : RisesWith key_order mixed
keys_rise a b less = pairs_rise nat_cmp ends_order (λ n. n) numbers_rise (mixed a, a) (mixed b, b) less

pub dues_rise : RisesWith due_order (λ d. d.expiry)
dues_rise a b less = pairs_rise nat_cmp name_order (λ n. n) numbers_rise (a.expiry, a.name) (b.expiry, b.name) less
