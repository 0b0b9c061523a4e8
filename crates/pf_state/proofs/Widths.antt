-- How many bytes stored states take: 96 each.
use Rattle.std.proofs.{Common.{◌≡◌, ◌+◌, ◌*◌, ℕ, true, List, [], ◌∷◌, length, refl, arith}, lemmas.{Bool.{and_parts, Decides.nat_tests}, List.Sums.{sum_by-cons}}}
use Rattle.std.specs.List.{sum_by}
use Rattle.pf_addr.specs.{Address.family_of, declared.addr.Addr.{Addr, TheVariants.{V4, V6}}}
use Rattle.pf_form.specs.Bytes.Forms.{Value, length_of}
use Rattle.pf_rule.specs.Bytes.{family_byte}
use Rattle.pf_state.specs.{declared.{state.Bound.Bound, state.Bound.TheVariants.Rule, state.Bound.TheVariants.Default}, Flows.PlainFlow, States.{PlainState, is_whole, are_whole}}
use Rattle.pf_state.specs.Layouts.{Flows.{direction_form, family_form, protocol_form, AddrShape, addr_form, ports_form, flow_form, plain_flow}, States.{name_form, bound_form, plain_bound, has_expiry, held_form, state_form, plain_state, states_form, plain_states}}
use Rattle.pf_state.proofs.Expiries.{expiry_long}

ones : (bytes : List ℕ) → sum_by (λ b. 1) bytes ≡ length bytes
ones [] = refl
ones (b ∷ bytes) = omega (arith, sum_by-cons (λ b. 1) b bytes, ones bytes)

addr_long : (a : Addr) (x : Value AddrShape) → length_of (addr_form (family_byte (family_of a))) x ≡ 16
addr_long (V4 n) x = refl
addr_long (V6 n) x = refl

flow_long : (f : PlainFlow) → length_of flow_form (plain_flow f) ≡ 40
unfolding flow_form direction_form family_form protocol_form ports_form
flow_long f =
    omega (arith, addr_long f.source (plain_flow f).1.1.1.0, addr_long f.source (plain_flow f).1.1.1.1.0)

bound_long : (b : Bound) → is_whole b ≡ true → length_of bound_form (plain_bound b) ≡ 24
unfolding bound_form
bound_long Default whole = refl
bound_long (Rule n sum) whole = let sixteen : length sum ≡ 16 = grind (arith, nat_tests, whole) in omega (arith, ones sum, sixteen)

pub state_long : (version : ℕ) (s : PlainState) → is_whole s.1.bound ≡ true → length_of (state_form version) (plain_state s) ≡ 96
unfolding state_form name_form held_form
state_long version s whole = omega (arith, flow_long s.1.flow, bound_long s.1.bound whole, expiry_long (has_expiry version) s.1.expiry)

each_long : (version : ℕ) (es : List PlainState) → are_whole es ≡ true → sum_by (length_of (state_form version)) (plain_states es) ≡ 96 * length es
each_long version [] whole = refl
each_long version (s ∷ es) whole =
    let parts = and_parts (is_whole s.1.bound) (are_whole es) whole in
    omega (
      arith,
      sum_by-cons (length_of (state_form version)) (plain_state s) (plain_states es),
      state_long version s parts.0,
      each_long version es parts.1,
    )

pub states_long : (version : ℕ) (es : List PlainState) → are_whole es ≡ true → length_of (states_form version) (plain_states es) ≡ 4 + 96 * length es
unfolding states_form
states_long version es whole = omega (arith, each_long version es whole)
