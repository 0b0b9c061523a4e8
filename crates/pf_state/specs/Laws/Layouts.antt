-- Laws of the layouts of flows, states and steps.
use Rattle.std.proofs.{Common.{◌≡◌, ◌<◌, ◌==◌, ◌&&◌, ◌||◌, ℕ, Bool, true, false, List, [], ◌∷◌, suc, slice_index, refl, sym, subst, arith}, lemmas.Bool.Decides.nat_tests}
use Rattle.std.specs.List.{AllByRecursion}
use Rattle.pf_addr.specs.{Address.{IsAddr, family_of}, declared.addr.{Addr.{Addr, TheVariants.{V4, V6}}, Family.Family}}
use Rattle.pf_form.specs.Bytes.Forms.{Fits, number}
use Rattle.pf_rule.specs.{Bytes.{direction_byte, family_byte}, Value.Values.{IsProtocol, has_ports}, declared.{value.direction.Direction.Direction, value.direction.Direction.TheVariants.In, value.direction.Direction.TheVariants.Out}}
use Rattle.pf_state.specs.{Flows.{PlainFlow, IsFlow}, Layouts.Flows.{direction_form, family_form, protocol_form, addr_form, ports_form, flow_form, plain_addr, plain_flow}}

direction_fits : (d : Direction) → Fits direction_form (direction_byte d)
unfolding direction_form
direction_fits In = (omega arith, refl)
direction_fits Out = (omega arith, refl)

family_fits : (a : Addr) → Fits family_form (family_byte (family_of a))
unfolding family_form
family_fits (V4 n) = (omega arith, refl)
family_fits (V6 n) = (omega arith, refl)

protocol_fits : (p : ℕ) → IsProtocol p → Fits protocol_form p
unfolding protocol_form
protocol_fits p is = (is.1, grind (arith, nat_tests))

addr_fits : (a : Addr) → IsAddr a → Fits (addr_form (family_byte (family_of a))) (plain_addr a)
addr_fits (V4 n) is = (refl, is)
addr_fits (V6 n) is = (refl, is)

no_ports : (b : Bool) (m n : ℕ) → (b ≡ false → (m ≡ 0) × (n ≡ 0)) → (b || ((m == 0) && (n == 0))) ≡ true
no_ports true m n none = refl
no_ports false m n none = let are = none refl in rw (are.0, are.1) refl

ports_fit : (f : PlainFlow) → IsFlow f → Fits (ports_form f.protocol) (f.source_port, f.destination_port)
unfolding ports_form
ports_fit f is = (is.ports, no_ports (has_ports f.protocol) f.source_port f.destination_port is.no_ports)

-- each flow can be written
pub flow_fits : (f : PlainFlow) → IsFlow f → Fits flow_form (plain_flow f)
unfolding flow_form
flow_fits f is = (
  direction_fits f.direction,
  (
    family_fits f.source,
    (
      protocol_fits f.protocol is.protocol,
      (
        addr_fits f.source is.addresses.0,
        (
          subst (λ (k : Family). Fits (addr_form (family_byte k)) (plain_addr f.destination)) (sym is.families) (addr_fits f.destination is.addresses.1),
          ports_fit f is,
        ),
      ),
    ),
  ),
)

-- a checksum can be written
pub bytes_fit : (bytes : List ℕ) → ((i : ℕ) → slice_index bytes i < 256) → AllByRecursion (Fits (number 1)) bytes
bytes_fit [] each = tt
bytes_fit (b ∷ bytes) each = (each 0, bytes_fit bytes (λ i. each (suc i)))
