-- What words spell has what every test of a value maintains.
use Rattle.std.proofs.{Common.{◌≡◌, ℕ, ◌<◌, Bool, true, false, List, Option, Some, None, Result, Ok, Err, refl, subst, arith}, lemmas.Bool.Decides.nat_tests}
use Rattle.std.specs.{Prelude.{◌+◌, take, drop, IfSome, IfOk}, List.position}
use Rattle.pf_addr.specs.declared.addr.Addr.{Addr}
use Rattle.pf_form.specs.declared.form.fault.Kind.{Kind}
use Rattle.pf_addr.specs.{Address.IsAddr, Laws.{Spelling.IsAddr-spelled, Reading.addr_found}, Path.References.unquoted, Reading.addr_at}
use Rattle.pf_form.specs.Form.{Words.Word, Forms.{Spells, ◌>>=◌}}
use Rattle.pf_addr.proofs.NamesRead.{name_found}
use Rattle.pf_rule.specs.declared.{value.interface.TheConstants.INTERFACE_LIMIT, value.label.TheConstants.LABEL_LIMIT, value.ports.Comparison.Comparison, value.ports.PortRange.PortRange, value.ports.PortRange.TheVariants.Including, value.ports.PortTest.PortTest, value.ports.PortTest.TheVariants.{Compared, Ranged}, value.port_words.PortStart.PortStart, value.port_words.PortStart.TheVariants.{Test, Number}}
use Rattle.pf_rule.specs.{Value.Values.{IsInterfaceName, IsProtocol, IsLabel, interface_of, protocol_of, label_of, address_of, port_of}, Value.Tests.{interface, protocol}, Value.Ports.{IsPortTest, is_colon, split_operator, joined, number_or, start_at, start_of, is_number, test_with, range_end, compared, ranged, order_or_range, port_test, port}}

-- ---- one word

addr_is : (w : List ℕ) (a : Addr) → addr_at w ≡ Ok a → IsAddr a
addr_is w a e = IsAddr-spelled w a (addr_found w a e)

pub interface_kept : (w n : Word) → interface_of w ≡ Ok n → IsInterfaceName n
interface_kept w n e = (name_found INTERFACE_LIMIT w n e).0

pub protocol_kept : (w : Word) (n : ℕ) → protocol_of w ≡ Ok n → IsProtocol n
protocol_kept w n e = grind (arith, nat_tests)

pub label_kept : (w l : Word) → label_of w ≡ Ok l → IsLabel l
label_kept w l e = (name_found LABEL_LIMIT (unquoted w) l e).0

pub address_kept : (w : Word) (a : Addr) → address_of w ≡ Ok a → IsAddr a
address_kept w a e = grind (arith, addr_is)

-- a port is 0 if the protocol has none
pub port_kept : (ports : Bool) (w : Word) (n : ℕ) → port_of ports w ≡ Ok n → (n < 65536) × (ports ≡ false → n ≡ 0)
port_kept ports w n e = grind (arith, nat_tests)

-- ---- a test of the interface or the protocol

pub interface_is : (i : Option Word) (ws : List Word) → Spells interface i ws → IfSome i IsInterfaceName
unfolding interface
interface_is i ws h = grind (arith, interface_kept)

pub protocol_is : (o : Option ℕ) (ws : List Word) → Spells protocol o ws → IfSome o IsProtocol
unfolding protocol
protocol_is o ws h = grind (arith, protocol_kept)

-- ---- a test of a port

abbrev StartIs : PortStart → Type 0
StartIs (Test t) = IsPortTest t
StartIs (Number n) = n < 65536

abbrev Small : Result ℕ Kind → Type 0
Small r = (n : ℕ) → r ≡ Ok n → n < 65536

joined_is : (operator : Comparison) (r : Result ℕ Kind) (s : PortStart) → Small r → (r >>= (λ n. Ok (Test (Compared operator n)))) ≡ Ok s → StartIs s
joined_is operator (Ok n) s is e = subst (λ (a : Result PortStart Kind). IfOk a StartIs) e (is n refl)
joined_is operator (Err k) s is e = absurd cc

both_are : (a b : Result ℕ Kind) (s : PortStart) → Small a → Small b → (a >>= (λ first. b >>= λ last. Ok (Test (Ranged Including first last)))) ≡ Ok s → StartIs s
both_are (Ok m) (Ok n) s p q e = subst (λ (a : Result PortStart Kind). IfOk a StartIs) e (p m refl, q n refl)
both_are (Ok m) (Err k) s p q e = absurd cc
both_are (Err k) b s p q e = absurd cc

start_kept : (w : Word) (s : PortStart) → start_of w ≡ Ok s → StartIs s
start_kept w s e = by (position is_colon w) e where
  number_is : (v : Word) → Small (port_of true v)
  number_is v n e = (port_kept true v n e).0

  operator_is : (o : Option (Comparison × Word)) → joined o ≡ Ok s → StartIs s
  operator_is None e = absurd cc
  operator_is (Some x) e = joined_is x.0 (port_of true x.1) s (number_is x.1) e

  alone : (r : Result ℕ Kind) → Small r → number_or r (joined (split_operator w)) ≡ Ok s → StartIs s
  alone (Ok n) is e = subst (λ (a : Result PortStart Kind). IfOk a StartIs) e (is n refl)
  alone (Err k) is e = operator_is (split_operator w) e

  by : (o : Option ℕ) → start_at w o ≡ Ok s → StartIs s
  by None e = alone (port_of true w) (number_is w) e
  by (Some i) e = both_are (port_of true (take i w)) (port_of true (drop (i + 1) w)) s (number_is (take i w)) (number_is (drop (i + 1) w)) e

range_end_is : (following : Bool) (o : Option (PortRange × ℕ)) (ws : List Word) → Spells (range_end following) o ws → IfSome o (λ x. x.1 < 65536)
unfolding range_end
range_end_is true o ws s = grind (arith, port_kept)
range_end_is false o ws s = grind arith

compared_is : (operator : Comparison) (t : PortTest) (ws : List Word) → Spells (compared operator) t ws → IsPortTest t
unfolding compared
compared_is operator t ws (n, (w, read, ew), is) = rw is (port_kept true w n read).0

ranged_is : (t : PortTest) (ws : List Word) → Spells ranged t ws → IsPortTest t
unfolding ranged
ranged_is t ws (x, (a, b, (w, start, ew), end, eb), is) = rw is (by x.0 x.1 (start_kept w x.0 start) (range_end_is (is_number x.0) x.1 b end)) where
  by : (s : PortStart) (o : Option (PortRange × ℕ)) → StartIs s → IfSome o (λ y. y.1 < 65536) → IsPortTest (test_with (s, o))
  by (Number n) None p q = p
  by (Number n) (Some y) p q = (p, q)
  by (Test t) o p q = p

order_or_range_is : (t : PortTest) (ws : List Word) → Spells order_or_range t ws → IsPortTest t
unfolding order_or_range
order_or_range_is t ws s = grind (arith, compared_is, ranged_is)

test_is : (t : PortTest) (ws : List Word) → Spells port_test t ws → IsPortTest t
unfolding port_test
test_is t ws s = grind (arith, compared_is, order_or_range_is)

pub port_is : (o : Option PortTest) (ws : List Word) → Spells port o ws → IfSome o IsPortTest
unfolding port
port_is o ws s = grind (arith, test_is)
