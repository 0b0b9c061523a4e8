-- What the data of a rule's layout mean. For data that no rule has, nothing is said.
use Rattle.std.specs.Prelude.{ℕ, ◌==◌, List, Option, Some, None, if◌then◌else◌}
use Rattle.std.proofs.Common.{inl, inr}
use Rattle.pf_addr.specs.{declared.addr.Family.Family, NetForms.{family_of_byte, network_at}, Path.PathForms.{ReferenceShape, reference_of_plain}}
use Rattle.pf_form.specs.Bytes.{Forms.Value, Names.before_zero}
use Rattle.pf_rule.specs.declared.{value.direction.Direction.{Direction, TheVariants.In, TheVariants.Out}, value.ports.{Comparison.TheVariants.{Equal, NotEqual, Less, AtMost, Greater, AtLeast}, PortRange.TheVariants.{Including, Excluding, Except}, PortTest.{PortTest, TheVariants.Compared, TheVariants.Ranged}}, host.host.Host.{Host, TheVariants.Any, TheVariants.Net, TheVariants.Table}, rule.{Effect.{Effect, TheVariants.Decide, TheVariants.Evaluate}, Action.TheVariants.{Pass, Block}}}
use Rattle.pf_rule.specs.{Rules.PlainRule, Sum.Layouts.{TestShape, EndShape, FamilyShape, InterfaceShape, LabelShape, RuleShape}}

-- the test of this number, with these ports
abbrev pub numbered_test : ℕ → ℕ → ℕ → Option PortTest
numbered_test test a b =
    if test == 1 then Some (Compared Equal a)
    else if test == 2 then Some (Compared NotEqual a)
    else if test == 3 then Some (Compared Less a)
    else if test == 4 then Some (Compared AtMost a)
    else if test == 5 then Some (Compared Greater a)
    else if test == 6 then Some (Compared AtLeast a)
    else if test == 7 then Some (Ranged Including a b)
    else if test == 8 then Some (Ranged Excluding a b)
    else if test == 9 then Some (Ranged Except a b)
    else None

abbrev pub test_of : Value TestShape → Option PortTest
test_of t = numbered_test t.0 t.1.0 t.1.1

abbrev pub family_number : Value FamilyShape → ℕ
family_number (inl u) = 0
family_number (inr f) = f

abbrev pub family_in : Value FamilyShape → Option Family
family_in (inl u) = None
family_in (inr f) = Some (family_of_byte f)

-- in a rule of this family
abbrev pub host_of : Value FamilyShape → Value EndShape → Host
host_of f (inl p) = Any
host_of f (inr (inl e)) = Net (network_at (family_number f) e.1.0 e.1.1.1) (e.0 == 1)
host_of f (inr (inr e)) = Table (before_zero e.1.1) (e.0 == 1)

abbrev pub port_of : Value EndShape → Option PortTest
port_of (inl p) = test_of p
port_of (inr (inl e)) = test_of e.1.1.0
port_of (inr (inr e)) = test_of e.1.0

abbrev pub effect_of : ℕ → ℕ → Value ReferenceShape → Effect
effect_of effect keeps names =
    if effect == 0 then Decide Block else if effect == 1 then Decide (Pass (keeps == 1)) else Evaluate (reference_of_plain names)

abbrev pub direction_of : ℕ → Option Direction
direction_of b = if b == 1 then Some In else if b == 2 then Some Out else None

abbrev pub protocol_of_byte : ℕ → Option ℕ
protocol_of_byte b = if b == 0 then None else Some b

abbrev pub interface_of : Value InterfaceShape → Option (List ℕ)
interface_of (inl u) = None
interface_of (inr name) = Some (before_zero name)

abbrev pub label_of : Value LabelShape → Option (List ℕ)
label_of l = if l.0 == 0 then None else Some l.1

unfoldable pub rule_of : Value RuleShape → PlainRule
rule_of (effect, (direction, (quick, (keeps, (f, (protocol, (interface, (source, (destination, (names, label)))))))))) = record {
  source = host_of f source;
  destination = host_of f destination;
  effect = effect_of effect keeps names;
  label = label_of label;
  interface = interface_of interface;
  source_port = port_of source;
  destination_port = port_of destination;
  direction = direction_of direction;
  quick = quick == 1;
  family = family_in f;
  protocol = protocol_of_byte protocol;
}
