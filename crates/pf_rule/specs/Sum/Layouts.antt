-- The layout of a rule's form: which bytes are some rule's, and what they mean. Ports are tested only with a protocol that has ports, a
-- network appears only with a family, which is its own, only a rule that passes keeps state, and only a rule that decides has a label.
-- Versions before `LABELS_FROM` have no labels: a form is 204 bytes there, with 0 for the label's length.
use Rattle.std.specs.Prelude.{ℕ, ◌==◌, ◌||◌, nat_le, nat_lt, Bool, false, List, [], ◌∷◌, length, replicate, is_none, Option, Some, None, unwrap_or, if◌then◌else◌}
use Rattle.std.proofs.Common.{inl, inr}
use Rattle.pf_addr.specs.declared.{addr.Family.Family, path.limits.TheConstants.TABLE_NAME_LIMIT}
use Rattle.pf_addr.specs.{NetForms.{family, family_byte, address_in, first_number, is_network}, Path.PathForms.{is_name, name_field, ReferenceShape, reference_form, plain_reference}}
use Rattle.pf_form.specs.Bytes.{Forms.{Shape, unit, nat, both, either, list, Value, ByteForm, nothing, number, front, back, or, pair, pair_by, times, that}, Codes.{below, flag, flag_byte}, Names.filled}
use Rattle.pf_rule.specs.declared.{value.interface.TheConstants.INTERFACE_LIMIT, value.label.TheConstants.LABEL_LIMIT, sum.layout.TheConstants.LABELS_FROM, value.ports.PortTest.PortTest, host.host.Host.{Host, TheVariants.Any, TheVariants.Net, TheVariants.Table}, rule.Effect.{Effect, TheVariants.Decide, TheVariants.Evaluate}}
use Rattle.pf_rule.specs.{Value.Values.has_ports, Rules.PlainRule, Sum.Forms.{test_byte, first_port, second_port, effect_byte, keeps_state, direction_byte}}

-- ---- the test of a port

-- the test, and its two numbers
abbrev pub TestShape : Shape
TestShape = both nat (both nat nat)

-- zeros, one port or both, by the test
abbrev pub ports_by : ℕ → ByteForm (both nat nat)
ports_by test =
    if test == 0 then front (replicate 4 0) (nothing (0, 0))
    else if nat_lt test 7 then pair (number 2) (front (0 ∷ 0 ∷ []) (nothing 0))
    else pair (number 2) (number 2)

-- if ports may be tested; otherwise no test
unfoldable pub port_test : Bool → ByteForm TestShape
port_test ports = pair_by (below (if ports then 10 else 1)) ports_by

abbrev pub plain_test : Option PortTest → Value TestShape
plain_test p = (test_byte p, (first_port p, second_port p))

-- ---- a host and the test of its port

abbrev pub NetworkShape : Shape
NetworkShape = both nat (both nat (both TestShape nat))

abbrev pub TableShape : Shape
TableShape = both nat (both TestShape (list nat))

abbrev pub EndShape : Shape
EndShape = either TestShape (either NetworkShape TableShape)

-- a rule's family, if it has one
abbrev pub FamilyShape : Shape
FamilyShape = either unit nat

-- negated, the prefix length, the port test, the first address; none in a rule without a family
unfoldable pub network_end : Bool → Value FamilyShape → ByteForm NetworkShape
network_end ports (inl u) = that (λ e. false) (nothing (0, (0, ((0, (0, 0)), 0))))
network_end ports (inr f) =
    that (λ e. is_network f e.1.0 e.1.1.1) (pair flag (pair (number 1) (pair (port_test ports) (back (address_in f) (replicate 32 0)))))

-- negated, the port test, the name
unfoldable pub table_end : Bool → ByteForm TableShape
table_end ports = pair flag (front (0 ∷ []) (pair (port_test ports) (front (replicate 16 0) (name_field TABLE_NAME_LIMIT 32))))

unfoldable pub end : Bool → Value FamilyShape → ByteForm EndShape
end ports f =
    or 0 (front (0 ∷ 0 ∷ []) (back (port_test ports) (replicate 48 0)))
    (or 1 (network_end ports f) (front (2 ∷ []) (table_end ports)))

abbrev pub plain_end : Host → Option PortTest → Value EndShape
plain_end Any p = inl (plain_test p)
plain_end (Net n negated) p = inr (inl (flag_byte negated, (n.len, (plain_test p, first_number n))))
plain_end (Table name negated) p = inr (inr (flag_byte negated, (plain_test p, filled 32 name)))

-- ---- a rule

unfoldable pub some_family : ByteForm FamilyShape
some_family = or 0 (nothing tt) family

abbrev pub plain_family : Option Family → Value FamilyShape
plain_family None = inl tt
plain_family (Some f) = inr (family_byte f)

abbrev pub InterfaceShape : Shape
InterfaceShape = either unit (list nat)

unfoldable pub interface : ByteForm InterfaceShape
interface = or 0 (front (replicate 15 0) (nothing tt)) (name_field INTERFACE_LIMIT 16)

abbrev pub plain_interface : Option (List ℕ) → Value InterfaceShape
plain_interface None = inl tt
plain_interface (Some name) = inr (filled 16 name)

-- a label's length, and the label
abbrev pub LabelShape : Shape
LabelShape = both nat (list nat)

-- whether forms of a version have labels
abbrev pub has_labels : ℕ → Bool
has_labels version = nat_le LABELS_FROM version

abbrev pub is_label : Value LabelShape → Bool
is_label l = (l.0 == 0) || is_name LABEL_LIMIT l.1

-- its length, two zeros and the label; length 0 is no label
unfoldable pub label_form : Bool → ByteForm LabelShape
label_form labels =
    if labels then that is_label (pair_by (number 1) (λ n. front (0 ∷ 0 ∷ []) (times n (number 1))))
    else front (replicate 3 0) (nothing (0, []))

abbrev pub plain_label : Option (List ℕ) → Value LabelShape
plain_label None = (0, [])
plain_label (Some label) = (length label, label)

abbrev pub EndingShape : Shape
EndingShape = both ReferenceShape LabelShape

-- what an anchor rule names; for another rule zeros in its place, and then its label
unfoldable pub named : Bool → Bool → ByteForm EndingShape
named labels anchors =
    if anchors then pair reference_form (nothing (0, [])) else front (replicate 65 0) (pair (nothing ([], 0)) (label_form labels))

abbrev pub plain_named : Effect → Value ReferenceShape
plain_named (Decide a) = ([], 0)
plain_named (Evaluate r) = plain_reference r

abbrev pub plain_ending : Effect → Option (List ℕ) → Value EndingShape
plain_ending e label = (plain_named e, plain_label label)

abbrev pub BodyShape : Shape
BodyShape = both InterfaceShape (both EndShape (both EndShape EndingShape))

abbrev pub RuleShape : Shape
RuleShape = both nat (both nat (both nat (both nat (both FamilyShape (both nat BodyShape)))))

-- the interface, the two ends, and what an anchor rule names or the label
abbrev pub body : Bool → Bool → Bool → Value FamilyShape → ByteForm BodyShape
body labels anchors ports f = pair interface (pair (end ports f) (pair (end ports f) (named labels anchors)))

-- in a version
unfoldable pub rule_layout : ℕ → ByteForm RuleShape
rule_layout version = pair_by (below 3) (λ effect. pair (below 3) (pair flag (pair (below (if effect == 1 then 2 else 1))
    (pair_by some_family (λ f. pair_by (number 1) (λ protocol. front (0 ∷ 0 ∷ []) (body (has_labels version) (effect == 2) (has_ports protocol) f)))))))

abbrev pub plain_rule : PlainRule → Value RuleShape
plain_rule r = (
  effect_byte r.effect,
  (
    direction_byte r.direction,
    (
      flag_byte r.quick,
      (
        flag_byte (keeps_state r.effect),
        (
          plain_family r.family,
          (
            unwrap_or r.protocol 0,
            (
              plain_interface r.interface,
              (plain_end r.source r.source_port, (plain_end r.destination r.destination_port, plain_ending r.effect r.label)),
            ),
          ),
        ),
      ),
    ),
  ),
)

-- ---- versions

-- A version allows a rule if its forms have labels, or the rule has none.
abbrev pub allows : ℕ → PlainRule → Bool
allows version r = has_labels version || is_none r.label
