-- A rule's form is what its layout writes of its data in a version that allows the rule; such a rule fits it, and is read back from the data.
use Rattle.std.proofs.{Common.{◌≡◌, ◌-◌, ◌<◌, ◌≤◌, ◌==◌, ◌+◌, ◌||◌, ℕ, zero, suc, Bool, true, false, List, [], ◌∷◌, ◌++◌, length, replicate, Option, Some, None, refl, sym, ap, subst, ◌∙◌, append_assoc, arith}, lemmas.Bool.and_parts, lemmas.Bool.Decides.nat_tests, lemmas.List.{length-append, length-replicate}, Math.Nat.mod-eq_of_lt}
use Rattle.std.specs.{Prelude.{unwrap_or, is_none, is_ok, IfSome, not, if◌then◌else◌}, List.{AllByRecursion, list_all}}
use Rattle.byteorder.specs.Endian.{big_bytes}
use Rattle.pf_addr.specs.declared.{addr.Family.{Family, TheVariants.V4, TheVariants.V6}, path.limits.TheConstants.TABLE_NAME_LIMIT}
use Rattle.pf_addr.specs.{Address.PlainNet, NetForms.{family, family_byte, address_in, first_number}, Path.{Names.{is_name_byte, IsName}, PathForms.{is_name, name_field, reference_form}}, Spelling.first_addr, Laws.NetForms.{family_fits, length_fits, address_fits, network_is, network_again}}
use Rattle.pf_form.specs.{Bytes.{BasicForms.{Bytes, number_bytes, begins_otherwise, constant_at}, Forms.{Shape, nat, both, Value, ByteForm, Fits, Spells, number, front, pair, pair_by, times, writes, reads, onto, length_of}, Codes.{below, flag, flag_byte}}, Laws.Bytes.{Codes.{flag_fits, flag_again}, Lengths.length_is, Onto.onto_is, Steps.leaves, Texts.one_value}}
use Rattle.pf_form.specs.Bytes.Names as fields
use Rattle.pf_addr.proofs.{NamesRead.name_only, PathBytes.{name_fits, name_again, reference_fits, reference_again}}
use Rattle.pf_form.proofs.BytesRead.{written_bytes}
use Rattle.pf_rule.specs.Sum.Forms as forms
use Rattle.pf_rule.specs.declared.{value.interface.TheConstants.INTERFACE_LIMIT, value.label.TheConstants.LABEL_LIMIT, sum.layout.TheConstants.LABELS_FROM, value.direction.Direction.{Direction, TheVariants.In, TheVariants.Out}, value.ports.{Comparison.TheVariants.{Equal, NotEqual, Less, AtMost, Greater, AtLeast}, PortRange.TheVariants.{Including, Excluding, Except}, PortTest.{PortTest, TheVariants.Compared, TheVariants.Ranged}}, host.host.Host.{Host, TheVariants.Any, TheVariants.Net, TheVariants.Table}, rule.{Effect.{Effect, TheVariants.Decide, TheVariants.Evaluate}, Action.TheVariants.{Pass, Block}}}
use Rattle.pf_rule.specs.{Bytes.{addr_bytes, addr_bytes-length}, Value.Values.{IsInterfaceName, IsLabel, IsProtocol, has_ports}, Value.Ports.{IsPortTest, ports_fit}, Rules.{PlainRule, HostFits, IsEffect, LabelFits, IsRule}, Sum.Forms.{filled, test_byte, first_port, second_port, host_form, address_bytes, table_name, effect_byte, keeps_state, direction_byte, names, wildcard, label_bytes, rule_form, whole_form}, Sum.Layouts.{plain_named, LabelShape, port_test, plain_test, network_end, table_end, EndShape, end, plain_end, FamilyShape, some_family, plain_family, InterfaceShape, interface, plain_interface, has_labels, label_form, plain_label, EndingShape, named, plain_ending, BodyShape, body, RuleShape, rule_layout, plain_rule, allows}, Sum.Reading.{test_of, host_of, port_of, effect_of, direction_of, family_in, protocol_of_byte, interface_of, label_of, rule_of}}
use Rattle.std.proofs.Math.Bool.{or-true}

-- ---- single bytes

one : (n : ℕ) → n < 256 → number_bytes 1 n ≡ n ∷ []
unfolding number_bytes
one n lt = rw (mod-eq_of_lt lt) refl

below_written : (limit n : ℕ) → n < 256 → writes (below limit) n ≡ n ∷ []
unfolding below
below_written limit n lt = one n lt

flag_low : (b : Bool) → flag_byte b < 256
flag_low true = omega arith
flag_low false = omega arith

-- ---- names in their fields

bytes_are : (bs : List ℕ) → AllByRecursion (Fits (number 1)) bs → Bytes bs
bytes_are [] all = tt
bytes_are (b ∷ bs) all = (omega (arith, all.0), bytes_are bs all.1)

field_fits : (limit width : ℕ) (name : List ℕ) → limit ≤ width → IsName limit name → AllByRecursion (Fits (number 1)) (fields.filled width name)
unfolding name_field
field_fits limit width name le is = (name_fits limit width name le is).0.0.1

field_written : (limit width : ℕ) (name : List ℕ) → limit ≤ width → IsName limit name → writes (name_field limit width) (fields.filled width name) ≡ filled width name
unfolding name_field filled
field_written limit width name le is = written_bytes (fields.filled width name) (bytes_are _ (field_fits limit width name le is))

-- ---- the test of a port

test_written : (ports : Bool) (p : Option PortTest) → writes (port_test ports) (plain_test p) ≡ test_byte p ∷ (big_bytes 2 (first_port p) ++ big_bytes 2 (second_port p))
unfolding port_test below number_bytes
test_written ports None = refl
test_written ports (Some (Compared Equal n)) = refl
test_written ports (Some (Compared NotEqual n)) = refl
test_written ports (Some (Compared Less n)) = refl
test_written ports (Some (Compared AtMost n)) = refl
test_written ports (Some (Compared Greater n)) = refl
test_written ports (Some (Compared AtLeast n)) = refl
test_written ports (Some (Ranged Including a b)) = refl
test_written ports (Some (Ranged Excluding a b)) = refl
test_written ports (Some (Ranged Except a b)) = refl

test_fits : (ports : Bool) (p : Option PortTest) → IfSome p IsPortTest → (ports ≡ false → p ≡ None) → Fits (port_test ports) (plain_test p)
unfolding port_test below
test_fits false None is none = ((omega arith, refl), refl)
test_fits false (Some t) is none = absurd (let e = none refl in cc)
test_fits true None is none = ((omega arith, refl), refl)
test_fits true (Some (Compared Equal n)) is none = ((omega arith, refl), (is, refl))
test_fits true (Some (Compared NotEqual n)) is none = ((omega arith, refl), (is, refl))
test_fits true (Some (Compared Less n)) is none = ((omega arith, refl), (is, refl))
test_fits true (Some (Compared AtMost n)) is none = ((omega arith, refl), (is, refl))
test_fits true (Some (Compared Greater n)) is none = ((omega arith, refl), (is, refl))
test_fits true (Some (Compared AtLeast n)) is none = ((omega arith, refl), (is, refl))
test_fits true (Some (Ranged Including a b)) is none = ((omega arith, refl), is)
test_fits true (Some (Ranged Excluding a b)) is none = ((omega arith, refl), is)
test_fits true (Some (Ranged Except a b)) is none = ((omega arith, refl), is)

test_again : (p : Option PortTest) → test_of (plain_test p) ≡ p
test_again None = refl
test_again (Some (Compared Equal n)) = refl
test_again (Some (Compared NotEqual n)) = refl
test_again (Some (Compared Less n)) = refl
test_again (Some (Compared AtMost n)) = refl
test_again (Some (Compared Greater n)) = refl
test_again (Some (Compared AtLeast n)) = refl
test_again (Some (Ranged Including a b)) = refl
test_again (Some (Ranged Excluding a b)) = refl
test_again (Some (Ranged Except a b)) = refl

-- ---- a host and the test of its port

address_written : (n : PlainNet) → writes (address_in (family_byte n.family)) (first_number n) ≡ addr_bytes (first_addr n)
unfolding number_bytes
address_written n = by n.family n.len n.front where
  by : (f : Family) (len first : ℕ) → writes (address_in (family_byte f)) (first_number (record { family = f; len = len; front = first })) ≡ addr_bytes (first_addr (record { family = f; len = len; front = first }))
  by V4 len first = refl
  by V6 len first = refl

end_written : (ports : Bool) (f : Option Family) (h : Host) (p : Option PortTest) → HostFits f h → writes (end ports (plain_family f)) (plain_end h p) ≡ host_form h p
unfolding end network_end table_end host_form filled
end_written ports f Any p is = rw (test_written ports p) refl
end_written ports f (Net n negated) p is =
    rw (is.0, below_written 2 (flag_byte negated) (flag_low negated), one n.len (length_fits n is.1), test_written ports p, address_written n) refl
end_written ports f (Table name negated) p is =
    rw (below_written 2 (flag_byte negated) (flag_low negated), test_written ports p, field_written TABLE_NAME_LIMIT 32 name (omega arith) is) refl

end_fits : (ports : Bool) (f : Option Family) (h : Host) (p : Option PortTest) → HostFits f h → IfSome p IsPortTest → (ports ≡ false → p ≡ None) → Fits (end ports (plain_family f)) (plain_end h p)
unfolding end network_end table_end
end_fits ports f Any p is kept none = test_fits ports p kept none
end_fits ports f (Net n negated) p is kept none =
    rw is.0 ((((flag_fits negated, (length_fits n is.1, (test_fits ports p kept none, address_fits n is.1))), network_is n is.1)), refl)
end_fits ports f (Table name negated) p is kept none =
    (((flag_fits negated, (test_fits ports p kept none, name_fits TABLE_NAME_LIMIT 32 name (omega arith) is)), refl), refl)

host_again : (f : Option Family) (h : Host) (p : Option PortTest) → HostFits f h → host_of (plain_family f) (plain_end h p) ≡ h
host_again f Any p is = refl
host_again f (Net n negated) p is = rw (is.0, network_again n, flag_again negated) refl
host_again f (Table name negated) p is = rw (name_again TABLE_NAME_LIMIT 32 name is, flag_again negated) refl

port_again : (h : Host) (p : Option PortTest) → port_of (plain_end h p) ≡ p
port_again Any p = test_again p
port_again (Net n negated) p = test_again p
port_again (Table name negated) p = test_again p

-- ---- the fields of a rule

effect_low : (e : Effect) → effect_byte e < 256
effect_low (Decide Block) = omega arith
effect_low (Decide (Pass keeps)) = omega arith
effect_low (Evaluate r) = omega arith

effect_fits : (e : Effect) → Fits (below 3) (effect_byte e)
unfolding below
effect_fits (Decide Block) = (omega arith, refl)
effect_fits (Decide (Pass keeps)) = (omega arith, refl)
effect_fits (Evaluate r) = (omega arith, refl)

keeps_fits : (e : Effect) → Fits (below (if effect_byte e == 1 then 2 else 1)) (flag_byte (keeps_state e))
unfolding below
keeps_fits (Decide Block) = (omega arith, refl)
keeps_fits (Decide (Pass true)) = (omega arith, refl)
keeps_fits (Decide (Pass false)) = (omega arith, refl)
keeps_fits (Evaluate r) = (omega arith, refl)

not_zero : (n : ℕ) → 0 < n → (n == 0) ≡ false
not_zero n lt = grind (arith, nat_tests)

-- a version with labels, or no label
abbrev Borne : Bool → Option (List ℕ) → Type 0
Borne labels l = (labels || is_none l) ≡ true

label_low : (label : List ℕ) → IsLabel label → length label < 256
label_low label is = omega (arith, is.short)

name_byte_low : (b : ℕ) → is_name_byte b ≡ true → b < 256
name_byte_low b e = grind (arith, nat_tests)

name_bytes_low : (name : List ℕ) → list_all is_name_byte name ≡ true → Bytes name
name_bytes_low [] all = tt
name_bytes_low (b ∷ bs) all = let both = and_parts (is_name_byte b) (list_all is_name_byte bs) all in (name_byte_low b both.0, name_bytes_low bs both.1)

label_bytes_written : (label : List ℕ) → IsLabel label → writes (times (length label) (number 1)) label ≡ label
label_bytes_written label is = written_bytes label (name_bytes_low label is.bytes)

label_written : (labels : Bool) (l : Option (List ℕ)) → IfSome l IsLabel → Borne labels l → writes (label_form labels) (plain_label l) ≡ length (unwrap_or l []) ∷ 0 ∷ 0 ∷ unwrap_or l []
unfolding label_form
label_written false None is allowed = refl
label_written true None is allowed = rw (one 0 (omega arith)) refl
label_written false (Some label) is allowed = absurd cc
label_written true (Some label) is allowed = rw (one (length label) (label_low label is), label_bytes_written label is) refl

bytes_fit : (bs : List ℕ) → Bytes bs → AllByRecursion (Fits (number 1)) bs
bytes_fit [] all = tt
bytes_fit (b ∷ bs) all = (omega (arith, all.0), bytes_fit bs all.1)

is_label_name : (label : List ℕ) → IsLabel label → is_name LABEL_LIMIT label ≡ true
is_label_name label is = ap is_ok (name_only LABEL_LIMIT label is)

label_fits : (labels : Bool) (l : Option (List ℕ)) → IfSome l IsLabel → Borne labels l → Fits (label_form labels) (plain_label l)
unfolding label_form
label_fits false None is allowed = refl
label_fits true None is allowed = ((omega arith, (refl, tt)), refl)
label_fits false (Some label) is allowed = absurd cc
label_fits true (Some label) is allowed = ((omega (arith, label_low label is), (refl, bytes_fit label (name_bytes_low label is.bytes))), rw (is_label_name label is) (or-true (length label == 0)))

label_allowed : (labels : Bool) (l : Option (List ℕ)) → IfSome l IsLabel → Fits (label_form labels) (plain_label l) → Borne labels l
unfolding label_form
label_allowed true l is fits = refl
label_allowed false None is fits = refl
label_allowed false (Some label) is fits = let none : length label ≡ 0 = ap (λ (x : Value LabelShape). x.0) fits in absurd (omega (arith, none, is.some))

label_again : (l : Option (List ℕ)) → IfSome l IsLabel → label_of (plain_label l) ≡ l
label_again None is = refl
label_again (Some label) is = rw (not_zero (length label) is.some) refl

-- ---- what an anchor rule names, or a label

ending_written : (labels : Bool) (e : Effect) (l : Option (List ℕ)) → IsEffect e → LabelFits e l → Borne labels l
    → writes (named labels (effect_byte e == 2)) (plain_ending e l) ≡ filled 64 (names e) ++ (flag_byte (wildcard e) ∷ length (unwrap_or l []) ∷ 0 ∷ 0 ∷ unwrap_or l [])
unfolding named filled reference_form
ending_written labels (Decide Block) l is fits allowed = rw (label_written labels l fits allowed) refl
ending_written labels (Decide (Pass keeps)) l is fits allowed = rw (label_written labels l fits allowed) refl
ending_written labels (Evaluate r) l is none allowed =
    rw (none, written_bytes (fields.filled 64 r.names) (bytes_are _ (reference_fits r is).0.0.0.1), below_written 2 (flag_byte r.wildcard) (flag_low r.wildcard), append_assoc) refl

ending_fits : (labels : Bool) (e : Effect) (l : Option (List ℕ)) → IsEffect e → LabelFits e l → Borne labels l → Fits (named labels (effect_byte e == 2)) (plain_ending e l)
unfolding named
ending_fits labels (Decide Block) l is fits allowed = (refl, label_fits labels l fits allowed)
ending_fits labels (Decide (Pass keeps)) l is fits allowed = (refl, label_fits labels l fits allowed)
ending_fits labels (Evaluate r) l is none allowed = rw none (reference_fits r is, refl)

ending_allowed : (labels : Bool) (e : Effect) (l : Option (List ℕ)) → LabelFits e l → Fits (named labels (effect_byte e == 2)) (plain_ending e l) → Borne labels l
unfolding named
ending_allowed labels (Decide Block) l is fits = label_allowed labels l is fits.1
ending_allowed labels (Decide (Pass keeps)) l is fits = label_allowed labels l is fits.1
ending_allowed labels (Evaluate r) l none fits = rw none (or-true labels)

ending_again : (e : Effect) (l : Option (List ℕ)) → LabelFits e l → label_of (plain_label l) ≡ l
ending_again (Decide a) l fits = label_again l fits
ending_again (Evaluate r) l none = rw none refl

effect_again : (e : Effect) → IsEffect e → effect_of (effect_byte e) (flag_byte (keeps_state e)) (plain_named e) ≡ e
effect_again (Decide Block) is = refl
effect_again (Decide (Pass keeps)) is = rw (flag_again keeps) refl
effect_again (Evaluate r) is = rw (reference_again r is) refl

direction_fits : (d : Option Direction) → Fits (below 3) (direction_byte d)
unfolding below
direction_fits None = (omega arith, refl)
direction_fits (Some In) = (omega arith, refl)
direction_fits (Some Out) = (omega arith, refl)

direction_low : (d : Option Direction) → direction_byte d < 256
direction_low None = omega arith
direction_low (Some In) = omega arith
direction_low (Some Out) = omega arith

direction_again : (d : Option Direction) → direction_of (direction_byte d) ≡ d
direction_again None = refl
direction_again (Some In) = refl
direction_again (Some Out) = refl

family_written : (f : Option Family) → writes some_family (plain_family f) ≡ forms.family_byte f ∷ []
unfolding some_family family number_bytes
family_written None = refl
family_written (Some V4) = refl
family_written (Some V6) = refl

pub family_begins : (f : Family) → begins_otherwise 0 (writes family (family_byte f)) ≡ true
unfolding family number_bytes
family_begins V4 = refl
family_begins V6 = refl

some_family_fits : (f : Option Family) → Fits some_family (plain_family f)
unfolding some_family
some_family_fits None = refl
some_family_fits (Some f) = (family_fits f, family_begins f)

family_again : (f : Option Family) → family_in (plain_family f) ≡ f
family_again None = refl
family_again (Some V4) = refl
family_again (Some V6) = refl

protocol_low : (p : Option ℕ) → IfSome p IsProtocol → unwrap_or p 0 < 256
protocol_low None is = omega arith
protocol_low (Some n) is = is.1

protocol_again : (p : Option ℕ) → IfSome p IsProtocol → protocol_of_byte (unwrap_or p 0) ≡ p
protocol_again None is = refl
protocol_again (Some n) is = rw (not_zero n is.0) refl

interface_written : (i : Option (List ℕ)) → IfSome i IsInterfaceName → writes interface (plain_interface i) ≡ filled 16 (unwrap_or i [])
unfolding interface filled
interface_written None is = refl
interface_written (Some name) is = field_written INTERFACE_LIMIT 16 name (omega arith) is

some_first : (b : ℕ) (bs : List ℕ) → list_all is_name_byte (b ∷ bs) ≡ true → not (b == 0) ≡ true
some_first b bs all = let byte = (and_parts (is_name_byte b) (list_all is_name_byte bs) all).0 in grind (arith, nat_tests)

begins : (name : List ℕ) → IsInterfaceName name → begins_otherwise 0 (filled 16 name) ≡ true
unfolding filled
begins [] is = absurd (omega (arith, is.some))
begins (b ∷ bs) is = some_first b bs is.bytes

pub interface_begins : (name : List ℕ) → IsInterfaceName name → begins_otherwise 0 (writes (name_field INTERFACE_LIMIT 16) (fields.filled 16 name)) ≡ true
interface_begins name is = ap (begins_otherwise 0) (field_written INTERFACE_LIMIT 16 name (omega arith) is) ∙ begins name is

interface_fits : (i : Option (List ℕ)) → IfSome i IsInterfaceName → Fits interface (plain_interface i)
unfolding interface
interface_fits None is = refl
interface_fits (Some name) is =
    (name_fits INTERFACE_LIMIT 16 name (omega arith) is, interface_begins name is)

interface_again : (i : Option (List ℕ)) → IfSome i IsInterfaceName → interface_of (plain_interface i) ≡ i
interface_again None is = refl
interface_again (Some name) is = rw (name_again INTERFACE_LIMIT 16 name is) refl

-- ports are tested only with a protocol that has ports
none_without : (protocol : Option ℕ) (s d : Option PortTest) → ports_fit protocol s d ≡ true → has_ports (unwrap_or protocol 0) ≡ false → (s ≡ None) × (d ≡ None)
unfolding ports_fit
none_without protocol None None fit none = (refl, refl)
none_without None (Some t) d fit none = absurd cc
none_without None None (Some t) fit none = absurd cc
none_without (Some n) (Some t) d fit none = absurd (cc (fit, none))
none_without (Some n) None (Some t) fit none = absurd (cc (fit, none))

pub fitting : (protocol : Option ℕ) (s d : Option PortTest) → (has_ports (unwrap_or protocol 0) ≡ false → s ≡ None) → (has_ports (unwrap_or protocol 0) ≡ false → d ≡ None) → ports_fit protocol s d ≡ true
unfolding ports_fit
fitting None s d source destination = rw (source refl, destination refl) refl
fitting (Some n) s d source destination = by (has_ports n) refl where
  by : (b : Bool) → has_ports n ≡ b → ports_fit (Some n) s d ≡ true
  by true e = rw e (grind arith)
  by false e = rw (source e, destination e) refl

-- ---- a rule

pub layout_is : (version : ℕ) (r : PlainRule) → IsRule r → allows version r ≡ true → writes (rule_layout version) (plain_rule r) ≡ whole_form r
unfolding rule_layout rule_form
layout_is version r is allowed =
    rw (
      below_written 3 (effect_byte r.effect) (effect_low r.effect),
      below_written 3 (direction_byte r.direction) (direction_low r.direction),
      below_written 2 (flag_byte r.quick) (flag_low r.quick),
      below_written (if effect_byte r.effect == 1 then 2 else 1) (flag_byte (keeps_state r.effect)) (flag_low (keeps_state r.effect)),
      family_written r.family,
      one (unwrap_or r.protocol 0) (protocol_low r.protocol is.protocol),
      interface_written r.interface is.interface,
      end_written (has_ports (unwrap_or r.protocol 0)) r.family r.source r.source_port is.source,
      end_written (has_ports (unwrap_or r.protocol 0)) r.family r.destination r.destination_port is.destination,
      ending_written (has_labels version) r.effect r.label is.effect is.label allowed,
      append_assoc,
      append_assoc,
      append_assoc,
      append_assoc,
      append_assoc,
    ) refl

-- a version that has a form for a rule allows it
pub fits_allowed : (version : ℕ) (r : PlainRule) → IsRule r → Fits (rule_layout version) (plain_rule r) → allows version r ≡ true
unfolding rule_layout
fits_allowed version r is fits = ending_allowed (has_labels version) r.effect r.label is.label fits.1.1.1.1.1.1.1.1.1

pub form_pushed : (version : ℕ) (r : PlainRule) → IsRule r → Fits (rule_layout version) (plain_rule r) → (out : List ℕ) → onto (rule_layout version) (plain_rule r) out ≡ (out ++ rule_form r) ++ label_bytes r
form_pushed version r is fits out =
    onto_is (rule_layout version) (plain_rule r) out ∙ ap (λ (m : List ℕ). out ++ m) (layout_is version r is (fits_allowed version r is fits)) ∙ sym (append_assoc out (rule_form r) (label_bytes r))

pub rule_fits : (version : ℕ) (r : PlainRule) → IsRule r → allows version r ≡ true → Fits (rule_layout version) (plain_rule r)
unfolding rule_layout
rule_fits version r is allowed =
    let none = none_without r.protocol r.source_port r.destination_port is.ports in (
      effect_fits r.effect,
      (
        direction_fits r.direction,
        (
          flag_fits r.quick,
          (
            keeps_fits r.effect,
            (
              some_family_fits r.family,
              (
                protocol_low r.protocol is.protocol,
                (
                  interface_fits r.interface is.interface,
                  (
                    end_fits (has_ports (unwrap_or r.protocol 0)) r.family r.source r.source_port is.source is.port_tests.0 (λ e. (none e).0),
                    (
                      end_fits (has_ports (unwrap_or r.protocol 0)) r.family r.destination r.destination_port is.destination is.port_tests.1 (λ e. (none e).1),
                      ending_fits (has_labels version) r.effect r.label is.effect is.label allowed,
                    ),
                  ),
                ),
              ),
            ),
          ),
        ),
      ),
    )

pub rule_again : (r : PlainRule) → IsRule r → rule_of (plain_rule r) ≡ r
unfolding rule_of
rule_again r is =
    rw (
      family_again r.family,
      host_again r.family r.source r.source_port is.source,
      host_again r.family r.destination r.destination_port is.destination,
      port_again r.source r.source_port,
      port_again r.destination r.destination_port,
      effect_again r.effect is.effect,
      ending_again r.effect r.label is.label,
      direction_again r.direction,
      flag_again r.quick,
      interface_again r.interface is.interface,
      protocol_again r.protocol is.protocol,
    ) refl

pub rule_spelled : (version : ℕ) (r : PlainRule) → IsRule r → allows version r ≡ true → Spells (rule_layout version) (plain_rule r) (whole_form r)
rule_spelled version r is allowed = record { fits = rule_fits version r is allowed; written = sym (layout_is version r is allowed) }

pub same_form : (r s : PlainRule) → IsRule r → IsRule s → whole_form r ≡ whole_form s → r ≡ s
same_form r s p q e =
    let same : plain_rule r ≡ plain_rule s = one_value (rule_layout LABELS_FROM) (whole_form s) (plain_rule r) (plain_rule s) (subst (Spells (rule_layout LABELS_FROM) (plain_rule r)) e (rule_spelled LABELS_FROM r p refl)) (rule_spelled LABELS_FROM s q refl) in
    sym (rule_again r p) ∙ ap rule_of same ∙ rule_again s q

-- ---- reading a rule, part by part

next : {a b : Shape} (f : ByteForm a) (g : Value a → ByteForm b) (before mid after : List ℕ) (x : Value a) (y : Value b) → reads f before ≡ leaves x mid → reads (g x) mid ≡ leaves y after → reads (pair_by f g) before ≡ leaves (x, y) after
next f g before mid after x y e h = rw (e, h) refl

read_constant_first : {a : Shape} (k : List ℕ) (f : ByteForm a) (before mid after : List ℕ) (x : Value a) → constant_at k before ≡ leaves tt mid → reads f mid ≡ leaves x after → reads (front k f) before ≡ leaves x after
read_constant_first k f before mid after x e h = rw (e, h) refl

flag_of : (n limit : ℕ) → n < limit → limit ≤ 2 → flag_byte (n == 1) ≡ n
flag_of zero limit lt le = refl
flag_of (suc zero) limit lt le = refl
flag_of (suc (suc n)) limit lt le = absurd (omega (arith, lt, le))

plain_is : (r : PlainRule) (kind keeps : ℕ) → effect_byte r.effect ≡ kind → flag_byte (keeps_state r.effect) ≡ keeps
    → (kind, (direction_byte r.direction, (flag_byte r.quick, (keeps, (plain_family r.family, (unwrap_or r.protocol 0, (plain_interface r.interface, (plain_end r.source r.source_port, (plain_end r.destination r.destination_port, plain_ending r.effect r.label))))))))) ≡ plain_rule r
plain_is r kind keeps e k = λ i. (sym e i, (direction_byte r.direction, (flag_byte r.quick, (sym k i, (plain_family r.family, (unwrap_or r.protocol 0, (plain_interface r.interface, (plain_end r.source r.source_port, (plain_end r.destination r.destination_port, plain_ending r.effect r.label)))))))))

pub body_read : (labels anchors ports : Bool) (f : Value FamilyShape) (b c d e g : List ℕ) (i : Value InterfaceShape) (s t : Value EndShape) (n : Value EndingShape)
    → reads interface b ≡ leaves i c → reads (end ports f) c ≡ leaves s d → reads (end ports f) d ≡ leaves t e → reads (named labels anchors) e ≡ leaves n g
    → reads (body labels anchors ports f) b ≡ leaves (i, (s, (t, n))) g
body_read labels anchors ports f b c d e g i s t n at_interface at_source at_destination at_names =
    next interface (λ x. pair (end ports f) (pair (end ports f) (named labels anchors))) b c g i (s, (t, n)) at_interface
    (next (end ports f) (λ x. pair (end ports f) (named labels anchors)) c d g s (t, n) at_source (next (end ports f) (λ x. named labels anchors) d e g t n at_destination at_names))

abbrev after_protocol : Bool → ℕ → Value FamilyShape → ℕ → ByteForm BodyShape
after_protocol labels kind f p = front (0 ∷ 0 ∷ []) (body labels (kind == 2) (has_ports p) f)

abbrev after_family : Bool → ℕ → Value FamilyShape → ByteForm (both nat BodyShape)
after_family labels kind f = pair_by (number 1) (after_protocol labels kind f)

abbrev after_keeps : Bool → ℕ → ByteForm (both FamilyShape (both nat BodyShape))
after_keeps labels kind = pair_by some_family (after_family labels kind)

abbrev after_quick : Bool → ℕ → ByteForm (both nat (both FamilyShape (both nat BodyShape)))
after_quick labels kind = pair (below (if kind == 1 then 2 else 1)) (after_keeps labels kind)

abbrev after_direction : Bool → ℕ → ByteForm (both nat (both nat (both FamilyShape (both nat BodyShape))))
after_direction labels kind = pair flag (after_quick labels kind)

abbrev after_kind : Bool → ℕ → ByteForm (both nat (both nat (both nat (both FamilyShape (both nat BodyShape)))))
after_kind labels kind = pair (below 3) (after_direction labels kind)

pub rule_read : (version : ℕ) (r : PlainRule) (kind keeps limit : ℕ) (b1 b2 b3 b4 b5 b6 b7 b8 b9 : List ℕ) → effect_byte r.effect ≡ kind → keeps_state r.effect ≡ (keeps == 1) → keeps < limit → limit ≤ 2 → limit ≡ (if kind == 1 then 2 else 1)
    → reads (below 3) b1 ≡ leaves kind b2 → reads (below 3) b2 ≡ leaves (direction_byte r.direction) b3 → reads flag b3 ≡ leaves (flag_byte r.quick) b4
    → reads (below limit) b4 ≡ leaves keeps b5 → reads some_family b5 ≡ leaves (plain_family r.family) b6 → reads (number 1) b6 ≡ leaves (unwrap_or r.protocol 0) b7
    → constant_at (0 ∷ 0 ∷ []) b7 ≡ leaves tt b8
    → reads (body (has_labels version) (kind == 2) (has_ports (unwrap_or r.protocol 0)) (plain_family r.family)) b8 ≡ leaves (plain_interface r.interface, (plain_end r.source r.source_port, (plain_end r.destination r.destination_port, plain_ending r.effect r.label))) b9
    → reads (rule_layout version) b1 ≡ leaves (plain_rule r) b9
unfolding rule_layout
rule_read version r kind keeps limit b1 b2 b3 b4 b5 b6 b7 b8 b9 e k lt le is at_kind at_direction at_quick at_keeps at_family at_protocol at_zeros at_body =
    let same = plain_is r kind keeps e (ap flag_byte k ∙ flag_of keeps limit lt le) in
    let labels : Bool = has_labels version in
    let keeping = rw is at at_keeps in
    next (below 3) (after_kind labels) b1 b2 b9 kind _ at_kind
    (next (below 3) (λ d. after_direction labels kind) b2 b3 b9 (direction_byte r.direction) _ at_direction
    (next flag (λ q. after_quick labels kind) b3 b4 b9 (flag_byte r.quick) _ at_quick
    (next (below (if kind == 1 then 2 else 1)) (λ k. after_keeps labels kind) b4 b5 b9 keeps _ keeping
    (next some_family (after_family labels kind) b5 b6 b9 (plain_family r.family) _ at_family
    (next (number 1) (after_protocol labels kind (plain_family r.family)) b6 b7 b9 (unwrap_or r.protocol 0) _ at_protocol
    (read_constant_first (0 ∷ 0 ∷ []) (body labels (kind == 2) (has_ports (unwrap_or r.protocol 0)) (plain_family r.family)) b7 b8 b9 _ at_zeros at_body))))))
    ∙ ap (λ (x : Value RuleShape). leaves x b9) same

-- ---- how long a form is

filled_long : (size : ℕ) (bytes : List ℕ) → length bytes ≤ size → length (filled size bytes) ≡ size
unfolding filled
filled_long size bytes le = omega (arith, length-append bytes (replicate (size - length bytes) 0), length-replicate {A = ℕ} (size - length bytes) 0)

address_long : (h : Host) → length (address_bytes h) ≡ 16
address_long Any = refl
address_long (Net n negated) = addr_bytes-length (first_addr n)
address_long (Table name negated) = refl

table_short : (f : Option Family) (h : Host) → HostFits f h → length (table_name h) ≤ 32
table_short f Any is = omega arith
table_short f (Net n negated) is = omega arith
table_short f (Table name negated) is = omega (arith, is.short)

host_long : (f : Option Family) (h : Host) (p : Option PortTest) → HostFits f h → length (host_form h p) ≡ 56
unfolding host_form
host_long f h p is =
    omega (arith, length-append (address_bytes h) (filled 32 (table_name h)), address_long h, filled_long 32 (table_name h) (table_short f h is))

interface_short : (i : Option (List ℕ)) → IfSome i IsInterfaceName → length (unwrap_or i []) ≤ 16
interface_short None is = omega arith
interface_short (Some name) is = omega (arith, is.short)

names_short : (e : Effect) → IsEffect e → length (names e) ≤ 64
names_short (Decide a) is = omega arith
names_short (Evaluate r) is = omega (arith, simp length-append at is.short)

pub form_long : (r : PlainRule) → IsRule r → length (rule_form r) ≡ 204
unfolding rule_form
form_long r is =
    omega (
      arith,
      length-append {A = ℕ},
      filled_long 16 (unwrap_or r.interface []) (interface_short r.interface is.interface),
      host_long r.family r.source r.source_port is.source,
      host_long r.family r.destination r.destination_port is.destination,
      filled_long 64 (names r.effect) (names_short r.effect is.effect),
    )

-- and so is what its layout writes, with the label
pub layout_long : (version : ℕ) (r : PlainRule) → IsRule r → allows version r ≡ true → length_of (rule_layout version) (plain_rule r) ≡ 204 + length (label_bytes r)
layout_long version r is allowed =
    sym (length_is (rule_layout version) (plain_rule r)) ∙ ap length (layout_is version r is allowed) ∙ length-append (rule_form r) (label_bytes r) ∙ ap (λ (n : ℕ). n + length (label_bytes r)) (form_long r is)
