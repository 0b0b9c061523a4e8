-- A rule's form, of which checksums are taken: 204 bytes, and its label after them. Numbers have their highest byte first, and what
-- doesn't apply is 0.
--
--   place width field
--       0     1 0 block, 1 pass, 2 anchor
--       1     1 direction: 0 any, 1 in, 2 out
--       2     1 quick, 0 or 1
--       3     1 keeps state, 0 or 1
--       4     1 family: 0 any, 4, 6
--       5     1 protocol, 0 any
--       6     2 zeros
--       8    16 interface, filled with zeros
--      24    56 source host
--      80    56 destination host
--     136    64 reference without "/*", filled with zeros
--     200     1 1 where the reference ends in "/*"
--     201     1 how many bytes the label has, 0 without one
--     202     2 zeros
--     204       the label
--
-- A host, with the test of its port:
--
--   place width field
--       0     1 kind: 0 any, 1 network, 2 table
--       1     1 negated, 0 or 1
--       2     1 how many bits the network's front has
--       3     1 test: 0 none, 1 "=", 2 "!=", 3 "<", 4 "<=", 5 ">", 6 ">=", 7 ":", 8 "><", 9 "<>"
--       4     2 first port
--       6     2 second port
--       8    16 the network's first address, IPv4 in the first four
--      24    32 the table's name, filled with zeros
use Rattle.std.specs.{Prelude.{ℕ, ◌-◌, Bool, false, List, [], ◌∷◌, ◌++◌, length, replicate, Option, Some, None, unwrap_or}, List.flat_map}
use Rattle.byteorder.specs.Endian.{big_bytes}
use Rattle.md5.specs.Md5.{md5}
use Rattle.pf_addr.specs.declared.addr.Family.{Family}
use Rattle.pf_addr.specs.Spelling.{first_addr}
use Rattle.pf_form.specs.Bytes.Codes.{flag_byte}
use Rattle.pf_rule.specs.{declared.{value.direction.Direction.Direction, value.ports.Comparison.Comparison, value.ports.Comparison.TheVariants.Equal, value.ports.Comparison.TheVariants.NotEqual, value.ports.Comparison.TheVariants.Less, value.ports.Comparison.TheVariants.AtMost, value.ports.Comparison.TheVariants.Greater, value.ports.Comparison.TheVariants.AtLeast, value.ports.PortRange.PortRange, value.ports.PortRange.TheVariants.Including, value.ports.PortRange.TheVariants.Excluding, value.ports.PortRange.TheVariants.Except, value.ports.PortTest.PortTest, value.ports.PortTest.TheVariants.Compared, value.ports.PortTest.TheVariants.Ranged, host.host.Host.Host, host.host.Host.TheVariants.Any, host.host.Host.TheVariants.Net, host.host.Host.TheVariants.Table, rule.Effect.Effect, rule.Effect.TheVariants.Decide, rule.Effect.TheVariants.Evaluate, rule.Action.TheVariants.Pass, rule.Action.TheVariants.Block}, Bytes.addr_bytes, Host.Hosts.is_negated, Rules.PlainRule}
use Rattle.pf_rule.specs.Bytes as bytes

-- bytes, padded with zeros up to this width
unfoldable pub filled : ℕ → List ℕ → List ℕ
filled width bytes = bytes ++ replicate (width - length bytes) 0

-- ---- a host and the test of its port

abbrev pub kind_byte : Host → ℕ
kind_byte Any = 0
kind_byte (Net n negated) = 1
kind_byte (Table name negated) = 2

abbrev pub length_byte : Host → ℕ
length_byte Any = 0
length_byte (Net n negated) = n.len
length_byte (Table name negated) = 0

abbrev pub comparison_byte : Comparison → ℕ
comparison_byte Equal = 1
comparison_byte NotEqual = 2
comparison_byte Less = 3
comparison_byte AtMost = 4
comparison_byte Greater = 5
comparison_byte AtLeast = 6

abbrev pub range_byte : PortRange → ℕ
range_byte Including = 7
range_byte Excluding = 8
range_byte Except = 9

abbrev pub test_byte : Option PortTest → ℕ
test_byte None = 0
test_byte (Some (Compared operator n)) = comparison_byte operator
test_byte (Some (Ranged range a b)) = range_byte range

abbrev pub first_port : Option PortTest → ℕ
first_port None = 0
first_port (Some (Compared operator n)) = n
first_port (Some (Ranged range a b)) = a

abbrev pub second_port : Option PortTest → ℕ
second_port None = 0
second_port (Some (Compared operator n)) = 0
second_port (Some (Ranged range a b)) = b

abbrev pub address_bytes : Host → List ℕ
address_bytes Any = replicate 16 0
address_bytes (Net n negated) = addr_bytes (first_addr n)
address_bytes (Table name negated) = replicate 16 0

abbrev pub table_name : Host → List ℕ
table_name Any = []
table_name (Net n negated) = []
table_name (Table name negated) = name

-- 56 bytes
unfoldable pub host_form : Host → Option PortTest → List ℕ
host_form host port =
    (kind_byte host ∷ flag_byte (is_negated host) ∷ length_byte host ∷ test_byte port ∷ [])
    ++ ((big_bytes 2 (first_port port) ++ big_bytes 2 (second_port port))
    ++ (address_bytes host
    ++ filled 32 (table_name host)))

-- ---- a rule

abbrev pub effect_byte : Effect → ℕ
effect_byte (Decide Block) = 0
effect_byte (Decide (Pass keeps)) = 1
effect_byte (Evaluate r) = 2

abbrev pub keeps_state : Effect → Bool
keeps_state (Decide Block) = false
keeps_state (Decide (Pass keeps)) = keeps
keeps_state (Evaluate r) = false

abbrev pub direction_byte : Option Direction → ℕ
direction_byte None = 0
direction_byte (Some way) = bytes.direction_byte way

abbrev pub family_byte : Option Family → ℕ
family_byte None = 0
family_byte (Some family) = bytes.family_byte family

abbrev pub names : Effect → List ℕ
names (Decide a) = []
names (Evaluate r) = r.names

abbrev pub wildcard : Effect → Bool
wildcard (Decide a) = false
wildcard (Evaluate r) = r.wildcard

abbrev pub heading : PlainRule → List ℕ
heading r =
    effect_byte r.effect ∷ direction_byte r.direction ∷ flag_byte r.quick ∷ flag_byte (keeps_state r.effect)
    ∷ family_byte r.family ∷ unwrap_or r.protocol 0 ∷ 0 ∷ 0 ∷ []

abbrev pub label_bytes : PlainRule → List ℕ
label_bytes r = unwrap_or r.label []

-- 204 bytes
unfoldable pub rule_form : PlainRule → List ℕ
rule_form r =
    heading r
    ++ (filled 16 (unwrap_or r.interface [])
    ++ (host_form r.source r.source_port
    ++ (host_form r.destination r.destination_port
    ++ (filled 64 (names r.effect)
    ++ (flag_byte (wildcard r.effect) ∷ length (label_bytes r) ∷ 0 ∷ 0 ∷ [])))))

-- with the label
abbrev pub whole_form : PlainRule → List ℕ
whole_form r = rule_form r ++ label_bytes r

-- ---- a ruleset

-- MD5 (RFC 1321) of the whole forms, one after the other
unfoldable pub ruleset_sum : List PlainRule → List ℕ
ruleset_sum rs = md5 (flat_map whole_form rs)
