-- Rules with their texts and forms, and rulesets with their checksums, to compare with what other programs compute from the same bytes
-- (such as md5sum(1)).
use Rattle.std.specs.Prelude.{List, [], ◌∷◌, ◌++◌, ℕ, false, true, Option, None, Some, codes, replicate}
use Rattle.pf_addr.specs.declared.addr.Family.TheVariants.{V4, V6}
use Rattle.pf_addr.specs.Path.References.{refers}
use Rattle.pf_rule.specs.{declared.{value.direction.Direction.TheVariants.In, value.direction.Direction.TheVariants.Out, value.ports.Comparison.TheVariants.Equal, value.ports.Comparison.TheVariants.NotEqual, value.ports.Comparison.TheVariants.Less, value.ports.Comparison.TheVariants.AtMost, value.ports.Comparison.TheVariants.Greater, value.ports.Comparison.TheVariants.AtLeast, value.ports.PortRange.TheVariants.Including, value.ports.PortRange.TheVariants.Excluding, value.ports.PortRange.TheVariants.Except, value.ports.PortTest.PortTest, value.ports.PortTest.TheVariants.Compared, value.ports.PortTest.TheVariants.Ranged, host.host.Host.TheVariants.Any, host.host.Host.TheVariants.Net, host.host.Host.TheVariants.Table, rule.Action.TheVariants.Pass, rule.Action.TheVariants.Block, rule.Effect.Effect, rule.Effect.TheVariants.Decide, rule.Effect.TheVariants.Evaluate}, Rules.PlainRule}

-- ---- rules

-- a rule without tests
abbrev pub untested : Effect → PlainRule
untested effect = record {
  effect = effect;
  direction = None;
  quick = false;
  interface = None;
  family = None;
  protocol = None;
  source = Any;
  source_port = None;
  destination = Any;
  destination_port = None;
  label = None;
}

abbrev pub block : PlainRule
block = record (untested (Decide Block)) { direction = Some In }

abbrev pub pass : PlainRule
pass = record (untested (Decide (Pass true))) { direction = Some In }

abbrev pub anchor : PlainRule
anchor = untested (Evaluate (refers (codes "a") true))

-- one with all tests
abbrev pub tested : PlainRule
tested = record {
  effect = Decide (Pass false);
  direction = Some Out;
  quick = true;
  interface = Some (codes "em0");
  family = Some V4;
  protocol = Some 6;
  source = Net (record { family = V4; len = 8; front = 10 }) true;
  source_port = Some (Ranged Including 1024 2048);
  destination = Table (codes "web") false;
  destination_port = Some (Compared Equal 80);
  label = None;
}

-- the first with a label
abbrev pub labelled : PlainRule
labelled = record block { label = Some (codes "x") }

-- their forms
abbrev pub block_form : List ℕ
block_form = 0 ∷ 1 ∷ replicate 202 0

abbrev pub pass_form : List ℕ
pass_form = 1 ∷ 1 ∷ 0 ∷ 1 ∷ replicate 200 0

abbrev pub anchor_form : List ℕ
anchor_form = 2 ∷ replicate 135 0 ++ codes "a" ++ replicate 63 0 ++ 1 ∷ 0 ∷ 0 ∷ 0 ∷ []

abbrev pub tested_form : List ℕ
tested_form =
    1 ∷ 2 ∷ 1 ∷ 0 ∷ 4 ∷ 6 ∷ 0 ∷ 0 ∷ codes "em0" ++ replicate 13 0
    ++ 1 ∷ 1 ∷ 8 ∷ 7 ∷ 4 ∷ 0 ∷ 8 ∷ 0 ∷ 10 ∷ replicate 15 0 ++ replicate 32 0
    ++ 2 ∷ 0 ∷ 0 ∷ 1 ∷ 0 ∷ 80 ∷ 0 ∷ 0 ∷ replicate 16 0 ++ codes "web" ++ replicate 29 0
    ++ replicate 68 0

-- and that of the rule with a label: the label's length at place 201, two zeros, and the label
abbrev pub labelled_form : List ℕ
labelled_form = 0 ∷ 1 ∷ replicate 199 0 ++ 1 ∷ 0 ∷ 0 ∷ codes "x"

-- a rule of the other family, to one address: pass out inet6 from !<web> to 2001:db8::1 keep state
abbrev pub v6 : PlainRule
v6 = record (untested (Decide (Pass true))) {
  direction = Some Out;
  family = Some V6;
  source = Table (codes "web") true;
  destination = Net (record { family = V6; len = 128; front = 0x20010db8000000000000000000000001 }) false;
}

abbrev pub v6_form : List ℕ
v6_form =
    1 ∷ 2 ∷ 0 ∷ 1 ∷ 6 ∷ replicate 19 0
    ++ 2 ∷ 1 ∷ replicate 22 0 ++ codes "web" ++ replicate 29 0
    ++ 1 ∷ 0 ∷ 128 ∷ replicate 5 0 ++ 0x20 ∷ 0x01 ∷ 0x0d ∷ 0xb8 ∷ replicate 11 0 ++ 1 ∷ replicate 32 0
    ++ replicate 68 0

-- each port test, and the form of any host with it: three zeros, the test's number, and then the ports
abbrev pub port_tests : List (Option PortTest)
port_tests =
    None ∷ Some (Compared Equal 258) ∷ Some (Compared NotEqual 258) ∷ Some (Compared Less 258) ∷ Some (Compared AtMost 258)
    ∷ Some (Compared Greater 258) ∷ Some (Compared AtLeast 258)
    ∷ Some (Ranged Including 258 772) ∷ Some (Ranged Excluding 258 772) ∷ Some (Ranged Except 258 772) ∷ []

abbrev pub any_form : ℕ → ℕ → ℕ → ℕ → ℕ → List ℕ
any_form test a b c d = 0 ∷ 0 ∷ 0 ∷ test ∷ a ∷ b ∷ c ∷ d ∷ replicate 48 0

abbrev pub tested_hosts : List (List ℕ)
tested_hosts =
    any_form 0 0 0 0 0 ∷ any_form 1 1 2 0 0 ∷ any_form 2 1 2 0 0 ∷ any_form 3 1 2 0 0 ∷ any_form 4 1 2 0 0
    ∷ any_form 5 1 2 0 0 ∷ any_form 6 1 2 0 0 ∷ any_form 7 1 2 3 4 ∷ any_form 8 1 2 3 4 ∷ any_form 9 1 2 3 4 ∷ []

-- ---- checksums

-- of no rules: MD5 of no bytes, d41d8cd98f00b204e9800998ecf8427e (RFC 1321, A.5)
abbrev pub sum_of_none : List ℕ
sum_of_none = 0xd4 ∷ 0x1d ∷ 0x8c ∷ 0xd9 ∷ 0x8f ∷ 0x00 ∷ 0xb2 ∷ 0x04 ∷ 0xe9 ∷ 0x80 ∷ 0x09 ∷ 0x98 ∷ 0xec ∷ 0xf8 ∷ 0x42 ∷ 0x7e ∷ []

-- of the first rule alone, 4827fb64e081067431cdbb8713c4eeee
abbrev pub sum_of_block : List ℕ
sum_of_block = 0x48 ∷ 0x27 ∷ 0xfb ∷ 0x64 ∷ 0xe0 ∷ 0x81 ∷ 0x06 ∷ 0x74 ∷ 0x31 ∷ 0xcd ∷ 0xbb ∷ 0x87 ∷ 0x13 ∷ 0xc4 ∷ 0xee ∷ 0xee ∷ []

-- block, pass, the one with all tests, and then the anchor, f636cce203b7240a4f6dbaa8be15cc7a
abbrev pub all_four : List PlainRule
all_four = block ∷ pass ∷ tested ∷ anchor ∷ []

abbrev pub sum_of_four : List ℕ
sum_of_four = 0xf6 ∷ 0x36 ∷ 0xcc ∷ 0xe2 ∷ 0x03 ∷ 0xb7 ∷ 0x24 ∷ 0x0a ∷ 0x4f ∷ 0x6d ∷ 0xba ∷ 0xa8 ∷ 0xbe ∷ 0x15 ∷ 0xcc ∷ 0x7a ∷ []

-- of the rule with a label alone, d411932dcd00128d5b42b106d2ded28e
abbrev pub sum_of_labelled : List ℕ
sum_of_labelled = 0xd4 ∷ 0x11 ∷ 0x93 ∷ 0x2d ∷ 0xcd ∷ 0x00 ∷ 0x12 ∷ 0x8d ∷ 0x5b ∷ 0x42 ∷ 0xb1 ∷ 0x06 ∷ 0xd2 ∷ 0xde ∷ 0xd2 ∷ 0x8e ∷ []
