-- A rule's tests of the direction, the interface, the family and the protocol: what they mean, how they are spelled (pf.conf(5),
-- PARAMETERS and GRAMMAR), and the words written for them.
use Rattle.std.specs.Prelude.{ℕ, ◌==◌, Bool, true, false, List, [], ◌∷◌, Option, Some, None, codes, decimal, if◌then◌else◌}
use Rattle.pf_form.specs.{Form.Words.Word, Form.Forms.{Form, nothing, or, making}}
use Rattle.pf_addr.specs.declared.{addr.Family.Family, addr.Family.TheVariants.{V4, V6}}
use Rattle.pf_rule.specs.declared.{value.direction.Direction.Direction, value.direction.Direction.TheVariants.{In, Out}}
use Rattle.pf_rule.specs.declared.value.protocol.TheConstants.Protocol as protocols
use Rattle.pf_rule.specs.Value.Values.{an_interface, a_protocol}

-- ---- what they mean

-- a missing test holds
abbrev pub holds : {A : Type 0} → Option A → (A → Bool) → Bool
holds None test = true
holds (Some x) test = test x

abbrev pub same_direction : Direction → Direction → Bool
same_direction In In = true
same_direction In Out = false
same_direction Out In = false
same_direction Out Out = true

-- ---- how they are spelled

-- ["in" | "out"]
unfoldable pub direction : Form (Option Direction)
direction = or (codes "in") (nothing (Some In)) (or (codes "out") (nothing (Some Out)) (nothing None))

-- ["on" interface]
unfoldable pub interface : Form (Option (List ℕ))
interface = or (codes "on") (making (λ n. Some n) an_interface) (nothing None)

-- ["inet" | "inet6"]
unfoldable pub family : Form (Option Family)
family = or (codes "inet") (nothing (Some V4)) (or (codes "inet6") (nothing (Some V6)) (nothing None))

-- ["proto" protocol]
unfoldable pub protocol : Form (Option ℕ)
protocol = or (codes "proto") (making (λ n. Some n) a_protocol) (nothing None)

-- ---- how they are written

abbrev pub direction_words : Option Direction → List Word
direction_words None = []
direction_words (Some In) = codes "in" ∷ []
direction_words (Some Out) = codes "out" ∷ []

abbrev pub interface_words : Option (List ℕ) → List Word
interface_words None = []
interface_words (Some name) = codes "on" ∷ name ∷ []

abbrev pub family_words : Option Family → List Word
family_words None = []
family_words (Some V4) = codes "inet" ∷ []
family_words (Some V6) = codes "inet6" ∷ []

-- the names of four protocols (`icmp6`, of the two names of 58), otherwise the number
abbrev pub protocol_word : ℕ → Word
protocol_word n =
    if n == protocols.ICMP then codes "icmp" else (if n == protocols.TCP then codes "tcp" else
    (if n == protocols.UDP then codes "udp" else (if n == protocols.ICMP6 then codes "icmp6" else decimal n)))

abbrev pub protocol_words : Option ℕ → List Word
protocol_words None = []
protocol_words (Some n) = codes "proto" ∷ protocol_word n ∷ []
