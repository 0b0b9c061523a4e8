-- The words that stand for values: names of interfaces, protocols, labels, addresses and ports. Each is a test of a word, and a form.
use Rattle.std.specs.{Prelude.{ℕ, ◌<◌, ◌==◌, ◌⊎◌, ◌&&◌, ◌||◌, nat_lt, Bool, true, false, List, [], ◌∷◌, take, length, codes, Option, Some, None, Result, Ok, Err, if◌then◌else◌}, Str.bytes_eq}
use Rattle.std.proofs.Common.{◌≡◌, refl}
use Rattle.pf_addr.specs.declared.{addr.Addr.Addr, fault.AddrFault.AddrFault}
use Rattle.pf_form.specs.declared.form.fault.Kind.{Kind, TheVariants.{BadWord, BadProto}}
use Rattle.pf_addr.specs.{Reading.{part_at, pieces_at, v4_at, address_at, addr_at}, Path.{Names.{IsName, name_of}, References.{quoted, unquoted}}}
use Rattle.pf_form.specs.Form.{Words.Word, Forms.{Form, word}, Numbers.{IsNumber, number_of}}
use Rattle.pf_addr.specs.declared.addr.Addr.TheVariants as addr
use Rattle.pf_rule.specs.declared.{value.interface.TheConstants.INTERFACE_LIMIT, value.label.TheConstants.LABEL_LIMIT, value.values.TheConstants.{PROTOCOL_DIGITS, PORT_DIGITS}}
use Rattle.pf_rule.specs.declared.value.protocol.TheConstants.Protocol as protocols

-- ---- an interface's name; its length is that of pf(4)'s ifname

abbrev pub IsInterfaceName : List ℕ → Type 0
IsInterfaceName = IsName INTERFACE_LIMIT

abbrev pub interface_of : Word → Result (List ℕ) Kind
interface_of = name_of INTERFACE_LIMIT

abbrev pub an_interface : Form (List ℕ)
an_interface = word (record { of = interface_of; sample = codes "a"; value = codes "a"; takes = refl })

-- ---- a protocol: its name, or its number (IANA's protocol numbers)

abbrev pub protocol_names : List (Word × ℕ)
protocol_names =
    (codes "tcp", protocols.TCP) ∷ (codes "udp", protocols.UDP) ∷ (codes "icmp", protocols.ICMP) ∷
    (codes "icmp6", protocols.ICMP6) ∷ (codes "ipv6-icmp", protocols.ICMP6) ∷ []

-- the table has the name with the number
abbrev pub IsNamed : List (Word × ℕ) → Word → ℕ → Type 0
IsNamed [] w n = ⊥
IsNamed (x ∷ xs) w n = ((w ≡ x.0) × (x.1 ≡ n)) ⊎ IsNamed xs w n

abbrev pub IsProtocol : ℕ → Type 0
IsProtocol n = (0 < n) × (n < 256)

-- a name, or 1 to 3 decimal digits of a number from 1 to 255
abbrev pub SpellsProtocol : Word → ℕ → Type 0
SpellsProtocol w n = IsNamed protocol_names w n ⊎ (IsNumber PROTOCOL_DIGITS w n × IsProtocol n)

-- TCP and UDP have ports
abbrev pub has_ports : ℕ → Bool
has_ports protocol = (protocol == protocols.TCP) || (protocol == protocols.UDP)

abbrev pub number_named : List (Word × ℕ) → Word → Option ℕ
number_named [] w = None
number_named (n ∷ ns) w = if bytes_eq w n.0 then Some n.1 else number_named ns w

abbrev pub protocol_numbered : Option ℕ → Result ℕ Kind
protocol_numbered (Some n) = if nat_lt 0 n && nat_lt n 256 then Ok n else Err BadProto
protocol_numbered None = Err BadProto

abbrev pub named_or : Option ℕ → Result ℕ Kind → Result ℕ Kind
named_or (Some n) other = Ok n
named_or None other = other

abbrev pub protocol_of : Word → Result ℕ Kind
protocol_of w = named_or (number_named protocol_names w) (protocol_numbered (number_of PROTOCOL_DIGITS w))

abbrev pub a_protocol : Form ℕ
a_protocol = word (record { of = protocol_of; sample = codes "tcp"; value = protocols.TCP; takes = refl })

-- ---- a label: a name that may be in double quotes; its length is that of pf(4)'s label

abbrev pub IsLabel : List ℕ → Type 0
IsLabel = IsName LABEL_LIMIT

abbrev pub SpellsLabel : Word → List ℕ → Type 0
SpellsLabel w l = IsLabel l × ((w ≡ l) ⊎ (w ≡ quoted l))

abbrev pub label_of : Word → Result (List ℕ) Kind
label_of w = name_of LABEL_LIMIT (unquoted w)

abbrev pub a_label : Form (List ℕ)
a_label = word (record { of = label_of; sample = codes "a"; value = codes "a"; takes = refl })

-- ---- a word with this front

abbrev pub begins_with : Word → Word → Bool
begins_with front w = bytes_eq (take (length front) w) front

-- ---- an address

-- any fault of an address, or of a network, makes a bad word
abbrev pub as_word : {A : Type 0} → Result A AddrFault → Result A Kind
as_word (Ok x) = Ok x
as_word (Err e) = Err BadWord

abbrev pub address_of : Word → Result Addr Kind
address_of w = as_word (addr_at w)

pub address_taken : address_of (codes "0.0.0.0") ≡ Ok (addr.V4 0)
unfolding part_at pieces_at v4_at address_at
address_taken = refl

abbrev pub an_address : Form Addr
an_address = word (record { of = address_of; sample = codes "0.0.0.0"; value = addr.V4 0; takes = address_taken })

-- ---- a port, which is 0 unless the protocol has ports

abbrev pub port_limit : Bool → ℕ
port_limit true = 65536
port_limit false = 1

abbrev pub port_numbered : Bool → Option ℕ → Result ℕ Kind
port_numbered ports (Some n) = if nat_lt n (port_limit ports) then Ok n else Err BadWord
port_numbered ports None = Err BadWord

abbrev pub port_of : Bool → Word → Result ℕ Kind
port_of ports w = port_numbered ports (number_of PORT_DIGITS w)

pub port_taken : (ports : Bool) → port_of ports (codes "0") ≡ Ok 0
port_taken true = refl
port_taken false = refl

abbrev pub a_port : Bool → Form ℕ
a_port ports = word (record { of = port_of ports; sample = codes "0"; value = 0; takes = port_taken ports })
