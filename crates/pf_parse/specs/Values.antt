-- Values that stand in lists (pf.conf(5), PARAMETERS), as pf_values reads them, each in a token.
use Rattle.std.specs.Prelude.{ℕ, Bool, List, [], ◌∷◌, ◌++◌, codes, decimal, Result, Ok, Err, if◌then◌else◌}
use Rattle.pf_form.specs.Form.Forms.{◌>>=◌}
use Rattle.pf_addr.specs.Address.{PlainNet}
use Rattle.pf_values.specs.{Numbers.Word, Named.{protocol_named, protocol_numbered}, Ports.{single_port_of, ports_of}, Addresses.net_of}
use Rattle.pf_values.specs.declared.{numbers.Mistake.Mistake as NoValue, ports.PortNumbers.PortNumbers, ports.PortNumbers.TheVariants.{One, Range}}
use Rattle.pf_values.specs.declared.numbers.Mistake.TheVariants as no_value
use Rattle.pf_tokens.specs.declared.{place.Place.Place, token.Token.Token}
use Rattle.pf_tokens.specs.Places.{text_of}
use Rattle.pf_parse.specs.declared.{fault.Mistake.Mistake, fault.Stop.Stop}
use Rattle.pf_parse.specs.declared.fault.Mistake.TheVariants as mistakes
use Rattle.pf_parse.specs.Stops.{fault_at}

-- the mistake of a text that is no value; a user is shown this
abbrev pub shown_as : Word → NoValue → Mistake
shown_as shown no_value.Zeros = mistakes.Zeros
shown_as shown no_value.ProtocolNumber = mistakes.ProtocolNumber
shown_as shown no_value.Protocol = mistakes.Protocol shown
shown_as shown no_value.PortNumber = mistakes.PortNumber
shown_as shown no_value.Port = mistakes.Port shown
shown_as shown no_value.Colon = mistakes.Colon
shown_as shown no_value.Address = mistakes.Address shown

abbrev pub value_at : {A : Type 0} → Place → Word → Result A NoValue → Result A Stop
value_at p shown (Ok x) = Ok x
value_at p shown (Err m) = Err (fault_at p (shown_as shown m))

abbrev pub protocol_by : Bool → Word → Result ℕ NoValue
protocol_by is_number text = if is_number then protocol_numbered text else protocol_named text

-- a protocol by its number, or by its name
abbrev pub protocol_of : Token → Bool → Result ℕ Stop
protocol_of t is_number = value_at t.place (text_of t.text) (protocol_by is_number (text_of t.text))

abbrev pub protocol_words : ℕ → List Word
protocol_words n = codes "proto" ∷ decimal n ∷ []

-- a port behind or before an operator
abbrev pub operand : Token → Result ℕ Stop
operand t = value_at t.place (text_of t.text) (single_port_of (text_of t.text))

abbrev pub port_range : ℕ → ℕ → List Word
port_range m n = codes "port" ∷ (decimal m ++ (codes ":" ++ decimal n)) ∷ []

abbrev pub words_of_ports : PortNumbers → List Word
words_of_ports (One n) = codes "port" ∷ codes "=" ∷ decimal n ∷ []
words_of_ports (Range m n) = port_range m n

-- the test of a port, or of those between two
abbrev pub port_words : Token → Result (List Word) Stop
port_words t = value_at t.place (text_of t.text) (ports_of (text_of t.text)) >>= λ ports. Ok (words_of_ports ports)

-- a network; a user is shown this if the text is none
abbrev pub net_at_place : Place → Word → Word → Result PlainNet Stop
net_at_place p text shown = value_at p shown (net_of text)
