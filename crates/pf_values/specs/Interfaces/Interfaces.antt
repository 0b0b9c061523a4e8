-- Interfaces with their addresses, as a user gives them: NAME=ADDRESS/LENGTH,ADDRESS/LENGTH .. (ifconfig(8), "address/prefixlength").
use Rattle.std.specs.{Prelude.{ℕ, ◌+◌, ◌==◌, not, List, [], ◌∷◌, ◌++◌, take, drop, take_while, position, Option, Some, None, Result, Ok, Err}, List.slice_split, Option.option_and_then}
use Rattle.pf_form.specs.declared.form.fault.Kind.{Kind}
use Rattle.pf_addr.specs.{Address.PlainNet, Path.Names.name_of}
use Rattle.pf_rule.specs.declared.value.interface.TheConstants.{INTERFACE_LIMIT}
use Rattle.pf_values.specs.{Numbers.Word, Addresses.net_of}
use Rattle.pf_values.specs.declared.numbers.Mistake.{Mistake as NoValue}
use Rattle.pf_values.specs.declared.interfaces.interface.{OwnAddress.OwnAddress, Interface.Interface}

-- what stands before the length
abbrev pub before_slash : Word → Word
before_slash text = take_while (λ b. not (b == 47)) text

abbrev pub address_of : OwnAddress → Word
address_of h = before_slash h.network

-- given whether the address is one, and the network
abbrev pub held_if : Word → Result PlainNet NoValue → Result PlainNet NoValue → Option OwnAddress
held_if text (Ok a) (Ok n) = Some (record { network = text })
held_if text (Ok a) (Err m) = None
held_if text (Err m) n = None

-- an address, with the length of its network behind it
abbrev pub held_of : Word → Option OwnAddress
held_of text = held_if text (net_of (before_slash text)) (net_of text)

-- one behind others, if each is one
abbrev pub with_held : List OwnAddress → Option OwnAddress → Option (List OwnAddress)
with_held hs None = None
with_held hs (Some h) = Some (hs ++ h ∷ [])

unfoldable pub all_held : List OwnAddress → List Word → Option (List OwnAddress)
all_held hs [] = Some hs
all_held hs (text ∷ texts) = option_and_then (λ known. all_held known texts) (with_held hs (held_of text))

abbrev pub named : Result Word Kind → Option (List OwnAddress) → Option Interface
named (Ok name) (Some hs) = Some (record { name = name; addresses = hs })
named (Ok name) None = None
named (Err kind) hs = None

-- given the place of the first "="
abbrev pub interface_at : Word → Option ℕ → Option Interface
interface_at text None = None
interface_at text (Some i) = named (name_of INTERFACE_LIMIT (take i text)) (all_held [] (slice_split (λ b. b == 44) (drop (i + 1) text)))

abbrev pub interface_of : Word → Option Interface
interface_of text = interface_at text (position (λ b. b == 61) text)
