-- Ports (pf.conf(5), "port"): numbers, services, and two with a colon between them.
use Rattle.std.specs.{Prelude.{ℕ, ◌+◌, ◌==◌, take, drop, position, Option, Some, None, Result, Ok, Err, if◌then◌else◌}, Option.ok_or}
use Rattle.pf_form.specs.Form.Forms.{◌>>=◌}
use Rattle.pf_values.specs.declared.{numbers.Mistake.Mistake, numbers.Mistake.TheVariants.{Port, PortNumber, Colon}, names.TheConstants.SERVICES, ports.PortNumbers.PortNumbers, ports.PortNumbers.TheVariants.{One, Range}}
use Rattle.pf_values.specs.{Numbers.{Word, is_digits, number_between}, Named.{rows_of, number_in}}

unfoldable pub port_of : Word → Result ℕ Mistake
port_of text = if is_digits text then number_between 0 65535 text PortNumber else ok_or (number_in (rows_of SERVICES) text) Port

-- the place of the first colon
abbrev pub colon_in : Word → Option ℕ
colon_in text = position (λ b. b == 58) text

abbrev pub single_port_by : Word → Option ℕ → Result ℕ Mistake
single_port_by text None = port_of text
single_port_by text (Some i) = Err Colon

abbrev pub single_port_of : Word → Result ℕ Mistake
single_port_of text = single_port_by text (colon_in text)

abbrev pub range : ℕ → ℕ → PortNumbers
range first last = if first == last then One first else Range first last

abbrev pub ports_by : Word → Option ℕ → Result PortNumbers Mistake
ports_by text None = port_of text >>= λ n. Ok (One n)
ports_by text (Some i) = port_of (take i text) >>= λ first. port_of (drop (i + 1) text) >>= λ last. Ok (range first last)

abbrev pub ports_of : Word → Result PortNumbers Mistake
ports_of text = ports_by text (colon_in text)
