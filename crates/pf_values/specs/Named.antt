-- Protocols and services by their names (IANA's registries; services(5), protocols(5)).
use Rattle.std.specs.{Prelude.{ℕ, List, [], ◌∷◌, map, Option, Some, None, Result, if◌then◌else◌}, Str.bytes_eq, Option.ok_or}
use denote.Ref.{Bor}
use Rattle.pf_values.specs.declared.{numbers.Mistake.Mistake, numbers.Mistake.TheVariants.{Protocol, ProtocolNumber}, names.TheConstants.PROTOCOLS}
use Rattle.pf_values.specs.Numbers.{Word, number_between}

-- a row of a table: a name and its number
abbrev pub Row : Type 0
Row = Word × ℕ

-- the rows of a table that is a constant
abbrev pub rows_of : List (record { now : Word } × ℕ) → List Row
rows_of = map (λ (r : record { now : Word } × ℕ). (r.0.now, r.1))

-- the same of one that is passed
abbrev pub rows_in : List (Bor Word × ℕ) → List Row
rows_in = map (λ (r : Bor Word × ℕ). (r.0.now, r.1))

-- the number of a name in a table
unfoldable pub number_in : List Row → Word → Option ℕ
number_in [] name = None
number_in (row ∷ rows) name = if bytes_eq row.0 name then Some row.1 else number_in rows name

abbrev pub protocol_named : Word → Result ℕ Mistake
protocol_named name = ok_or (number_in (rows_of PROTOCOLS) name) Protocol

abbrev pub protocol_numbered : Word → Result ℕ Mistake
protocol_numbered digits = number_between 1 255 digits ProtocolNumber
