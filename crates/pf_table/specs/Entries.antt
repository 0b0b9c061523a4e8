-- Entries of tables (pf.conf(5), TABLES): networks, each plain or negated.
use Rattle.std.specs.Prelude.{Bool}
use Rattle.pf_addr.specs.Address.{PlainNet}

-- An entry: its network, and its sign, which is true where it is negated.
abbrev pub PlainEntry : Type 0
PlainEntry = PlainNet × Bool
