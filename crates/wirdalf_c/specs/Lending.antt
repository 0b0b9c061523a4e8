-- What a configuration holds once what it lent is back.
use Rattle.std.specs.{Prelude.{Some}, Borrow.{Lends, MutBor, Fml}}
use Rattle.pf_core.specs.Durable.Changes.{PlainDurable}
use Rattle.wirdalf_c.specs.{declared.configuration.Configuration.Configuration, contracts.configuration.Configuration.the_row}
use Rattle.wirdalf_c.specs.contracts.holding.Holding as holding

abbrev pub with_held : Configuration → PlainDurable → Configuration
with_held c d = record c { held = Some d }

-- c ends with the last value behind r
abbrev pub LendsHeld : MutBor Configuration → MutBor PlainDurable → Fml
LendsHeld c r = Lends the_row holding.the_row c r (with_held c.now)
