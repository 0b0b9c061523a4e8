-- What a change leaves of a core.
use Rattle.std.specs.Prelude.{List}
use Rattle.pf_core.specs.Durable.Changes.{PlainDurable}
use Rattle.pf_ticket.specs.declared.name.RulesetName.{RulesetName}

-- what a change leaves, and the rulesets whose tickets it voids
pub record PlainNext : Type 0 where
  pub durable : PlainDurable
  pub voided : List RulesetName

abbrev pub next_with : PlainDurable → List RulesetName → PlainNext
next_with d names = record { durable = d; voided = names }
