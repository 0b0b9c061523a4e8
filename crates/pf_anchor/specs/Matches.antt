-- Rules that decide, as evaluation finds them (pf.conf(5), PACKET FILTERING). That they are numbered from 0 is this project's own.
use Rattle.std.specs.Prelude.{ℕ, List}
use Rattle.pf_rule.specs.declared.rule.Action.{Action}

-- the ruleset's path, the rule's number there from 0, and what it does
pub record PlainMatch : Type 0 where
  pub path : List ℕ
  pub number : ℕ
  pub action : Action

abbrev pub found : List ℕ → ℕ → Action → PlainMatch
found p n a = record { path = p; number = n; action = a }
