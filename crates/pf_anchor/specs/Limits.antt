-- How many rulesets and tables there may be, and what refuses a change that would leave more.
use Rattle.std.specs.Prelude.{nat_lt, cond, length, Option, Some, None}
use Rattle.pf_anchor.specs.{declared.{fault.ConfigFault.ConfigFault, limits.TheConstants.RULESET_LIMIT, limits.TheConstants.TABLE_COUNT_LIMIT}, Configurations.PlainConfig}
use Rattle.pf_anchor.specs.declared.fault.ConfigFault.TheVariants as fault

-- what refuses a change of a ruleset, by what it would leave
abbrev pub ruleset_refusal : PlainConfig → Option ConfigFault
ruleset_refusal after = cond (nat_lt RULESET_LIMIT (length after.rulesets)) (Some fault.TooManyRulesets) None

-- what refuses a change of a table, by what it would leave
abbrev pub table_refusal : PlainConfig → Option ConfigFault
table_refusal after = cond (nat_lt TABLE_COUNT_LIMIT (length after.tables)) (Some fault.TooManyTables) None
