-- What C's record of a verdict says.
use Rattle.std.specs.Prelude.{◌≡◌, ℕ, List, [], length, take, slice_get, Option, Some, None, if◌then◌else◌}
use Rattle.pf_rule.specs.declared.rule.{Action.Action, Action.TheVariants.{Pass, Block}}
use Rattle.pf_anchor.specs.declared.verdict.RuleVerdict.TheVariants as ruled
use Rattle.pf_core.specs.declared.durable.verdict.{Verdict.Verdict, Verdict.TheVariants.{State as Stateful, Rules}}
use Rattle.wirdalf_c.specs.declared.record.{VerdictRecord.VerdictRecord, TheConstants.{BY_NOTHING, BY_STATE, BY_RULE, BY_DEFAULT, PASS, BLOCK}}

-- What the fields say.
pub record Fields : Type 0 where
  pub by : ℕ
  pub action : ℕ
  pub keeps_state : ℕ
  pub state_id : ℕ
  pub state_creator : ℕ
  pub rule : ℕ
  pub path : List ℕ

-- what decides and what is done; a field that has no use is 0, and the path is empty
abbrev pub only : (by action : ℕ) → Fields
only by action = record { by = by; action = action; keeps_state = 0; state_id = 0; state_creator = 0; rule = 0; path = [] }

abbrev pub action_code : Action → ℕ
action_code (Pass keeps) = PASS
action_code Block = BLOCK

abbrev pub keeps_code : Action → ℕ
keeps_code (Pass keeps) = if keeps then 1 else 0
keeps_code Block = 0

-- for each verdict; what is no packet is blocked
abbrev pub fields_of : Option Verdict → Fields
fields_of None = only BY_NOTHING BLOCK
fields_of (Some (Stateful name)) = record (only BY_STATE PASS) { state_id = name.id; state_creator = name.creator }
fields_of (Some (Rules ruled.Default)) = only BY_DEFAULT PASS
fields_of (Some (Rules (ruled.Rule path number action))) =
    record (only BY_RULE (action_code action)) { keeps_state = keeps_code action; rule = number; path = path }

-- The record has these fields, each of them exactly, and a zero stands behind the path.
pub record HasFields (v : VerdictRecord) (fields : Fields) : Type 0 where
  pub by : v.by ≡ fields.by
  pub action : v.action ≡ fields.action
  pub keeps_state : v.keeps_state ≡ fields.keeps_state
  pub state_id : v.state_id ≡ fields.state_id
  pub state_creator : v.state_creator ≡ fields.state_creator
  pub rule : v.rule ≡ fields.rule
  pub path_length : v.path_length ≡ length fields.path
  pub path : take v.path_length v.path ≡ fields.path
  pub zero : slice_get v.path v.path_length ≡ Some 0

-- The record says this verdict, or that there is none.
unfoldable pub SaysVerdict : VerdictRecord → Option Verdict → Type 0
SaysVerdict v verdict = HasFields v (fields_of verdict)
