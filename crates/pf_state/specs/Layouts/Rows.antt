-- The table that rows of states make.
use Rattle.std.specs.Prelude.{◌≡◌, true, false, List, map, Option, Some, None}
use Rattle.pf_form.specs.Bytes.Forms.{Value}
use Rattle.pf_state.specs.{declared.layouts.state.StoredState.StoredState, Layouts.States.{StateShape, plain_state, plain_states, are_a_table}, States.PlainState}

abbrev pub plain_row : StoredState → Value StateShape
plain_row r = plain_state r.state

-- a table of just these, or none if they don't make one
abbrev pub IsTableOf : List StoredState → Option (List PlainState) → Type 0
IsTableOf rows (Some es) = (are_a_table (map plain_row rows) ≡ true) × (plain_states es ≡ map plain_row rows)
IsTableOf rows None = are_a_table (map plain_row rows) ≡ false
