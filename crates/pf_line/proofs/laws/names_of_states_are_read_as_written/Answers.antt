use Rattle.pf_form.specs.Laws.Form.Numbers.{number_in_found, number_in_only}
use Rattle.pf_line.proofs.laws.names_of_states_are_read_as_written.Goals as goal

pub returns-clause-id : goal.returns-clause-id
returns-clause-id c = number_in_found 64 20

pub returns-clause-written_id : goal.returns-clause-written_id
returns-clause-written_id c = number_in_only 64 20

pub returns-clause-creator : goal.returns-clause-creator
returns-clause-creator c = number_in_found 32 10

pub returns-clause-written_creator : goal.returns-clause-written_creator
returns-clause-written_creator c = number_in_only 32 10
