use Rattle.pf_table.proofs.TableLaws.{one_answer_each, answers_in_order, counts_what_changed, repeats_change_nothing}
use Rattle.pf_table.proofs.laws.answers_say_what_changed.Goals as goal

pub returns-clause-each : goal.returns-clause-each
returns-clause-each c = one_answer_each

pub returns-clause-entries : goal.returns-clause-entries
returns-clause-entries c = answers_in_order

pub returns-clause-counts : goal.returns-clause-counts
returns-clause-counts c = counts_what_changed

pub returns-clause-repeats : goal.returns-clause-repeats
returns-clause-repeats c = repeats_change_nothing
