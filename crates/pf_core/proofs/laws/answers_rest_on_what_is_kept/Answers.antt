use Rattle.pf_core.proofs.Answered.{tests_tell_the_entry, judges_tell_the_verdict}
use Rattle.pf_core.proofs.laws.answers_rest_on_what_is_kept.Goals as goal

pub returns : goal.returns
returns c = record { tests = tests_tell_the_entry; judges = judges_tell_the_verdict }
