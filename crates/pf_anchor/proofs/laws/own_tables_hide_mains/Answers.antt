use Rattle.pf_anchor.proofs.TableMaps.{own_answers, own_hides_main, main_answers_else, none_else, others_answer_nothing}
use Rattle.pf_anchor.proofs.laws.own_tables_hide_mains.Goals as goal

pub returns : goal.returns
returns c = record { own = own_answers; hidden = own_hides_main; main = main_answers_else; none = none_else; others = others_answer_nothing }
