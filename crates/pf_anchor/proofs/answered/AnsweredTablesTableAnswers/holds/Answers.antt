use Rattle.pf_anchor.proofs.TablesAnswered.{answer_known, none_known}
use Rattle.pf_anchor.proofs.answered.AnsweredTablesTableAnswers.holds.Goals as goal

pub returns-in_default : goal.returns-in_default
returns-in_default c =
    let self = c.args.self.now in
    none_known self.packet.now self.config.now.tables self.path.now c.args.name.now c.args.address c.in_default.ensures

pub returns-in-Some-answer : goal.returns-in-Some-answer
returns-in-Some-answer c =
    let self = c.args.self.now in
    answer_known self.packet.now self.config.now.tables self.path.now c.args.name.now c.args.address c.in-Some.table.now.1 c.in-Some-answer.answer c.in-Some.ensures c.in-Some-answer.ensures
