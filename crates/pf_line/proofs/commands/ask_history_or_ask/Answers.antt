use Rattle.std.proofs.Common.{sym, subst, ◌∙◌}
use Rattle.std.specs.Prelude.{codes, Result, List}
use Rattle.pf_form.specs.{Form.Words.{Word, texts}, Form.Forms.or, Form.Readers.GivesWhole}
use Rattle.pf_form.specs.declared.form.fault.Kind.{Kind}
use Rattle.pf_core.specs.declared.{command.Command.Command, command.HistoryCommand.TheVariants.{Log, Publish}}
use Rattle.pf_rule.specs.declared.fault.Mistake.{Mistake}
use Rattle.pf_line.specs.Grammar.{alone, question, history_or_question}
use Rattle.pf_line.proofs.Choices.{here, elsewhere}
use Rattle.pf_line.proofs.commands.ask_history_or_ask.Goals as goal

pub returns-then-takes : goal.returns-then-takes
unfolding history_or_question
returns-then-takes c =
    let same = here (codes "log") (alone Log) (or (codes "publish") (alone Publish) question) (texts c.args.words.now) (texts c.takes.new.words.now) c.takes.result c.takes.ensures c.if-takes.true in
    subst (λ (q : Result (Result Command Mistake) (Kind × List Word)). GivesWhole (λ x. x) c.ask_history.result q) (sym same) c.ask_history.ensures

pub returns-then-takes-2 : goal.returns-then-takes-2
unfolding history_or_question
returns-then-takes-2 c =
    let first = elsewhere (codes "log") (alone Log) (or (codes "publish") (alone Publish) question) (texts c.args.words.now) (texts c.takes.new.words.now) c.takes.result c.takes.ensures c.if-takes.false in
    let second = here (codes "publish") (alone Publish) question (texts c.takes.new.words.now) (texts c.takes-2.new.words.now) c.takes-2.result c.takes-2.ensures c.if-takes-2.true in
    subst (λ (q : Result (Result Command Mistake) (Kind × List Word)). GivesWhole (λ x. x) c.ask_history-then-takes-2.result q) (sym (first ∙ second)) c.ask_history-then-takes-2.ensures
