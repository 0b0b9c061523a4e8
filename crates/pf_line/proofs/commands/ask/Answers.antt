use Rattle.std.proofs.Common.{sym, subst, ◌∙◌}
use Rattle.std.specs.Prelude.{codes, Result, List}
use Rattle.pf_form.specs.{Form.Words.{Word, texts}, Form.Forms.or, Form.Readers.GivesWhole}
use Rattle.pf_form.specs.declared.form.fault.Kind.{Kind}
use Rattle.pf_core.specs.declared.command.Command.{Command}
use Rattle.pf_rule.specs.declared.fault.Mistake.{Mistake}
use Rattle.pf_line.specs.Grammar.{judged, tested, overview, question}
use Rattle.pf_line.proofs.Choices.{here, elsewhere}
use Rattle.pf_line.proofs.commands.ask.Goals as goal

pub returns-then-takes : goal.returns-then-takes
unfolding question
returns-then-takes c =
    let same = here (codes "judge") judged (or (codes "test") tested overview) (texts c.args.words.now) (texts c.takes.new.words.now) c.takes.result c.takes.ensures c.if-takes.true in
    subst (λ (q : Result (Result Command Mistake) (Kind × List Word)). GivesWhole (λ x. x) c.judge.result q) (sym same) c.judge.ensures

pub returns-then-takes-2 : goal.returns-then-takes-2
unfolding question
returns-then-takes-2 c =
    let first = elsewhere (codes "judge") judged (or (codes "test") tested overview) (texts c.args.words.now) (texts c.takes.new.words.now) c.takes.result c.takes.ensures c.if-takes.false in
    let second = here (codes "test") tested overview (texts c.takes.new.words.now) (texts c.takes-2.new.words.now) c.takes-2.result c.takes-2.ensures c.if-takes-2.true in
    subst (λ (q : Result (Result Command Mistake) (Kind × List Word)). GivesWhole (λ x. x) c.test.result q) (sym (first ∙ second)) c.test.ensures
