use Rattle.std.proofs.Common.{sym, subst, ◌∙◌}
use Rattle.std.specs.Prelude.{codes, Result, List}
use Rattle.pf_form.specs.{Form.Words.{Word, texts}, Form.Forms.or, Form.Readers.GivesWhole}
use Rattle.pf_form.specs.declared.form.fault.Kind.{Kind}
use Rattle.pf_core.specs.declared.command.Command.{Command}
use Rattle.pf_rule.specs.declared.fault.Mistake.{Mistake}
use Rattle.pf_line.specs.Grammar.{tracked, state_killed, expired, history_or_question, state_or_question}
use Rattle.pf_line.proofs.Choices.{here, elsewhere}
use Rattle.pf_line.proofs.commands.change_state_or_ask.Goals as goal

pub returns-then-takes : goal.returns-then-takes
unfolding state_or_question
returns-then-takes c =
    let same = here (codes "track") tracked (or (codes "kill") state_killed (or (codes "expire") expired history_or_question)) (texts c.args.words.now) (texts c.takes.new.words.now) c.takes.result c.takes.ensures c.if-takes.true in
    subst (λ (q : Result (Result Command Mistake) (Kind × List Word)). GivesWhole (λ x. x) c.track.result q) (sym same) c.track.ensures

pub returns-then-takes-2 : goal.returns-then-takes-2
unfolding state_or_question
returns-then-takes-2 c =
    let first = elsewhere (codes "track") tracked (or (codes "kill") state_killed (or (codes "expire") expired history_or_question)) (texts c.args.words.now) (texts c.takes.new.words.now) c.takes.result c.takes.ensures c.if-takes.false in
    let second = here (codes "kill") state_killed (or (codes "expire") expired history_or_question) (texts c.takes.new.words.now) (texts c.takes-2.new.words.now) c.takes-2.result c.takes-2.ensures c.if-takes-2.true in
    subst (λ (q : Result (Result Command Mistake) (Kind × List Word)). GivesWhole (λ x. x) c.kill_state.result q) (sym (first ∙ second)) c.kill_state.ensures

pub returns-then-takes-3 : goal.returns-then-takes-3
unfolding state_or_question
returns-then-takes-3 c =
    let first = elsewhere (codes "track") tracked (or (codes "kill") state_killed (or (codes "expire") expired history_or_question)) (texts c.args.words.now) (texts c.takes.new.words.now) c.takes.result c.takes.ensures c.if-takes.false in
    let second = elsewhere (codes "kill") state_killed (or (codes "expire") expired history_or_question) (texts c.takes.new.words.now) (texts c.takes-2.new.words.now) c.takes-2.result c.takes-2.ensures c.if-takes-2.false in
    let third = here (codes "expire") expired history_or_question (texts c.takes-2.new.words.now) (texts c.takes-3.new.words.now) c.takes-3.result c.takes-3.ensures c.if-takes-3.true in
    subst (λ (q : Result (Result Command Mistake) (Kind × List Word)). GivesWhole (λ x. x) c.expire.result q) (sym (first ∙ second ∙ third)) c.expire.ensures
