use Rattle.std.proofs.{Common.{ℕ, List, ◌∷◌, ◌++◌, [], subst}, lemmas.Result.err_from_is_err_and}
use Rattle.std.specs.Prelude.{Vec}
use Rattle.std.specs.declared.alloc.Global.{Global}
use Rattle.pf_core.specs.declared.command.Command.{Command}
use Rattle.pf_session.specs.{Laws.Server.attends-seen, Server.SessionRuns.{AreMeant, TakesInSession}}
use Rattle.pf_session.proofs.AnsweredLines.{all-taken, answers-onto, cut-longer, line-answers}
use Rattle.pf_session.proofs.server.session.Session.answer_after.Goals as goal

pub returns-in_err-answer_waiting : goal.returns-in_err-answer_waiting
returns-in_err-answer_waiting g c = λ lines line whole meant parses refused is.
    let (e, failed, same) = err_from_is_err_and c.from_residual.result c.from_residual.ensures.1 in
    rw failed (cut-longer (TakesInSession g.G.Gate.passed g.J.Naming.base g.J.Chapter.setting) (whole ∷ []) (c.in_err-answer_waiting.ensures.reported lines meant))

pub returns : goal.returns
returns g c = λ lines line whole meant parses refused is.
    let passed = g.G.Gate.passed in
    let base = g.J.Naming.base in
    let setting = g.J.Chapter.setting in
    let (text, takes, written) = c.answer_alone.ensures line parses refused in
    let old = c.answer_waiting.new.self in
    let new = c.answer_alone.new.self in
    let whole_takes = attends-seen passed base setting old new whole text (subst (λ (l : List ℕ). TakesInSession passed base setting l old new text) is takes) in
    all-taken (TakesInSession passed base setting) (λ (ls : List (List ℕ)) (commands : Vec Command Global). AreMeant ls commands.items) c.answer_alone.result (lines ++ whole ∷ []) c.args.self.now new c.answer_waiting.new.waiting (g.O.Write.contents c.args.writer.now) (g.O.Write.contents c.answer_alone.new.writer) c.in_ok-answer_waiting.ensures.none
    (answers-onto (TakesInSession passed base setting) c.answer_alone.result (whole ∷ []) new (g.O.Write.contents c.answer_alone.new.writer) (c.in_ok-answer_waiting.ensures.reported lines meant)
    (line-answers (TakesInSession passed base setting) c.answer_alone.result (g.O.Write.contents c.answer_waiting.new.writer) (g.O.Write.contents c.answer_alone.new.writer) whole text whole_takes written))
