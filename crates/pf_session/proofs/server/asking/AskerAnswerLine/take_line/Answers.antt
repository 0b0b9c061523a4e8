use Rattle.std.proofs.Common.{◌≡◌, ℕ, List, [], ◌∷◌, refl, subst}
use Rattle.pf_session.specs.{Laws.Asking.asks-seen, Server.AskingRuns.TakesInAsking}
use Rattle.pf_session.proofs.AnsweredLines.{all-taken, line-answers}
use Rattle.pf_session.proofs.server.asking.AskerAnswerLine.take_line.Goals as goal

pub returns : goal.returns
returns g c = λ lines whole none is.
    let (text, takes, written) = c.answer_line.ensures in
    let passed = g.G.Gate.passed in
    let base = g.J.Naming.base in
    let setting = g.J.Chapter.setting in
    let old = c.args.self.now in
    let new = c.answer_line.new.self in
    let held = g.O.Write.contents c.args.writer.now in
    let held' = g.O.Write.contents c.answer_line.new.writer in
    let whole_takes = asks-seen passed base setting old new whole text (subst (λ (l : List ℕ). TakesInAsking passed base setting l old new text) is takes) in
    rw none (all-taken (TakesInAsking passed base setting) (λ (ls : List (List ℕ)) (w : Unit {0}). ls ≡ []) c.answer_line.result (whole ∷ []) old new tt held held' refl
    (line-answers (TakesInAsking passed base setting) c.answer_line.result held held' whole text whole_takes written))
