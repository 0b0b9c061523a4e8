use Rattle.std.proofs.Common.{◌≡◌, ℕ, List, [], ◌∷◌, refl, subst}
use Rattle.pf_session.specs.{Laws.Seeing.seen-replied, Serving.CallsOrShows, Telling.IsReplyTo}
use Rattle.pf_session.proofs.AnsweredLines.{all-taken, line-answers}
use Rattle.pf_session.proofs.engine.BookAnswerLine.take_line.Goals as goal

pub returns : goal.returns
returns g c = λ lines whole none is.
    let (text, reported, written) = c.answer_line.ensures in
    let Runs = CallsOrShows g.D.Disk.fault_count in
    let old = c.args.self.now in
    let new = c.answer_line.new.self in
    let held = g.W.Write.contents c.args.writer.now in
    let held' = g.W.Write.contents c.answer_line.new.writer in
    let whole_reported = seen-replied Runs old new whole text (subst (λ (l : List ℕ). IsReplyTo Runs l old new text) is reported) in
    rw none (all-taken (IsReplyTo Runs) (λ (ls : List (List ℕ)) (w : Unit {0}). ls ≡ []) c.answer_line.result (whole ∷ []) old new tt held held' refl
    (line-answers (IsReplyTo Runs) c.answer_line.result held held' whole text whole_reported written))
