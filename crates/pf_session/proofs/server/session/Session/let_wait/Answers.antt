use Rattle.std.proofs.{Common.{ℕ, List, ◌∷◌, []}, lemmas.Result.err_from_is_err_and}
use Rattle.std.specs.Prelude.{Vec}
use Rattle.std.specs.declared.alloc.Global.{Global}
use Rattle.pf_core.specs.declared.command.Command.{Command}
use Rattle.pf_session.specs.Server.SessionRuns.{AreMeant, TakesInSession}
use Rattle.pf_session.proofs.AnsweredLines.{cut-longer, taken-then}
use Rattle.pf_session.proofs.server.session.Session.let_wait.Goals as goal

pub returns-in_err-answer_waiting : goal.returns-in_err-answer_waiting
returns-in_err-answer_waiting g c = λ lines line whole meant one is.
    let (e, failed, same) = err_from_is_err_and c.from_residual.result c.from_residual.ensures.1 in
    rw failed (cut-longer (TakesInSession g.G.Gate.passed g.J.Naming.base g.J.Chapter.setting) (whole ∷ []) (c.in_err-answer_waiting.ensures.reported lines meant))

pub returns : goal.returns
returns g c = λ lines line whole meant one is.
    taken-then (TakesInSession g.G.Gate.passed g.J.Naming.base g.J.Chapter.setting) (λ (ls : List (List ℕ)) (commands : Vec Command Global). AreMeant ls commands.items) c.hold-2.result (whole ∷ []) c.hold-2.new.self c.hold-2.new.waiting (g.O.Write.contents c.hold-2.new.writer)
    (c.in_ok-answer_waiting.ensures.reported lines meant) (c.hold-2.ensures [] line whole c.in_ok-answer_waiting.ensures.none one is)
