use Rattle.std.proofs.Common.{ℕ, ◌++◌, List}
use Rattle.pf_session.specs.LineEngine.Intakes.{HasBegun}
use Rattle.pf_session.proofs.Pausing.{PartSoFar}
use Rattle.pf_session.proofs.line_engine.engine.some.go_on_some.Given as goal

abbrev pub invariant-loop : goal.invariant-loop
invariant-loop g l = (begun : List ℕ) → HasBegun l.fn.intake begun →
    PartSoFar g.A.AnswerSome.Takes (begun ++ l.fn.intake.ahead) l.intake (g.R.Read.remaining l.fn.reader) (g.R.Read.remaining l.reader) l.fn.answerer l.answerer (g.W.Write.contents l.fn.writer) (g.W.Write.contents l.writer)
