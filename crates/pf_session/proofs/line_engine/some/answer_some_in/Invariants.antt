use Rattle.std.proofs.Common.{◌≡◌, ℕ, ◌≤◌, ◌++◌, List, take, Option}
use Rattle.pf_session.specs.{LineEngine.Chains.Chain, LineEngine.Pieces.SessionSoFar}
use Rattle.pf_session.proofs.line_engine.some.answer_some_in.Given as goal

abbrev pub invariant-loop-byte : goal.invariant-loop-byte
invariant-loop-byte g l = record {
  few : l.len ≤ 4097;
  used_is : l.used ≡ l.byte-index;
  session : (input : List ℕ) (start : g.row.A.Denot) (held : Option (List ℕ)) → SessionSoFar (Chain g.A.AnswerSome.Takes) input (take l.fn.kept l.fn.line) start l.fn.answerer held (g.W.Write.contents l.fn.writer) →
      SessionSoFar (Chain g.A.AnswerSome.Takes) (input ++ take l.byte-index l.piece) (take l.len l.line) start l.answerer held (g.W.Write.contents l.writer);
}
