use Rattle.std.proofs.Common.{take}
use Rattle.std.specs.{Prelude.flat_map, Io.KnownBytes.Appends}
use Rattle.pf_line.specs.Reply.Replies.{reply_text}
use Rattle.pf_session.proofs.server.stream.write_replies.Given as goal

abbrev pub invariant-loop-answer : goal.invariant-loop-answer
invariant-loop-answer g l = Appends (g.O.Write.contents l.fn.writer) (g.O.Write.contents l.writer) (flat_map (λ a. reply_text a.0) (take l.answer-index l.answers))
