use Rattle.std.proofs.Common.{take}
use Rattle.std.specs.{Prelude.flat_map, Io.KnownBytes.Appends}
use Rattle.pf_core.specs.declared.reply.Reply.TheVariants.{Refused}
use Rattle.pf_line.specs.Reply.Replies.{reply_text}
use Rattle.pf_session.proofs.server.stream.refuse_each.Given as goal

abbrev pub invariant-loop : goal.invariant-loop
invariant-loop g l = Appends (g.O.Write.contents l.fn.writer) (g.O.Write.contents l.writer) (flat_map (λ c. reply_text (Refused l.refusal)) (take l.index l.commands))
