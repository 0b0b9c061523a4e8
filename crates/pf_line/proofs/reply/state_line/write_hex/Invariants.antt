use Rattle.std.proofs.Common.{take}
use Rattle.hex.specs.Hex.{encode_lower}
use Rattle.pf_line.specs.Reply.TextLines.{GoesOn}
use Rattle.pf_line.proofs.reply.state_line.write_hex.Given as goal

abbrev pub invariant-loop-byte : goal.invariant-loop-byte
invariant-loop-byte g l = GoesOn l.fn.begun (g.W.Write.contents l.initial.out) l.so_far (g.W.Write.contents l.out) (encode_lower (take l.byte-index l.bytes))
