use Rattle.std.proofs.Common.{string_bytes, take}
use Rattle.std.specs.{Prelude.flat_map, Io.KnownBytes.Appends}
use Rattle.pfd.specs.Program.{listening_text}
use Rattle.pfd.proofs.program.serving.tell_all.Given as goal

abbrev pub invariant-loop-name : goal.invariant-loop-name
invariant-loop-name g l = Appends (g.W.Write.contents l.fn.writer) (g.W.Write.contents l.writer) (flat_map (λ name. listening_text (string_bytes name)) (take l.name-index l.names))
