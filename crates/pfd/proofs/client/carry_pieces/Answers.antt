use Rattle.std.proofs.{Common.{◌++◌, take}, KnownBytes.{Appends-trans, Consumes-trans, Consumes-kept}}
use Rattle.pf_addr.specs.Writing.{WritesFront-then}
use Rattle.pfd.proofs.client.carry_pieces.Goals.{in-Ok+else-n-eq0+in-Ok-pass_on, in-Err+else-ne}
use Rattle.pfd.proofs.client.carry_pieces.Goals as goal

pub returns-in-Err-pass_on : goal.returns-in-Err-pass_on
returns-in-Err-pass_on g c =
    let (bytes, read, written) = c.loop.invariant in
    let piece = take c.in-Ok.n c.read.new.buf in
    record {
      bytes = bytes ++ piece;
      read = Consumes-trans (g.R.Read.remaining c.args.reader.now) (g.R.Read.remaining c.loop.reader) (g.R.Read.remaining c.read.new.self) bytes piece read c.in-Ok.ensures.bytes.0;
      carried = WritesFront-then (g.W.Write.contents c.args.writer.now) (g.W.Write.contents c.loop.writer) (g.W.Write.contents c.pass_on.new.writer) bytes piece written c.in-Err-pass_on.ensures;
    }

pub loop-preserved : goal.loop-preserved
loop-preserved g c =
    let (bytes, read, written) = c.loop.invariant in
    elim c.match-read.branch [
      | in-Ok+else-n-eq0+in-Ok-pass_on w ↦
          let piece = take w.in-Ok.n c.read.new.buf in
          rw w.writer-is (
            bytes ++ piece,
            Consumes-trans (g.R.Read.remaining c.args.reader.now) (g.R.Read.remaining c.loop.reader) (g.R.Read.remaining c.read.new.self) bytes piece read w.in-Ok.ensures.bytes.0,
            Appends-trans (g.W.Write.contents c.args.writer.now) (g.W.Write.contents c.loop.writer) (g.W.Write.contents w.pass_on.new.writer) bytes piece written w.in-Ok-pass_on.ensures,
          )
      | in-Err+else-ne w ↦ rw w.writer-is (
        bytes,
        Consumes-kept (g.R.Read.remaining c.args.reader.now) (g.R.Read.remaining c.loop.reader) (g.R.Read.remaining c.read.new.self) bytes read w.in-Err.ensures.bytes,
        written,
      )
    ]
