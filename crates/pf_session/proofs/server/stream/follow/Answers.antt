use Rattle.std.proofs.Common.{Err, Ok, ℕ, take, arith, length-take, rules}
use Rattle.std.specs.Io.KnownBytes.{Consumes, IsAtEnd}
use Rattle.pf_session.proofs.{Streaming.{nothing-yet, flushed-so_far, interrupted-so_far, flush-ends, on-so_far, over-ends, err-ends, end-ends}, server.stream.follow.Goals.{in-Ok+else-n-eq0+in-Ok-On, in-Err+else-ne}}
use Rattle.pf_session.proofs.server.stream.follow.Goals as goal

pub loop-init : goal.loop-init
loop-init g c = λ goes.
    nothing-yet g.J.Naming.base g.J.Chapter.setting (g.R.Read.remaining c.args.reader.now) c.args.follower.now.last (g.O.Write.contents c.args.writer.now) c.args.peer.now goes

pub returns-then-is_err-clause-part : goal.returns-then-is_err-clause-part
returns-then-is_err-clause-part g c = λ goes. flush-ends g.J.Naming.base g.J.Chapter.setting (c.loop.invariant goes) (g.O.Write.contents c.flush.new.self) c.flush.ensures.bytes

pub returns-then-is_due-clause-part : goal.returns-then-is_due-clause-part
returns-then-is_due-clause-part g c = λ goes. flushed-so_far g.J.Naming.base g.J.Chapter.setting (c.loop.invariant goes) (g.O.Write.contents c.flush.new.self) c.flush.ensures.bytes

pub returns-in-Ok-tell_end-clause-part : goal.returns-in-Ok-tell_end-clause-part
returns-in-Ok-tell_end-clause-part g c = λ goes.
    let base = g.J.Naming.base in
    let setting = g.J.Chapter.setting in
    let end : IsAtEnd (g.R.Read.remaining c.read.new.self) = search rules in
    let read : Consumes (g.R.Read.remaining c.loop.reader) (g.R.Read.remaining c.read.new.self) (take 0 c.read.new.buf) = rw c.if-n-eq0.true at c.in-Ok.ensures.bytes.0 in
    end-ends base setting (flushed-so_far base setting (c.loop.invariant goes) (g.O.Write.contents c.flush.new.self) c.flush.ensures.bytes)
    (Ok tt) (g.R.Read.remaining c.read.new.self) (g.O.Write.contents c.tell_end.new.writer) read end c.in-Ok-tell_end.ensures

pub returns-in-Err-tell_end-clause-part : goal.returns-in-Err-tell_end-clause-part
returns-in-Err-tell_end-clause-part g c = λ goes.
    let base = g.J.Naming.base in
    let setting = g.J.Chapter.setting in
    let end : IsAtEnd (g.R.Read.remaining c.read.new.self) = search rules in
    let read : Consumes (g.R.Read.remaining c.loop.reader) (g.R.Read.remaining c.read.new.self) (take 0 c.read.new.buf) = rw c.if-n-eq0.true at c.in-Ok.ensures.bytes.0 in
    end-ends base setting (flushed-so_far base setting (c.loop.invariant goes) (g.O.Write.contents c.flush.new.self) c.flush.ensures.bytes)
    (Err c.in-Err-tell_end.fault) (g.R.Read.remaining c.read.new.self) (g.O.Write.contents c.tell_end.new.writer) read end c.in-Err-tell_end.ensures

pub returns-in-Ok-Over-clause-part : goal.returns-in-Ok-Over-clause-part
returns-in-Ok-Over-clause-part g c = λ goes.
    let base = g.J.Naming.base in
    let setting = g.J.Chapter.setting in
    over-ends base setting (flushed-so_far base setting (c.loop.invariant goes) (g.O.Write.contents c.flush.new.self) c.flush.ensures.bytes)
    (g.R.Read.remaining c.read.new.self) (take c.in-Ok.n c.read.new.buf) c.take.new.peer c.take.new.self.last (g.O.Write.contents c.take.new.writer) c.in-Ok.ensures.bytes.0
    (rw c.in-Ok-Over.field-0-is at c.in-Ok-Over.ensures)

pub returns-in-Err-take-clause-part : goal.returns-in-Err-take-clause-part
returns-in-Err-take-clause-part g c = λ goes.
    let base = g.J.Naming.base in
    let setting = g.J.Chapter.setting in
    err-ends base setting (flushed-so_far base setting (c.loop.invariant goes) (g.O.Write.contents c.flush.new.self) c.flush.ensures.bytes)
    c.in-Err-take.fault (g.R.Read.remaining c.read.new.self) (take c.in-Ok.n c.read.new.buf) c.take.new.peer c.take.new.self.last (g.O.Write.contents c.take.new.writer)
    (omega (arith, length-take {A = ℕ})) c.in-Ok.ensures.bytes.0 c.in-Err-take.ensures

pub loop-preserved : goal.loop-preserved
loop-preserved g c = λ goes.
    let base = g.J.Naming.base in
    let setting = g.J.Chapter.setting in
    elim c.match-read.branch [
      | in-Ok+else-n-eq0+in-Ok-On w ↦ rw (w.peer-is, w.follower-is, w.writer-is) (
          on-so_far base setting (flushed-so_far base setting (c.loop.invariant goes) (g.O.Write.contents c.flush.new.self) c.flush.ensures.bytes)
          (g.R.Read.remaining c.read.new.self) (take w.in-Ok.n c.read.new.buf) w.take.new.peer w.take.new.self.last (g.O.Write.contents w.take.new.writer) w.in-Ok.ensures.bytes.0
          (rw w.in-Ok-On.field-0-is at w.in-Ok-On.ensures))
      | in-Err+else-ne w ↦ rw (w.peer-is, w.follower-is, w.writer-is) (
          interrupted-so_far base setting (flushed-so_far base setting (c.loop.invariant goes) (g.O.Write.contents c.flush.new.self) c.flush.ensures.bytes)
          (g.R.Read.remaining c.read.new.self) w.in-Err.ensures.bytes)
    ]
