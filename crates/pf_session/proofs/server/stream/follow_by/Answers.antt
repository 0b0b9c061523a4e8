use Rattle.std.proofs.{Common.{[], arith, refl}, KnownBytes.Consumes-nil}
use Rattle.pf_session.proofs.Streaming.{none-answered}
use Rattle.pf_session.proofs.server.stream.follow_by.Goals as goal

pub returns-in_default : goal.returns-in_default
returns-in_default g c =
    let none = none-answered g.J.Naming.base g.J.Chapter.setting c.args.last.now (g.O.Write.contents c.args.writer.now) in
    record {
      pieces = [];
      left = _;
      are = refl;
      mid = c.args.last.now;
      shown = g.O.Write.contents c.args.writer.now;
      answered = none;
      bytes = [];
      read = Consumes-nil (g.R.Read.remaining c.args.reader.now);
      ends = (omega arith, ([], refl), none);
    }
