use Rattle.std.proofs.Common.{◌≡◌, Some}
use Rattle.pf_conf.proofs.CommitTexts.{a_line_read}
use Rattle.pf_commit.proofs.replies.read_reply.Goals as goal

pub returns-in-Some-eq10 : goal.returns-in-Some-eq10
returns-in-Some-eq10 g c =
    a_line_read (g.B.Read.remaining c.args.replies.now) (g.B.Read.remaining c.read_until.new.self) c.new-reply.result.items c.read_until.new.buf.items c.pop.new.self.items c.pop.result
    c.new-reply.ensures.items c.pop.ensures.items (let is : c.pop.result ≡ Some 10 = cc in is) c.read_until.ensures.none_lost
