use Rattle.std.proofs.Common.{refl}
use Rattle.pf_session.proofs.Renewed.{gives-acked, goes-on}
use Rattle.pf_session.proofs.renewing.reopen.Goals as goal

pub returns-clause-renews : goal.returns-clause-renews
returns-clause-renews g c =
    gives-acked g.D.Disk.seen g.D.Disk.unsynced c.args.book c.args.book.disk refl c.between_calls.ensures.images c.open_again.result.0 c.open_again.result.1 c.open_again.ensures.acked c.open_again.ensures.opened

pub returns-clause-worlds : goal.returns-clause-worlds
returns-clause-worlds g c =
    goes-on g.D.Disk.seen g.D.Disk.unsynced c.args.book c.args.book.disk refl c.between_calls.ensures.images c.open_again.result.0 c.open_again.ensures.opened
