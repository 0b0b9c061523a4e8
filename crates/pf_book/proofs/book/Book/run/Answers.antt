use Rattle.std.specs.Prelude.{nat_lt}
use Rattle.pf_core.specs.{Calls.call, Worlds.upshot}
use Rattle.pf_core.proofs.LongerWorlds.{stands-on}
use Rattle.pf_book.specs.Books.{world_book}
use Rattle.pf_book.proofs.{Calling.{own, own-at}, OpenedBooks.{images-of, folded-of}}
use Rattle.pf_book.proofs.book.Book.run.Goals as goal

pub returns-clause-worlds : goal.returns-clause-worlds
returns-clause-worlds g c = λ first world stands.
    let old = c.args.self.now in
    let new = c.call-reply.new.self in
    stands-on first (world_book old) (world_book new) world (call c.args.command c.call-reply.result.0) (upshot new.shown (nat_lt (g.D.Disk.fault_count old.disk) (g.D.Disk.fault_count new.disk))) stands (c.call-reply.ensures.leads stands.held stands.at)
    (folded-of c.self.invariant c.self.view_is)

pub returns-clause-images : goal.returns-clause-images
returns-clause-images g c = images-of c.self.invariant c.self.view_is

pub returns-clause-shown : goal.returns-clause-shown
returns-clause-shown g c = (c.call-reply.ensures.leads (own (world_book c.args.self.now)) (own-at (world_book c.args.self.now))).legal.shown

pub returns-clause-legal : goal.returns-clause-legal
returns-clause-legal g c = λ h at. (c.call-reply.ensures.leads h at).legal.reply

pub returns-clause-fold : goal.returns-clause-fold
returns-clause-fold g c = (folded-of c.self.invariant c.self.view_is).durable

pub returns-clause-published : goal.returns-clause-published
returns-clause-published g c = (folded-of c.self.invariant c.self.view_is).published

pub returns-clause-numbered : goal.returns-clause-numbered
returns-clause-numbered g c = c.call-reply.ensures.numbered

pub returns-clause-judged : goal.returns-clause-judged
returns-clause-judged g c = c.call-reply.ensures.judged

pub returns-clause-stays : goal.returns-clause-stays
returns-clause-stays g c = c.call-reply.ensures.stays

pub returns-clause-device : goal.returns-clause-device
returns-clause-device g c = c.call-reply.ensures.uses

pub returns-clause-opening : goal.returns-clause-opening
returns-clause-opening g c = c.call-reply.ensures.opening
