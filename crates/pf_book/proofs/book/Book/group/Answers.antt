use Rattle.std.proofs.Common.{sym, subst}
use Rattle.std.specs.Prelude.{nat_lt}
use Rattle.pf_core.specs.Worlds.{Upshot, upshot}
use Rattle.pf_core.proofs.LongerWorlds.{stands-on-group}
use Rattle.pf_book.specs.{Books.{listed, world_book}, Groups.IsGroupCall}
use Rattle.pf_book.proofs.{Calling.{own, own-at}, Grouping.numbered-by, OpenedBooks.{images-of, folded-of}}
use Rattle.pf_book.proofs.book.Book.group.Given.{Over}
use Rattle.pf_book.proofs.book.Book.group.Goals.{After-alone-result}
use Rattle.pf_book.proofs.book.Book.group.Goals as goal

module _ (g : Over) (c : After-alone-result g) where
  abbrev came : Upshot
  came = upshot c.call_all.new.self.shown (nat_lt (g.D.Disk.fault_count c.args.self.now.disk) (g.D.Disk.fault_count c.call_all.new.self.disk))

  called : IsGroupCall g.D.Disk c.args.self.now c.call_all.new.self c.args.commands.now (listed c.alone-result.result)
  called = subst (IsGroupCall g.D.Disk c.args.self.now c.call_all.new.self c.args.commands.now) (sym c.alone-result.ensures) c.call_all.ensures

pub returns-clause-worlds : goal.returns-clause-worlds
returns-clause-worlds g c first world stands =
    let here = (goal.at.returns-clause-worlds g c).After-alone-result in
    stands-on-group first (world_book c.args.self.now) (world_book c.call_all.new.self) world c.args.commands.now (listed c.alone-result.result) (came g here) stands ((called g here).leads stands.held stands.at) (folded-of c.self.invariant c.self.view_is)

pub returns-clause-legal : goal.returns-clause-legal
returns-clause-legal g c h at = ((called g (goal.at.returns-clause-legal g c).After-alone-result).leads h at).legal.reply

pub returns-clause-images : goal.returns-clause-images
returns-clause-images g c = images-of c.self.invariant c.self.view_is

pub returns-clause-shown : goal.returns-clause-shown
returns-clause-shown g c = ((called g (goal.at.returns-clause-shown g c).After-alone-result).leads (own (world_book c.args.self.now)) (own-at (world_book c.args.self.now))).legal.shown

pub returns-clause-numbered : goal.returns-clause-numbered
returns-clause-numbered g c =
    let here = (goal.at.returns-clause-numbered g c).After-alone-result in
    let b = world_book c.args.self.now in
    numbered-by b (world_book c.call_all.new.self) c.args.commands.now (listed c.alone-result.result) (came g here) ((called g here).leads (own b) (own-at b))

pub returns-clause-stays : goal.returns-clause-stays
returns-clause-stays g c = (called g (goal.at.returns-clause-stays g c).After-alone-result).stays

pub returns-clause-fold : goal.returns-clause-fold
returns-clause-fold g c = (folded-of c.self.invariant c.self.view_is).durable

pub returns-clause-published : goal.returns-clause-published
returns-clause-published g c = (folded-of c.self.invariant c.self.view_is).published

pub returns-clause-device : goal.returns-clause-device
returns-clause-device g c = (called g (goal.at.returns-clause-device g c).After-alone-result).uses

pub returns-clause-opening : goal.returns-clause-opening
returns-clause-opening g c = c.call_all.ensures.opening
