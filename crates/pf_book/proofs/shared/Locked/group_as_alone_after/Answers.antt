use Rattle.std.proofs.Common.{subst, sym}
use Rattle.std.proofs.lemmas.Option.{IfSome_then}
use Rattle.std.specs.Option.{option_copied}
use Rattle.pf_book.specs.{Books.{PlainBook, world_book}, Receipts.{IsReached, TakesUp}}
use Rattle.pf_book.proofs.shared.Locked.group_as_alone_after.Goals as goal

pub invariant_of-self : goal.invariant_of-self
invariant_of-self g c =
    subst (λ (b : PlainBook g.row.D.Denot). IsReached g.J.Naming.base g.J.Chapter.setting (world_book b)) (sym c.look_at.ensures.same) c.self.invariant

pub returns : goal.returns
returns g c =
    let takes : TakesUp (option_copied c.args.last) (world_book c.look_at.new.self) =
    subst (λ (b : PlainBook g.row.D.Denot). TakesUp (option_copied c.args.last) (world_book b)) (sym c.look_at.ensures.same) c.look_at.ensures.last in
    IfSome_then c.group_as_alone.result c.group_as_alone.ensures.answered (λ r answered. answered (option_copied c.args.last) takes)
