use Rattle.std.proofs.Common.{false, ap, ◌∙◌, subst}
use Rattle.pf_core.specs.{Durable.Changes.{PlainDurable, verdict}, WorldBooks.{WorldBook, IsFolded}, Worlds.upshot}
use Rattle.pf_core.proofs.LongerWorlds.{stands-on}
use Rattle.pf_book.specs.Books.{PlainBook, world_book, judging}
use Rattle.pf_book.proofs.Calling.{judged-leads}
use Rattle.pf_book.proofs.book.Book.judge.Goals as goal

pub returns-clause-worlds : goal.returns-clause-worlds
returns-clause-worlds g c = λ first world stands.
    let b : WorldBook = world_book c.args.self.now in
    let is = c.verdict.ensures ∙ ap (λ (d : PlainDurable). verdict d c.args.packet.now) (c.durable.ensures ∙ ap (λ (l : PlainBook g.row.D.Denot). l.whole.durable) c.self.view_is) in
    let folded : IsFolded b = subst (λ (l : PlainBook g.row.D.Denot). IsFolded (world_book l)) c.self.view_is c.self.invariant.folded in
    stands-on first b b world (judging c.args.packet.now c.verdict.result) (upshot b.shown false) stands
    (judged-leads stands.held b c.args.packet.now c.verdict.result folded is stands.at) folded
