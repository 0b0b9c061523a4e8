use Rattle.std.proofs.Common.{◌≡◌, List, length, take, min, sym, ap, ◌∙◌, subst, arith}
use Rattle.std.specs.{Arc.arc_value, Option.option_map}
use Rattle.pf_core.specs.{Durable.Changes.PlainChange, Worlds.flat}
use Rattle.pf_view.specs.Past.Pasts.{PlainFront}
use Rattle.pf_book.specs.{Books.{PlainBook, world_book, log_in}, Receipts.{EndsIn, token_of}}
use Rattle.pf_book.proofs.OpenedBooks.{acked-of, log-of, token-of}
use Rattle.pf_book.proofs.book.Book.receipt.Given.{Over}
use Rattle.pf_book.proofs.book.Book.receipt.Goals.{After-front}
use Rattle.pf_book.proofs.book.Book.receipt.Goals as goal

-- the front is the whole history, with all that was acknowledged
module _ (g : Over) (c : After-front g) where
  whole : c.front.result.front ≡ log_in (world_book c.args.self.now)
  whole = ap (λ (p : PlainFront). p.front) c.front.ensures ∙ c.self.invariant.log_is ∙ sym (log-of c.self.invariant c.self.view_is)

  acked : c.front.result.acked ≡ length (flat c.args.self.now.acked)
  acked = ap (λ (p : PlainFront). p.acked) c.front.ensures ∙ c.self.invariant.acked_is ∙ acked-of c.self.invariant c.self.view_is

pub invariant_of-result : goal.invariant_of-result
invariant_of-result g c =
    let here = (goal.at.invariant_of-result g c).After-front in
    record {
      within = omega (arith, c.requires.within, ap length (whole g here));
      last = λ e some. subst (λ (l : List PlainChange). EndsIn (take c.args.seq l) e) (sym (whole g here)) (c.requires.last e some).0;
      acked = λ e some. omega (arith, (c.requires.last e some).1, acked g here);
      shown_is = c.len.ensures ∙ sym (c.showing.ensures ∙ c.self.invariant.noted);
    }

pub returns : goal.returns
returns g c =
    let here = (goal.at.returns g c).After-front in
    let shown : c.len.result ≡ c.args.self.now.shown = c.len.ensures ∙ ap (λ (l : PlainBook g.row.D.Denot). l.shown) c.self.view_is in
    let token : c.token_after.result ≡ token_of c.args.reply.now (log_in (world_book c.args.self.now)) = c.token_after.ensures ∙ token-of c.self.invariant c.self.view_is c.args.reply.now c.requires.shown in
    λ j. record { front = take c.args.seq (whole g here j); acked = min c.args.seq (acked g here j); shown = shown j; change = option_map arc_value c.args.change; token = token j }
