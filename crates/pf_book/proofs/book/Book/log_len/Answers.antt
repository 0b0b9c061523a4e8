use Rattle.std.proofs.{Common.{◌≡◌, length, map, sym, ap, ◌∙◌, arith}, lemmas.Grind.common_steps}
use Rattle.std.specs.Arc.{arc_value}
use Rattle.pf_book.proofs.OpenedBooks.{log-of}
use Rattle.pf_book.proofs.book.Book.log_len.Goals as goal

pub returns : goal.returns
returns g c =
    let counted : c.len.result ≡ length (map arc_value c.self.inside.log.items) = grind (arith, common_steps, c.len.ensures) in
    counted ∙ ap length (sym (log-of c.self.invariant c.self.view_is))
