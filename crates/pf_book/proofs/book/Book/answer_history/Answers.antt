use Rattle.std.proofs.{Common.{◌≡◌, ℕ, length, map, inl, refl, sym, ap, ◌∙◌, subst, arith}, lemmas.Grind.common_steps}
use Rattle.std.specs.Arc.{arc_value}
use Rattle.pf_core.specs.declared.{command.HistoryCommand.HistoryCommand, reply.Reply.TheVariants.Answer}
use Rattle.pf_core.specs.declared.reply.Answer.TheVariants as answer
use Rattle.pf_core.specs.Worlds.{flat}
use Rattle.pf_book.specs.Books.{PlainBook, world_book, log_in, AnswersHistory}
use Rattle.pf_book.proofs.OpenedBooks.{acked-of, log-of}
use Rattle.pf_book.proofs.book.Book.answer_history.Goals as goal

pub returns-in-Log-clause-reported : goal.returns-in-Log-clause-reported
returns-in-Log-clause-reported g c =
    let s = c.self.inside in
    let counted : c.len.result ≡ length (map arc_value s.log.items) = grind (arith, common_steps, c.len.ensures) in
    let all : c.len.result ≡ length (log_in (world_book c.args.self.now)) = counted ∙ ap length (sym (log-of c.self.invariant c.self.view_is)) in
    let acked : s.acked ≡ length (flat c.args.self.now.acked) = acked-of c.self.invariant c.self.view_is in
    let shown : c.len-in-Log.result ≡ c.args.self.now.shown = c.len-in-Log.ensures ∙ ap (λ (l : PlainBook g.row.D.Denot). l.shown) c.self.view_is in
    let is = ap (λ (n : ℕ). Answer (answer.Logged n s.acked c.len-in-Log.result)) all ∙ ap (λ (n : ℕ). Answer (answer.Logged (length (log_in (world_book c.args.self.now))) n c.len-in-Log.result)) acked
    ∙ ap (λ (n : ℕ). Answer (answer.Logged (length (log_in (world_book c.args.self.now))) (length (flat c.args.self.now.acked)) n)) shown in
    subst (λ (x : HistoryCommand). AnswersHistory x (Answer (answer.Logged c.len.result s.acked c.len-in-Log.result)) (world_book c.args.self.now) (world_book c.args.self.now)) (sym c.in-Log.is) (refl, is)

pub returns-then-show_all-clause-reported : goal.returns-then-show_all-clause-reported
returns-then-show_all-clause-reported g c =
    let s = c.self.inside in
    let acked : s.acked ≡ length (flat c.args.self.now.acked) = acked-of c.self.invariant c.self.view_is in
    subst (λ (x : HistoryCommand). AnswersHistory x (Answer (answer.Shown s.acked)) (world_book c.args.self.now) (world_book c.show_all.new.self)) (sym c.in-Publish.is)
    (inl (ap (λ (n : ℕ). Answer (answer.Shown n)) acked, c.if-show_all.ensures.shown))
